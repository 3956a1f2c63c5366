-- the calls that were taken out were counted, and those that are left come behind them
use Rattle.std.proofs.Common.{◌≡◌, ◌≤◌, List, ◌++◌, length, map}
use Rattle.client_core.specs.Shown.{done_fact}
use Rattle.client_core.specs.declared.outcome.Done.{Done}
use Rattle.load_run.specs.Tallies.{Counts}
use Rattle.load_run.proofs.ledger.Ledger.count_all.Given as goal

abbrev pub invariant-calls : goal.invariant-calls
invariant-calls l =
    (taken : List Done) × (l.initial.ended.dones.items ≡ taken ++ l.ended.dones.items)
    × Counts (map (done_fact 0) taken) l.initial.self l.self × (l.initial.memory ≤ l.memory)

abbrev pub decreases-calls : goal.decreases-calls
decreases-calls l = length l.ended.dones.items
