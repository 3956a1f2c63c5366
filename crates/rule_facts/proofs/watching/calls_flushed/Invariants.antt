use Rattle.std.proofs.Common.{◌≡◌, ◌≤◌, Some, length, take}
use Rattle.std.specs.Prelude.{flat_map}
use Rattle.rpc_laws.specs.GoBackN.{flushes_of}
use Rattle.rule_facts.specs.Fronts.{Fronts}
use Rattle.rule_facts.proofs.watching.calls_flushed.Given as goal

abbrev pub invariant-loop-place : goal.invariant-loop-place
invariant-loop-place l =
    Fronts (flat_map (λ c. flushes_of l.me l.session l.queued c.progress) (take l.place l.calls))
    l.facts (Some l.count)
    × (l.count ≤ length l.facts)
    × (l.memory ≡ l.initial.memory)
