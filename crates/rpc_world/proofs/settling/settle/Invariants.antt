use Rattle.std.proofs.Common.{◌≤◌}
use Rattle.rpc_world.proofs.StageLemmas.{Goes}
use Rattle.rpc_world.proofs.settling.settle.Given as goal

abbrev pub invariant-rounds : goal.invariant-rounds
invariant-rounds l =
    Goes l.rounds l.i l.initial.stage l.stage l.initial.rec.facts.items l.rec.facts.items
    × (l.initial.memory ≤ l.memory)
