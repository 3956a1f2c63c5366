use Rattle.std.proofs.Common.{◌≡◌, ◌≤◌, take}
use Rattle.rpc_laws.specs.Working.{worked_after_all}
use Rattle.rpc_world.proofs.finished.keep.Given as goal

abbrev pub invariant-loop-fact : goal.invariant-loop-fact
invariant-loop-fact l =
    (l.worked ≡ worked_after_all l.initial.worked (take l.fact-index l.facts)) × (l.initial.memory ≤ l.memory)
