-- each hand keeps its name
use Rattle.std.proofs.Common.{◌≡◌}
use Rattle.worker_crew.specs.Crews.{names}
use Rattle.worker_crew.proofs.crew.working.step_each.Given as goal

abbrev pub invariant-loop-i : goal.invariant-loop-i
invariant-loop-i g l = names l.hands.items ≡ names l.initial.hands.items
