-- between two tickets the hand keeps its name
use Rattle.std.proofs.Common.{◌≡◌}
use Rattle.worker_crew.specs.Hands.{name_of}
use Rattle.worker_crew.proofs.hand.Hand.work.Given as goal

abbrev pub invariant-loop : goal.invariant-loop
invariant-loop g l =
    (goal.iterator-loop g).can_next l.iterator' × (goal.iterator-loop g).is_finite l.iterator'
    × (name_of l.self ≡ name_of l.initial.self)
