-- the hands with the numbers below this one are out, and no memory was refused
use Rattle.std.proofs.Common.{◌≡◌, ◌≤◌}
use Rattle.std.specs.VecDeque.{deque_capacity}
use Rattle.worker_crew.specs.Crews.{names}
use Rattle.worker_crew.specs.Starting.{HaveGoneOut}
use Rattle.worker_crew.proofs.crew.starting.make_hands.Given as goal

abbrev pub invariant-loop-number : goal.invariant-loop-number
invariant-loop-number g l =
    HaveGoneOut l.number (names l.made.items) l.fn.dispatcher l.dispatcher
    × (l.count ≤ deque_capacity l.made) × (l.memory ≡ l.fn.memory)
