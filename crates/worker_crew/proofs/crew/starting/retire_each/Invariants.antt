-- the hands that are left are those that are out
use Rattle.std.proofs.Common.{◌≡◌, vec_len}
use Rattle.worker_crew.specs.Crews.{AreOut, names}
use Rattle.worker_crew.specs.Starting.{SameJobs}
use Rattle.worker_crew.proofs.crew.starting.retire_each.Given as goal

abbrev pub invariant-loop-hand : goal.invariant-loop-hand
invariant-loop-hand g l =
    AreOut l.dispatcher.board l.dispatcher.view.out (names l.hands.items)
    × SameJobs l.fn.dispatcher l.dispatcher
    × (l.dispatcher.view.used ≡ l.fn.dispatcher.view.used)

abbrev pub decreases-loop-hand : goal.decreases-loop-hand
decreases-loop-hand g l = vec_len l.hands
