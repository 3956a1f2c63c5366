-- the hands that are out with the spawner, and those that are kept, are all that are out
use Rattle.std.proofs.Common.{◌++◌, length}
use Rattle.worker_crew.specs.Crews.{AreOut, kept_by}
use Rattle.worker_crew.specs.Starting.{SameJobs}
use Rattle.worker_crew.proofs.crew.stopping.take_in_each.Given as goal

abbrev pub invariant-loop-hand : goal.invariant-loop-hand
invariant-loop-hand g l =
    AreOut l.dispatcher.board l.dispatcher.view.out
    (g.P.Spawner.hands_out l.spawner ++ kept_by l.manner) × SameJobs l.fn.dispatcher l.dispatcher

abbrev pub decreases-loop-hand : goal.decreases-loop-hand
decreases-loop-hand g l = length (g.P.Spawner.hands_out l.spawner)
