use Rattle.std.proofs.Common.{length}
use Rattle.rpc_laws.specs.ControlSteps.{EndsOutdated}
use Rattle.rpc_laws.specs.Steps.{Chain}
use Rattle.node_steps.specs.Handed.{timed_of}
use Rattle.node_steps.specs.Leaves.{LeavesPackets}
use Rattle.node_steps.specs.Notes.{Makes}
use Rattle.node_control.proofs.control.outdated.end_outdated.Given as goal

abbrev pub invariant-sessions : goal.invariant-sessions
invariant-sessions g l =
    Makes g.R.Recorder.log (Chain (EndsOutdated l.peer l.head)) (timed_of l.initial.node)
    (timed_of l.node) l.initial.rec l.rec
    × LeavesPackets l.initial.node l.node

abbrev pub decreases-sessions : goal.decreases-sessions
decreases-sessions g l = length l.node.lists.servers
