use Rattle.std.proofs.Common.{◌≡◌, length}
use Rattle.rpc_base.specs.declared.owner.Owner.TheVariants.{Ask}
use Rattle.node_steps.specs.Notes.{Makes}
use Rattle.node_steps.specs.Timers.{FlushesSome}
use Rattle.node_steps.specs.Handed.{timed_of}
use Rattle.node_steps.specs.Leaves.{LeavesServing}
use Rattle.node_control.proofs.timers.rollbacks.flush_call.Given as goal

abbrev pub invariant-packets : goal.invariant-packets
invariant-packets g l =
    Makes g.R.Recorder.log (FlushesSome (Ask l.i l.request)) (timed_of l.initial.node)
    (timed_of l.node) l.initial.rec l.rec
    × (l.node.lists.clients ≡ l.initial.node.lists.clients)
    × LeavesServing l.initial.node l.node

abbrev pub decreases-packets : goal.decreases-packets
decreases-packets g l = length l.node.lists.queued
