use Rattle.std.proofs.Common.{length}
use Rattle.node_steps.specs.Ends.{LeavesSessions}
use Rattle.node_steps.specs.Handed.{timed_of}
use Rattle.node_steps.specs.Notes.{Makes}
use Rattle.node_steps.specs.Timers.{FlushesSome}
use Rattle.node_control.proofs.control.removal.flush_replies.Given as goal

abbrev pub invariant-packets : goal.invariant-packets
invariant-packets g l = record {
  flushed : Makes g.R.Recorder.log (FlushesSome l.owner) (timed_of l.initial.node)
      (timed_of l.node) l.initial.rec l.rec;
  left : LeavesSessions l.initial.node l.node;
}

abbrev pub decreases-packets : goal.decreases-packets
decreases-packets g l = length l.node.lists.queued
