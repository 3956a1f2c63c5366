use Rattle.std.proofs.Common.{◌≤◌, ◌-◌}
use Rattle.node_steps.specs.Ends.{LeavesSessions}
use Rattle.node_steps.specs.Handed.{timed_of}
use Rattle.node_steps.specs.Notes.{Makes}
use Rattle.node_steps.proofs.ControlRemoval.{FlushesFirst}
use Rattle.node_control.proofs.control.removal.flush_slots.Given as goal

abbrev pub invariant-slots : goal.invariant-slots
invariant-slots g l = record {
  flushed : Makes g.R.Recorder.log (FlushesFirst l.i l.slot) (timed_of l.initial.node)
      (timed_of l.node) l.initial.rec l.rec;
  few : l.slot ≤ 8;
  left : LeavesSessions l.initial.node l.node;
}

abbrev pub decreases-slots : goal.decreases-slots
decreases-slots g l = 8 - l.slot
