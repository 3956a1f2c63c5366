use Rattle.std.proofs.Common.{ap}
use Rattle.node_steps.specs.Handed.{timed_of}
use Rattle.node_steps.proofs.QueueFlushes.{flushed-all, flushed-more}
use Rattle.node_steps.proofs.ControlRemoval.{sessions-then}
use Rattle.node_steps.proofs.NoteSteps.{as-same}
use Rattle.node_control.proofs.control.removal.flush_replies.Goals as goal

pub packets-preserved : goal.packets-preserved
packets-preserved g c =
    let i = c.packets.invariant in
    let h = c.flush_reply.ensures in
    record {
      flushed = flushed-more g.R.Recorder.log c.args.owner.now _ _ _ _ _ _
          i.flushed (h.flush.makes c.packets-test.true);
      left = sessions-then _ _ _ i.left h.rest;
    }

pub returns-clause-step : goal.returns-clause-step
returns-clause-step g c = record {
  makes = let h = c.flush_reply.ensures in
      let none = h.flush.none c.packets-test.false in
      let same = ap timed_of (h.flush.unchanged c.packets-test.false) in
      let silent = h.flush.silent c.packets-test.false in
      as-same g.R.Recorder.log _ _ _ _ _ _ _ same silent
      (flushed-all g.R.Recorder.log c.args.owner.now _ _ _ _ none
      c.packets.invariant.flushed);
  rest = let h = c.flush_reply.ensures in
      sessions-then _ _ _ c.packets.invariant.left h.rest;
}
