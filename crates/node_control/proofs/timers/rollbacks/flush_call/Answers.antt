use Rattle.std.proofs.Common.{ap, ◌∙◌}
use Rattle.rpc_base.specs.declared.owner.Owner.TheVariants.{Ask}
use Rattle.node_steps.proofs.QueueFlushes.{flushed-all, flushed-more}
use Rattle.node_steps.proofs.NoteSteps.{as-same}
use Rattle.node_steps.specs.Handed.{timed_of}
use Rattle.node_steps.proofs.LeavesSteps.{leaves-then}
use Rattle.node_control.proofs.timers.rollbacks.flush_call.Goals as goal

pub packets-preserved : goal.packets-preserved
packets-preserved g c =
    let i = c.packets.invariant in
    let h = c.flush_next.ensures in (
      flushed-more g.R.Recorder.log (Ask c.args.i c.args.request) _ _ _ _ _ _
          i.0 (h.flush.makes c.packets-test.true),
      h.clients ∙ i.1,
      leaves-then _ _ _ i.2 h.rest,
    )

pub returns : goal.returns
returns g c = record {
  makes = let h = c.flush_next.ensures in
      let none = h.flush.none c.packets-test.false in
      let same = ap timed_of (h.flush.unchanged c.packets-test.false) in
      let silent = h.flush.silent c.packets-test.false in
      as-same g.R.Recorder.log _ _ _ _ _ _ _ same silent
      (flushed-all g.R.Recorder.log (Ask c.args.i c.args.request) _ _ _ _ none
      c.packets.invariant.0);
  idle = rw (c.flush_next.ensures.flush.unchanged c.packets-test.false)
      (c.flush_next.ensures.flush.none c.packets-test.false);
  clients = c.flush_next.ensures.clients ∙ c.packets.invariant.1;
  rest = leaves-then _ _ _ c.packets.invariant.2 c.flush_next.ensures.rest;
}
