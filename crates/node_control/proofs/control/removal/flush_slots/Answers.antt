use Rattle.std.proofs.Common.{◌≡◌, arith}
use Rattle.node_steps.proofs.ControlRemoval.{all-flushed, drained-whole, flushes-more}
use Rattle.node_steps.proofs.ControlRemoval.{sessions-then}
use Rattle.node_control.proofs.control.removal.flush_slots.Goals as goal

pub slots-preserved : goal.slots-preserved
slots-preserved g c =
    let i = c.slots.invariant in
    let h = c.flush_slot.ensures in
    record {
      flushed = flushes-more g.R.Recorder.log c.args.i c.slots.slot _ _ _ _ _ _
          c.slots-test.true i.flushed h.makes;
      few = omega (arith, c.slots-test.true);
      left = sessions-then _ _ _ i.left h.rest;
    }

pub returns-clause-step : goal.returns-clause-step
returns-clause-step g c = record {
  makes = let last : c.slots.slot ≡ 8 = omega (arith, c.slots.invariant.few, c.slots-test.false) in
      all-flushed g.R.Recorder.log c.args.i c.slots.slot _ _ _ _ last
      c.slots.invariant.flushed;
  rest = c.slots.invariant.left;
}

pub returns-clause-drained : goal.returns-clause-drained
returns-clause-drained g c =
    let last : c.slots.slot ≡ 8 = omega (arith, c.slots.invariant.few, c.slots-test.false) in
    drained-whole g.R.Recorder.log c.args.i c.slots.slot _ _ _ _ last
    c.sound.ensures.kept.valid.served c.slots.invariant.left.servers c.slots.invariant.flushed
