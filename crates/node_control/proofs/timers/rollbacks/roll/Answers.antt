use Rattle.node_steps.proofs.LeavesSteps.{leaves-then}
use Rattle.node_steps.proofs.TimerRollbacks.{rolled-whole}
use Rattle.node_control.proofs.timers.rollbacks.roll.Goals as goal

pub returns : goal.returns
returns g c = record {
  makes = rolled-whole g.R.Recorder.log c.args.i c.args.active.now _ _ _ _ _ _
      c.flush_call.ensures.rest.me c.flush_call.ensures.makes c.roll_idle.ensures.makes;
  rest = leaves-then _ _ _ c.flush_call.ensures.rest c.roll_idle.ensures.rest;
}
