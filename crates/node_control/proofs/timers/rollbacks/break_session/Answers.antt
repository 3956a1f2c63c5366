use Rattle.node_steps.proofs.TimerBreaks.{broken-whole}
use Rattle.node_steps.proofs.LeavesSteps.{serving-timed, timed-then}
use Rattle.std.proofs.Common.{refl}
use Rattle.node_control.proofs.timers.rollbacks.break_session.Goals as goal

pub returns : goal.returns
returns g c = record {
  ended = let h = c.flush_session.ensures in
      broken-whole g.R.Recorder.log g.K.Continuation.given c.args.i _ _ _ _ _ _ _
      _ h.rest.me h.clients h.makes c.break_idle.ensures.ended;
  rest = timed-then g.K.Continuation.given _ _ _ _ _ _ (serving-timed g.K.Continuation.given _ _ _ _
      c.flush_session.ensures.rest refl) c.break_idle.ensures.rest;
}
