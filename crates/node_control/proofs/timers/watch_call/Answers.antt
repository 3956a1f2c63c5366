use Rattle.std.proofs.Common.{ap, subst}
use Rattle.node_laws.specs.Valid.{NumberedFrom, client_no}
use Rattle.node_steps.proofs.TimerSteps.{watch-breaks, watch-rolls, watch-waits}
use Rattle.node_steps.specs.Handed.{timed_of}
use Rattle.node_steps.proofs.LeavesSteps.{serving-timed, timed-none}
use Rattle.std.proofs.Common.{refl}
use Rattle.node_control.proofs.timers.watch_call.Goals as goal

pub returns-in-Waits : goal.returns-in-Waits
returns-in-Waits g c = record {
  ended = watch-waits c.args.timeout c.args.i c.args.active.now (timed_of c.args.node.now) c.node.inside.clock
      c.node.inside.store (ap (λ t. t.lists.clients) c.node.view_is)
      (ap (λ t. t.lists.queued) c.node.view_is) (ap (λ t. t.clock) c.node.view_is)
      c.requires.active
      (subst (λ t. NumberedFrom client_no 0 t.lists.clients) c.node.view_is
      c.node.invariant.0.kept.valid.numbered) g.R.Recorder.log
      g.K.Continuation.given _ _ (rw c.in-Waits.is at c.timer.ensures);
  rest = timed-none g.K.Continuation.given _ _;
}

pub returns-in-RollsBack : goal.returns-in-RollsBack
returns-in-RollsBack g c = record {
  ended = watch-rolls c.args.timeout c.args.i c.args.active.now (timed_of c.args.node.now) c.node.inside.clock
      c.node.inside.store (ap (λ t. t.lists.clients) c.node.view_is)
      (ap (λ t. t.lists.queued) c.node.view_is) (ap (λ t. t.clock) c.node.view_is)
      c.requires.active
      (subst (λ t. NumberedFrom client_no 0 t.lists.clients) c.node.view_is
      c.node.invariant.0.kept.valid.numbered) g.R.Recorder.log
      g.K.Continuation.given _ _ _ _ (rw c.in-RollsBack.is at c.timer.ensures)
      c.roll.ensures.makes;
  rest = serving-timed g.K.Continuation.given _ _ _ _ c.roll.ensures.rest refl;
}

pub returns-in-Breaks : goal.returns-in-Breaks
returns-in-Breaks g c = record {
  ended = watch-breaks c.args.timeout c.args.i c.args.active.now (timed_of c.args.node.now) c.node.inside.clock
      c.node.inside.store (ap (λ t. t.lists.clients) c.node.view_is)
      (ap (λ t. t.lists.queued) c.node.view_is) (ap (λ t. t.clock) c.node.view_is)
      c.requires.active
      (subst (λ t. NumberedFrom client_no 0 t.lists.clients) c.node.view_is
      c.node.invariant.0.kept.valid.numbered) g.R.Recorder.log
      g.K.Continuation.given _ _ _ _ _ (rw c.in-Breaks.is at c.timer.ensures)
      c.break_session.ensures.ended;
  rest = c.break_session.ensures.rest;
}
