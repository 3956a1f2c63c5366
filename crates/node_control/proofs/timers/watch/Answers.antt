use Rattle.std.proofs.Common.{refl, arith, ◌∙◌, ◌+◌, ◌||◌, ap, ◌≡◌, length}
use Rattle.rpc_laws.specs.ControlSteps.{TimesSession}
use Rattle.rpc_laws.specs.Steps.{Visits}
use Rattle.node_steps.proofs.LeavesSteps.{timed-none, timed-then}
use Rattle.node_steps.proofs.NoteSteps.{none-comes}
use Rattle.node_steps.proofs.TimerSessions.{all-timed, times-none, times-up, times-visit}
use Rattle.node_control.proofs.timers.watch.Goals as goal

pub sessions-init : goal.sessions-init
sessions-init g c = record {
  timed = times-none g.R.Recorder.log g.K.Continuation.given g.L.Link
      (Visits (TimesSession c.node.inside.limits.timeout) 0) _ _ _ _ (λ asks. (refl, refl));
  rest = timed-none g.K.Continuation.given _ _;
  within = omega arith;
  lists = record { waits = refl; stays = refl };
  few = omega arith;
}

pub sessions-preserved : goal.sessions-preserved
sessions-preserved g c =
    let i = c.sessions.invariant in
    let h = c.watch_session-one.ensures in
    let next = rw c.in-Some.is at c.next_caller.ensures in
    record {
      timed = times-visit g.R.Recorder.log g.K.Continuation.given g.L.Link (record {
        sent = c.sessions.told.sent + c.watch_session-one.result.sent;
        failed = c.sessions.told.failed || c.watch_session-one.result.failed;
      }) (TimesSession c.node.inside.limits.timeout) c.in-Some.i
          _ _ _ _ _ _ _ _ _ _ _ _ _ (omega arith) i.rest.me refl refl
          (times-up g.R.Recorder.log g.K.Continuation.given g.L.Link c.node.inside.limits.timeout c.sessions.from c.in-Some.i
          _ _ _ _ _ _ _ _ next.0 next.2 i.timed) h.step.timed;
      rest = timed-then g.K.Continuation.given _ _ _ _ _ _ i.rest h.step.rest;
      within = omega (arith, next.1);
      lists = none-comes g.L.Link.waiting g.L.Link.received _ _ _ i.lists h.step.lists;
      few = omega (arith, i.few, h.few, next.0);
    }

pub returns-clause-step : goal.returns-clause-step
returns-clause-step g c = record {
  timed = let i = c.sessions.invariant in
      let none = rw c.in_default.is at c.next_caller.ensures in
      let many : c.clients-count.result ≡ length c.args.node.now.lists.clients =
      c.clients-count.ensures.count ∙ ap (λ t. length t.lists.clients) c.node.view_is in
      all-timed g.R.Recorder.log g.K.Continuation.given g.L.Link c.node.inside.limits.timeout c.clients-count.result _ _ _ _ _ _
      _ _ (ap (λ t. t.lists.timeout) c.node.view_is) many
      (times-up g.R.Recorder.log g.K.Continuation.given g.L.Link c.node.inside.limits.timeout c.sessions.from
      c.clients-count.result _ _ _ _ _ _ _ _ i.within none i.timed);
  rest = c.sessions.invariant.rest;
  lists = c.sessions.invariant.lists;
}
