use Rattle.std.proofs.Common.{ap, arith, length, refl, rules, ◌≤◌}
use Rattle.rpc_laws.specs.ControlSteps.{TimesSession}
use Rattle.node_steps.specs.Leaves.{LeavesServing}
use Rattle.node_steps.proofs.LeavesSteps.{serving-timed, timed-none, timed-then}
use Rattle.node_steps.proofs.TimerSessions.{session-times, times-none}
use Rattle.node_steps.proofs.TimerSteps.{session-none}
use Rattle.node_control.proofs.timers.watch_session.Goals as goal

pub returns-then-i-clients-clause-step : goal.returns-then-i-clients-clause-step
returns-then-i-clients-clause-step g c = record {
  timed = let past : length c.args.node.now.lists.clients ≤ c.args.i =
      omega (
        arith,
        c.if-i-clients.true,
        c.clients.ensures.count,
        ap (λ t. length t.lists.clients) c.node.view_is,
      ) in
      times-none g.R.Recorder.log g.K.Continuation.given g.L.Link (TimesSession c.args.timeout c.args.i) _ _ _ _
      (λ asks. session-none c.args.timeout c.args.i _ past);
  rest = timed-none g.K.Continuation.given _ _;
  lists = record { waits = refl; stays = refl };
}

pub returns-clause-step : goal.returns-clause-step
returns-clause-step g c = record {
  timed = let left : LeavesServing c.args.node.now c.retry-went.new.node = search rules in
      session-times g.R.Recorder.log g.K.Continuation.given g.L.Link c.args.timeout c.args.i _ _ _ _ _ _ _ _ _ _
      left.me c.retry-went.ensures.spoken c.watch_calls.ensures.ended;
  rest = let left : LeavesServing c.args.node.now c.retry-went.new.node = search rules in
      timed-then g.K.Continuation.given _ _ _ _ _ _ (serving-timed g.K.Continuation.given _ _ _ _
      left refl) c.watch_calls.ensures.rest;
  lists = c.retry-went.ensures.lists;
}
