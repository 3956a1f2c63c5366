use Rattle.std.proofs.Common.{ap}
use Rattle.node_steps.proofs.TimerNext.{ascends-calls}
use Rattle.node_steps.proofs.TimerCalls.{early-ends, fewer-still, known-more, known-start}
use Rattle.node_steps.proofs.TimerCalls.{walk-more, walk-over, walk-start}
use Rattle.node_steps.proofs.TimerSteps.{ends-same}
use Rattle.node_steps.specs.Handed.{timed_of}
use Rattle.node_steps.proofs.LeavesSteps.{timed-none, timed-then}
use Rattle.node_control.proofs.timers.watch_calls.Goals as goal

pub returns-then-not-has_late : goal.returns-then-not-has_late
returns-then-not-has_late g c = record {
  ended = early-ends g.R.Recorder.log g.K.Continuation.given c.args.timeout c.args.i
      (timed_of c.args.node.now) _ _
      (rw (← c.node.view_is) (rw c.if-not-has_late.true at c.has_late.ensures));
  rest = timed-none g.K.Continuation.given _ _;
}

pub calls-init : goal.calls-init
calls-init g c = (
  walk-start g.R.Recorder.log g.K.Continuation.given c.args.timeout c.args.i _
      _ _,
  known-start c.args.i (timed_of c.args.node.now),
  timed-none g.K.Continuation.given _ _,
)

pub calls-smaller : goal.calls-smaller
calls-smaller g c =
    let i = c.calls.invariant in
    let order = ascends-calls c.args.i c.node.inside.store.clients c.args.node.now.lists.clients
    (ap (λ t. t.lists.clients) c.node.view_is) c.node.invariant.0.ascends in
    let looks = rw c.in-Some.is at c.watch_next.ensures.looks in
    fewer-still g.R.Recorder.log g.K.Continuation.given c.args.timeout
    c.args.i c.calls.after (timed_of c.args.node.now) (timed_of c.calls.node)
    c.args.rec.now c.calls.rec c.args.k.now c.calls.k i.0 i.1 order
    c.watch_next.ensures.order i.2.me c.in-Some.call
    (timed_of c.watch_next.new.node) c.watch_next.new.rec c.watch_next.new.k looks.0 looks.1

pub calls-preserved : goal.calls-preserved
calls-preserved g c =
    let i = c.calls.invariant in
    let order = ascends-calls c.args.i c.node.inside.store.clients c.args.node.now.lists.clients
    (ap (λ t. t.lists.clients) c.node.view_is) c.node.invariant.0.ascends in
    let looks = rw c.in-Some.is at c.watch_next.ensures.looks in (
      walk-more g.R.Recorder.log g.K.Continuation.given c.args.timeout
          c.args.i c.calls.after (timed_of c.args.node.now) (timed_of c.calls.node)
          c.args.rec.now c.calls.rec c.args.k.now c.calls.k i.0 i.1 order
          c.watch_next.ensures.order i.2.me c.in-Some.call
          (timed_of c.watch_next.new.node)
          c.watch_next.new.rec c.watch_next.new.k looks.0 looks.1,
      known-more g.R.Recorder.log g.K.Continuation.given c.args.timeout
          c.args.i c.calls.after (timed_of c.args.node.now) (timed_of c.calls.node)
          c.args.rec.now c.calls.rec c.args.k.now c.calls.k i.0 i.1 order
          c.watch_next.ensures.order i.2.me c.in-Some.call
          (timed_of c.watch_next.new.node)
          c.watch_next.new.rec c.watch_next.new.k looks.0 looks.1,
      timed-then g.K.Continuation.given _ _ _ _ _ _ i.2 c.watch_next.ensures.rest,
    )

pub returns : goal.returns
returns g c = record {
  ended = let i = c.calls.invariant in
      let looks = rw c.in_default.is at c.watch_next.ensures.looks in
      ends-same g.R.Recorder.log g.K.Continuation.given _ _ _ _ _ _ _ _ _ _
      looks.1 looks.2 looks.3
      (walk-over g.R.Recorder.log g.K.Continuation.given c.args.timeout c.args.i
      c.calls.after _ _ _ _ _ _ i.0 looks.0);
  rest = timed-then g.K.Continuation.given _ _ _ _ _ _ c.calls.invariant.2 c.watch_next.ensures.rest;
}
