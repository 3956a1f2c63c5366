use Rattle.std.proofs.Common.{◌≡◌, false, [], ap, ◌∙◌, refl, arith, IfSome, rules}
use Rattle.node_steps.specs.Handed.{timed_of}
use Rattle.endpoint_loop.specs.Polls.{is_stopped, turn_of}
use Rattle.node_steps.proofs.HandedBack.{gives-more, gives-same}
use Rattle.endpoint_loop.proofs.PollLaw.{IsCounted, makes-poll, still-serving, turn-busy}
use Rattle.endpoint_loop.proofs.PollLaw.{turn-cause, turn-counted, turn-sent}
use Rattle.endpoint_loop.proofs.StandingLaw.{goes-polled}
use Rattle.rpc_laws.specs.Pacing.{line}
use Rattle.endpoint_loop.proofs.endpoint.Endpoint.poll.Goals as goal

pub handle_all-handled-requires-clause-serving : goal.handle_all-handled-requires-clause-serving
handle_all-handled-requires-clause-serving g c = record {
  served = c.hear_all-heard.ensures.step.rest.served g.V.Service.mode_of
      (c.finish_all.ensures.step.rest.served g.V.Service.mode_of
      (rw (c.raise_clock.ensures) c.self.invariant.served));
  founded = c.self.invariant.founded;
}

pub invariant_of-self : goal.invariant_of-self
invariant_of-self g c =
    let h = c.handle_all-handled.ensures.handles in
    let heard = c.hear_all-heard.ensures.step.rest.jobs in
    still-serving _ _ _ (timed_of c.hear_all-heard.new.node)
    (timed_of c.handle_all-handled.new.node) (timed_of c.close.new.node) h.gave
    c.handle_all-handled.ensures.rest.founded c.self.invariant.works c.handle_all-handled.ensures.rest.served
    (c.close.ensures.rest.servers ∙ c.send_all-sent.ensures.rest.servers
    ∙ c.post_sessions.ensures.rest.servers ∙ c.watch-asked.ensures.step.rest.servers)
    (rw heard (c.finish_all.ensures.step.rest.background g.V.Service.mode_of (rw (c.raise_clock.ensures)
    c.self.invariant.background))) h.background
    h.jobs
    (c.close.ensures.rest.jobs ∙ c.send_all-sent.ensures.rest.jobs
    ∙ c.post_sessions.ensures.rest.jobs ∙ c.watch-asked.ensures.step.rest.jobs)

pub returns : goal.returns
returns g c =
    let inside = makes-poll g.R.Recorder.log g.K.Continuation.given
    g.L.Link
    g.V.Service g.W.Workers c.self.invariant.works c.args.now (timed_of c.self.inside.node)
    (timed_of c.finish_all.new.node) (timed_of c.hear_all-heard.new.node)
    (timed_of c.handle_all-handled.new.node) (timed_of c.watch-asked.new.node)
    (timed_of c.post_sessions.new.node) (timed_of c.send_all-sent.new.node)
    (timed_of c.close.new.node) c.self.inside.workers c.finish_all.new.workers c.handle_all-handled.new.workers
    c.self.inside.service c.handle_all-handled.new.service c.args.rec.now c.finish_all.new.rec
    c.hear_all-heard.new.rec c.handle_all-handled.new.rec c.watch-asked.new.rec
    c.post_sessions.new.rec c.send_all-sent.new.rec c.close.new.rec c.args.k.now
    c.handle_all-handled.new.k c.watch-asked.new.k c.args.link.now c.hear_all-heard.new.link
    c.watch-asked.new.link c.send_all-sent.new.link c.args.memory.now c.hear_all-heard.new.memory
    c.handle_all-handled.new.memory c.self.invariant.background
    (rw (c.raise_clock.ensures) at c.finish_all.ensures.step.makes) c.finish_all.ensures.over
    c.finish_all.ensures.step.limit c.finish_all.ensures.step.given c.finish_all.ensures.step.waiting
    c.hear_all-heard.result c.watch-asked.result
    c.hear_all-heard.ensures.step.listens c.hear_all-heard.ensures.step.rest.jobs c.hear_all-heard.ensures.step.rest.me
    c.hear_all-heard.ensures.step.rest.ring c.hear_all-heard.ensures.inbox c.handle_all-handled.ensures.handles
    c.handle_all-handled.ensures.rest.worked c.handle_all-handled.ensures.rest.looks
    c.handle_all-handled.ensures.rest.me c.watch-asked.ensures.step.timed
    c.post_sessions.ensures.makes c.send_all-sent.ensures.sent c.send_all-sent.ensures.held
    c.close.ensures.makes (turn_of c.turn_by.result) all
    (c.close.ensures.rest.jobs ∙ c.send_all-sent.ensures.rest.jobs
    ∙ c.post_sessions.ensures.rest.jobs ∙ c.watch-asked.ensures.step.rest.jobs) c.sound.ensures.kept counted
    c.self.inside.node.handed c.close.new.node.handed in
    record {
      polls = rw (← c.self.view_is) inside;
      goes_on = rw (← c.self.view_is) (goes-polled g.R.Recorder.log g.K.Continuation.given
          g.V.Service g.W.Workers _ _ _ _ _ _ _ _ _ _ inside);
      busy = turn-busy c.handle_all-handled.result c.hear_all-heard.result c.watch-asked.result
          c.send_all-sent.result _ _ _ _
          c.hear_all-heard.ensures.step.listens.counts.held.busies.no_less
          c.watch-asked.ensures.step.timed.link.counts.held.busies.no_less
          c.send_all-sent.ensures.busy c.turn_by.result c.turn_by.ensures;
      team = search rules;
      lists = search rules;
      cause = turn-cause c.handle_all-handled.result c.hear_all-heard.result c.watch-asked.result
          c.send_all-sent.result _ _ _ _ c.hear_all-heard.ensures.step.listens.counts.cause
          c.watch-asked.ensures.step.timed.link.counts.cause c.send_all-sent.ensures.cause
          c.turn_by.result c.turn_by.ensures;
      handed =
          let raised = ap (λ v. v.handed) c.raise_clock.ensures in
          let before = gives-same g.K.Continuation.given c.self.inside.node.handed
          c.hear_all-heard.new.node.handed c.args.k.now c.args.k.now
          (c.hear_all-heard.ensures.step.rest.handed ∙ c.finish_all.ensures.step.rest.handed
          ∙ raised) refl in
          let after = gives-same g.K.Continuation.given c.watch-asked.new.node.handed
          c.close.new.node.handed c.watch-asked.new.k c.watch-asked.new.k
          (c.close.ensures.rest.handed ∙ c.send_all-sent.ensures.rest.handed
          ∙ c.post_sessions.ensures.rest.handed)
          refl in
          rw (← c.self.view_is) (gives-more g.K.Continuation.given _ _ _ _ _ _ before
          (gives-more g.K.Continuation.given _ _ _ _ _ _ c.handle_all-handled.ensures.rest.handed
          (gives-more g.K.Continuation.given _ _ _ _ _ _ c.watch-asked.ensures.step.rest.handed
          after)));
      no_less =
          let heard = c.hear_all-heard.ensures.step.listens.wants.no_less in
          let handled = c.handle_all-handled.ensures.handles.wants.no_less in
          omega (arith, heard, handled);
    }
  where
    all : is_stopped (turn_of c.turn_by.result) ≡ false → line c.send_all-sent.new.node.clock
        c.send_all-sent.new.node.lists.queued ≡ []
    all = rw c.turn_by.ensures (λ e. (turn-sent _ c.hear_all-heard.result c.watch-asked.result
        c.send_all-sent.result _ c.send_all-sent.ensures.all e).0)

    counted : IfSome (turn_of c.turn_by.result) (IsCounted c.hear_all-heard.result
        c.watch-asked.result (timed_of c.hear_all-heard.new.node)
        (timed_of c.handle_all-handled.new.node) (timed_of c.post_sessions.new.node)
        (timed_of c.send_all-sent.new.node))
    counted = rw c.turn_by.ensures (turn-counted c.handle_all-handled.result
        c.hear_all-heard.result c.watch-asked.result c.send_all-sent.result
        (timed_of c.hear_all-heard.new.node)
        (timed_of c.handle_all-handled.new.node) (timed_of c.post_sessions.new.node)
        (timed_of c.send_all-sent.new.node) c.handle_all-handled.ensures.count
        c.send_all-sent.ensures.count)
