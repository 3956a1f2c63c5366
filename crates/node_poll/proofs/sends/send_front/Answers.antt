use Rattle.std.proofs.Common.{ap}
use Rattle.node_steps.proofs.SendSteps.{fits-sent, front-fewer, front-there, node-sent}
use Rattle.node_steps.specs.Seen.{jobs_in}
use Rattle.node_steps.proofs.PostCallers.{covers-sent}
use Rattle.node_poll.proofs.sends.send_front.Goals as goal

pub sent-requires : goal.sent-requires
sent-requires g c =
    let front = rw c.in-Some.is at c.front.ensures.front in
    record { some = front-there c.node.inside.clock _ _ _ c.node.inside.store front }

pub invariant_of-node : goal.invariant_of-node
invariant_of-node g c =
    let front = rw c.in-Some.is at c.front.ensures.front in (
      fits-sent c.node.inside.me c.node.inside.limits
          (record {
            life = c.node.inside.life;
            known = c.node.inside.known;
            asked = c.node.inside.asked;
            server_numbers = c.node.inside.server_numbers;
            inbox = c.node.inside.inbox;
            counts = c.node.inside.counts;
          }) c.node.inside.paces.items (jobs_in c.node.inside.limits.jobs c.node.inside.given
          c.node.inside.jobs.items)
          c.node.inside.clock c.node.inside.rx c.node.inside.store c.sent.new.self c.node.invariant.0
          _ _ _ front c.sent.ensures.clients c.sent.ensures.servers c.sent.ensures.queued
          c.sent.ensures.size c.sent.ensures.places,
      c.node.invariant.1,
      covers-sent c.node.inside.callers _ _ _ _ _ front.front c.sent.ensures.clients
          c.node.invariant.2,
    )

pub returns-in-Whole-clause-sent : goal.returns-in-Whole-clause-sent
returns-in-Whole-clause-sent g c = λ went.
    let front = rw c.in-Some.is at c.front.ensures.front in
    let whole = c.in_ok-send.ensures.whole c.in-Whole.is in (
      rw (← c.node.view_is) (node-sent c.node.inside.me c.node.inside.limits
          (record {
            life = c.node.inside.life;
            known = c.node.inside.known;
            asked = c.node.inside.asked;
            server_numbers = c.node.inside.server_numbers;
            inbox = c.node.inside.inbox;
            counts = c.node.inside.counts;
          }) c.node.inside.paces.items (jobs_in c.node.inside.limits.jobs c.node.inside.given
          c.node.inside.jobs.items)
          c.node.inside.clock c.node.inside.rx c.node.inside.store c.sent.new.self c.node.invariant.0
          _ _ _ front c.sent.ensures.clients c.sent.ensures.servers c.sent.ensures.queued
          c.front.array_long g.R.Recorder.log g.L.Link.sent c.args.rec.now c.note.new.self
          c.args.link.now c.send.new.self _ _ _ (ap (λ e. e.peer) c.entry.view_is)
          (ap (λ e. e.owner) c.entry.view_is) (ap (λ e. e.number) c.entry.view_is)
          c.note.ensures whole.0),
      whole.1,
    )

pub returns-in-Whole-clause-fewer : goal.returns-in-Whole-clause-fewer
returns-in-Whole-clause-fewer g c = λ went.
    let front = rw c.in-Some.is at c.front.ensures.front in
    rw (← c.node.view_is) (front-fewer c.node.inside.clock c.in-Some.packet.entry
    c.node.inside.store.queued c.sent.new.self.queued front.front c.sent.ensures.queued)
