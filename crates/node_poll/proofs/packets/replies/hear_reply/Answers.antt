use Rattle.std.proofs.Common.{refl, sym, ap, ◌∙◌, arith}
use Rattle.std.specs.Option.{option_copied}
use Rattle.packet_header.specs.Reading.{body_of}
use Rattle.packet_header.specs.declared.packet.MessageHeader.{MessageHeader}
use Rattle.node_steps.proofs.PacketReplies.{as-told, fits-dropped, fits-ended, fits-took}
use Rattle.node_steps.proofs.PacketReplies.{node-dropped, node-ended, node-took, node-unheard}
use Rattle.node_steps.proofs.PacketReplies.{ring-left, some-front}
use Rattle.node_steps.specs.Seen.{jobs_in}
use Rattle.node_steps.proofs.PostCallers.{covers-replied}
use Rattle.node_steps.specs.Handed.{timed_of}
use Rattle.session_store.specs.Handing.{HandsBackAt}
use Rattle.std.proofs.Common.{subst}
use Rattle.node_poll.proofs.packets.replies.hear_reply.Goals as goal

pub unreachable-requires : goal.unreachable-requires
unreachable-requires g c =
    let front = rw (← c.node.view_is) at c.requires.front in
    some-front c.node.inside.rx.items c.args.head.now _ c.front.ensures (ap option_copied c.in_default.is) front

pub returns-then-i-clients-clause-hears : goal.returns-then-i-clients-clause-hears
returns-then-i-clients-clause-hears g c =
    let front = rw (← c.node.view_is) at c.requires.front in
    let here = sym c.front.ensures ∙ ap option_copied c.in-Some.is in
    let number = ap (λ (v : MessageHeader). v.session) (sym c.head.view_is) ∙ sym c.from-i.ensures in
    let made = rw (← c.node.view_is) at c.drop_front.ensures.drops in
    rw (← c.node.view_is) (node-unheard c.node.inside.me c.node.inside.limits
    (record {
      life = c.node.inside.life;
      known = c.node.inside.known;
      asked = c.node.inside.asked;
      server_numbers = c.node.inside.server_numbers;
      inbox = c.node.inside.inbox;
      counts = c.node.inside.counts;
    }) c.node.inside.paces.items (jobs_in c.node.inside.limits.jobs c.node.inside.given c.node.inside.jobs.items)
    c.node.inside.clock c.node.inside.rx c.node.inside.store c.node.invariant.0 c.args.head.now
    c.in-Some.front.now front here g.R.Recorder.log c.args.rec.now
    c.drop_front.new.rec (timed_of c.drop_front.new.node)
    (omega (arith, c.if-i-clients.true, c.clients.ensures.count, number)) made)

pub invariant_of-node : goal.invariant_of-node
invariant_of-node g c =
    let front = rw (← c.node.view_is) at c.requires.front in
    let here = sym c.front.ensures ∙ ap option_copied c.in-Some.is in
    let number = ap (λ (v : MessageHeader). v.session) (sym c.head.view_is) ∙ sym c.from-i.ensures in
    let p = as-told _ _ _ _ _ _ _ _ _ _ _ c.peer.ensures
    (c.body.ensures ∙ ap body_of c.bytes.ensures.bytes) c.in-Dropped.ensures.clients in (
      fits-dropped c.node.inside.me c.node.inside.limits
          (record {
            life = c.node.inside.life;
            known = c.node.inside.known;
            asked = c.node.inside.asked;
            server_numbers = c.node.inside.server_numbers;
            inbox = c.node.inside.inbox;
            counts = c.node.inside.counts;
          }) c.node.inside.paces.items (jobs_in c.node.inside.limits.jobs c.node.inside.given
          c.node.inside.jobs.items)
          c.node.inside.clock c.node.inside.rx c.node.inside.store c.node.invariant.0 c.args.head.now
          c.in-Some.front.now front here c.from-i.result number c.on_reply-reply.new.self
          c.on_reply-reply.ensures.servers c.on_reply-reply.ensures.queued
          c.on_reply-reply.ensures.size c.on_reply-reply.ensures.places c.in-Dropped.reason p,
      c.node.invariant.1,
      covers-replied c.node.inside.callers c.from-i.result _ _ _ _ _ _ _ _ p c.node.invariant.2,
    )

pub returns-in-Dropped-clause-hears : goal.returns-in-Dropped-clause-hears
returns-in-Dropped-clause-hears g c =
    let front = rw (← c.node.view_is) at c.requires.front in
    let here = sym c.front.ensures ∙ ap option_copied c.in-Some.is in
    let number = ap (λ (v : MessageHeader). v.session) (sym c.head.view_is) ∙ sym c.from-i.ensures in
    let p = as-told _ _ _ _ _ _ _ _ _ _ _ c.peer.ensures
    (c.body.ensures ∙ ap body_of c.bytes.ensures.bytes) c.in-Dropped.ensures.clients in
    rw (← c.node.view_is) (node-dropped c.node.inside.me c.node.inside.limits
    (record {
      life = c.node.inside.life;
      known = c.node.inside.known;
      asked = c.node.inside.asked;
      server_numbers = c.node.inside.server_numbers;
      inbox = c.node.inside.inbox;
      counts = c.node.inside.counts;
    }) c.node.inside.paces.items (jobs_in c.node.inside.limits.jobs c.node.inside.given c.node.inside.jobs.items)
    c.node.inside.clock c.node.inside.rx c.node.inside.store c.node.invariant.0 c.args.head.now
    c.in-Some.front.now front here c.from-i.result number c.on_reply-reply.new.self
    c.on_reply-reply.ensures.servers c.on_reply-reply.ensures.queued
    c.on_reply-reply.ensures.size c.on_reply-reply.ensures.places c.in-Dropped.reason p
    g.R.Recorder.log c.args.rec.now c.drop_front-in-Dropped.new.rec
    (timed_of c.drop_front-in-Dropped.new.node) c.drop_front-in-Dropped.ensures.drops)

pub invariant_of-node-in-Took : goal.invariant_of-node-in-Took
invariant_of-node-in-Took g c =
    let front = rw (← c.node.view_is) at c.requires.front in
    let here = sym c.front.ensures ∙ ap option_copied c.in-Some.is in
    let number = ap (λ (v : MessageHeader). v.session) (sym c.head.view_is) ∙ sym c.from-i.ensures in
    let p = as-told _ _ _ _ _ _ _ _ _ _ _ c.peer.ensures
    (c.body.ensures ∙ ap body_of c.bytes.ensures.bytes) c.in-Took.ensures.clients in (
      fits-took c.node.inside.me c.node.inside.limits
          (record {
            life = c.node.inside.life;
            known = c.node.inside.known;
            asked = c.node.inside.asked;
            server_numbers = c.node.inside.server_numbers;
            inbox = c.node.inside.inbox;
            counts = c.node.inside.counts;
          }) c.node.inside.paces.items (jobs_in c.node.inside.limits.jobs c.node.inside.given
          c.node.inside.jobs.items)
          c.node.inside.clock c.node.inside.rx c.node.inside.store c.node.invariant.0 c.args.head.now
          c.in-Some.front.now front here c.from-i.result number c.on_reply-reply.new.self
          c.on_reply-reply.ensures.servers c.on_reply-reply.ensures.queued
          c.on_reply-reply.ensures.size c.on_reply-reply.ensures.places c.drop_front-in-Took.new.self
          c.drop_front-in-Took.ensures p,
      rw c.drop_front-in-Took.ensures c.node.invariant.1,
      covers-replied c.node.inside.callers c.from-i.result _ _ _ _ _ _ _ _ p c.node.invariant.2,
    )

pub returns-in-Took-clause-hears : goal.returns-in-Took-clause-hears
returns-in-Took-clause-hears g c =
    let front = rw (← c.node.view_is) at c.requires.front in
    let here = sym c.front.ensures ∙ ap option_copied c.in-Some.is in
    let number = ap (λ (v : MessageHeader). v.session) (sym c.head.view_is) ∙ sym c.from-i.ensures in
    let p = as-told _ _ _ _ _ _ _ _ _ _ _ c.peer.ensures
    (c.body.ensures ∙ ap body_of c.bytes.ensures.bytes) c.in-Took.ensures.clients in
    rw (← c.node.view_is) (node-took c.node.inside.me c.node.inside.limits
    (record {
      life = c.node.inside.life;
      known = c.node.inside.known;
      asked = c.node.inside.asked;
      server_numbers = c.node.inside.server_numbers;
      inbox = c.node.inside.inbox;
      counts = c.node.inside.counts;
    }) c.node.inside.paces.items (jobs_in c.node.inside.limits.jobs c.node.inside.given c.node.inside.jobs.items)
    c.node.inside.clock c.node.inside.rx c.node.inside.store c.node.invariant.0 c.args.head.now
    c.in-Some.front.now front here c.from-i.result number c.on_reply-reply.new.self
    c.on_reply-reply.ensures.servers c.on_reply-reply.ensures.queued
    c.on_reply-reply.ensures.size c.on_reply-reply.ensures.places c.drop_front-in-Took.new.self
    c.drop_front-in-Took.ensures p g.R.Recorder.log c.args.rec.now
    c.note.new.self _ _ _ refl (ap (λ (v : MessageHeader). v.request) c.head.view_is)
    (ap (λ (v : MessageHeader). v.number) c.head.view_is) c.note.ensures)

pub invariant_of-node-in-Ended : goal.invariant_of-node-in-Ended
invariant_of-node-in-Ended g c =
    let front = rw (← c.node.view_is) at c.requires.front in
    let here = sym c.front.ensures ∙ ap option_copied c.in-Some.is in
    let number = ap (λ (v : MessageHeader). v.session) (sym c.head.view_is) ∙ sym c.from-i.ensures in
    let p = as-told _ _ _ _ _ _ _ _ _ _ _ c.peer.ensures
    (c.body.ensures ∙ ap body_of c.bytes.ensures.bytes) c.in-Ended.ensures.clients in (
      fits-ended c.node.inside.me c.node.inside.limits
          (record {
            life = c.node.inside.life;
            known = c.node.inside.known;
            asked = c.node.inside.asked;
            server_numbers = c.node.inside.server_numbers;
            inbox = c.node.inside.inbox;
            counts = c.node.inside.counts;
          }) c.node.inside.paces.items (jobs_in c.node.inside.limits.jobs c.node.inside.given
          c.node.inside.jobs.items)
          c.node.inside.clock c.node.inside.rx c.node.inside.store c.node.invariant.0 c.args.head.now
          c.in-Some.front.now front here c.from-i.result number c.on_reply-reply.new.self
          c.on_reply-reply.ensures.servers c.on_reply-reply.ensures.queued
          c.on_reply-reply.ensures.size c.on_reply-reply.ensures.places c.drop_front-in-Ended.new.self
          c.drop_front-in-Ended.ensures c.in-Ended.done p,
      rw c.drop_front-in-Ended.ensures c.node.invariant.1,
      covers-replied c.node.inside.callers c.from-i.result _ _ _ _ _ _ _ _ p c.node.invariant.2,
    )

pub returns-in-Ended-clause-hears : goal.returns-in-Ended-clause-hears
returns-in-Ended-clause-hears g c =
    let front = rw (← c.node.view_is) at c.requires.front in
    let here = sym c.front.ensures ∙ ap option_copied c.in-Some.is in
    let number = ap (λ (v : MessageHeader). v.session) (sym c.head.view_is) ∙ sym c.from-i.ensures in
    let p = as-told _ _ _ _ _ _ _ _ _ _ _ c.peer.ensures
    (c.body.ensures ∙ ap body_of c.bytes.ensures.bytes) c.in-Ended.ensures.clients in
    rw (← c.node.view_is) (node-ended c.node.inside.me c.node.inside.limits
    (record {
      life = c.node.inside.life;
      known = c.node.inside.known;
      asked = c.node.inside.asked;
      server_numbers = c.node.inside.server_numbers;
      inbox = c.node.inside.inbox;
      counts = c.node.inside.counts;
    }) c.node.inside.paces.items (jobs_in c.node.inside.limits.jobs c.node.inside.given c.node.inside.jobs.items)
    c.node.inside.clock c.node.inside.rx c.node.inside.store c.node.invariant.0 c.args.head.now
    c.in-Some.front.now front here c.from-i.result number c.on_reply-reply.new.self
    c.on_reply-reply.ensures.servers c.on_reply-reply.ensures.queued
    c.on_reply-reply.ensures.size c.on_reply-reply.ensures.places c.drop_front-in-Ended.new.self
    c.drop_front-in-Ended.ensures c.in-Ended.done p g.R.Recorder.log
    c.args.rec.now c.note-in-Ended.new.self c.note-in-Ended-2.new.self _ _ _ _ _ refl
    (ap (λ (v : MessageHeader). v.request) c.head.view_is)
    (ap (λ (v : MessageHeader). v.number) c.head.view_is) c.end_event.ensures
    c.answer_of.ensures c.note-in-Ended.ensures c.note-in-Ended-2.ensures)

pub returns-in-Took-clause-ring : goal.returns-in-Took-clause-ring
returns-in-Took-clause-ring g c =
    rw (← c.node.view_is) (ring-left c.node.inside.rx c.drop_front-in-Took.new.self c.drop_front-in-Took.ensures)

pub returns-in-Ended-clause-ring : goal.returns-in-Ended-clause-ring
returns-in-Ended-clause-ring g c =
    rw (← c.node.view_is) (ring-left c.node.inside.rx c.drop_front-in-Ended.new.self c.drop_front-in-Ended.ensures)

pub returns-in-Ended-clause-handed : goal.returns-in-Ended-clause-handed
returns-in-Ended-clause-handed g c =
    let number = ap (λ (v : MessageHeader). v.session) (sym c.head.view_is) ∙ sym c.from-i.ensures in
    rw (← c.node.view_is) (subst (λ n. HandsBackAt n c.in-Ended.done c.node.inside.store.handed
    c.on_reply-reply.new.self.handed) (sym number) c.in-Ended.ensures.handed)
