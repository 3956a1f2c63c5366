use Rattle.std.proofs.Common.{◌+◌, ℕ, List, length, refl, sym, ap, subst, ◌∙◌, arith, rules}
use Rattle.rpc_base.specs.declared.limits.TheConstants.{HEAD_BYTES}
use Rattle.std.specs.Option.{option_copied}
use Rattle.packet_header.specs.Header.{MessageLength}
use Rattle.packet_header.specs.Reading.{body_of}
use Rattle.node_steps.proofs.NodeFits.{has-places}
use Rattle.node_steps.proofs.PacketReplies.{body-there, ring-left, some-front}
use Rattle.node_steps.proofs.PacketJobs.{asking-one, has-job-room}
use Rattle.node_steps.proofs.PacketRequests.{fits-again, fits-drop, fits-give, fits-ran}
use Rattle.node_steps.proofs.PacketRequests.{fits-took-it, node-again, node-drop, node-give}
use Rattle.node_steps.proofs.PacketRequests.{node-ran, node-stranger, node-took-it, node-unknown}
use Rattle.node_steps.proofs.PacketRequests.{unfull-of}
use Rattle.node_steps.proofs.PacketServers.{alike, as-asked, differ, has-reply-room, number-there}
use Rattle.node_steps.proofs.PacketServers.{peer-there, served-then, served-there}
use Rattle.node_steps.specs.Changes.{◌⟶◌}
use Rattle.node_steps.specs.Seen.{jobs_in}
use Rattle.node_steps.specs.Handed.{timed_of}
use Rattle.node_poll.proofs.packets.requests.handle_request.Goals as goal

pub unreachable-requires : goal.unreachable-requires
unreachable-requires g c =
    let front = rw (← c.node.view_is) at c.requires.front in
    some-front c.node.inside.rx.items c.args.head.now _ c.front.ensures (ap option_copied
    c.in_default.is) front

pub returns-in_default-place_of_server : goal.returns-in_default-place_of_server
returns-in_default-place_of_server g c = record {
  serves = let front = rw (← c.node.view_is) at c.requires.front in
      let here = sym c.front.ensures ∙ ap option_copied c.in-Some.is in
      let made = rw (← c.node.view_is) at c.drop_front.ensures.drops in
      let same = rw (← c.node.view_is) at c.drop_front.ensures.rest.jobs in
      rw (← c.node.view_is) (node-unknown c.node.inside.me c.node.inside.limits (record {
        life = c.node.inside.life;
        known = c.node.inside.known;
        asked = c.node.inside.asked;
        server_numbers = c.node.inside.server_numbers;
        inbox = c.node.inside.inbox;
        counts = c.node.inside.counts;
      }) c.node.inside.paces.items (jobs_in c.node.inside.limits.jobs c.node.inside.given
      c.node.inside.jobs.items) c.node.inside.clock c.node.inside.rx c.node.inside.store
      c.node.invariant.0 c.args.head.now c.in-Some.front.now front c.requires.asking here
      g.V.Service
      g.R.Recorder.log c.args.rec.now c.drop_front.new.rec g.V.Service.answer
      (g.V.Service.stands c.args.service.now) (g.V.Service.stands c.args.service.now)
      (timed_of c.drop_front.new.node) c.args.memory.now
      (sym c.place_of_server.ensures ∙ c.in_default-place_of_server.is) same
      (λ was st. st) made);
  served = search rules;
  ring = c.drop_front.ensures.ring;
  clients = c.drop_front.ensures.clients;
  handed = c.drop_front.ensures.rest.handed;
}

pub returns-then-ne : goal.returns-then-ne
returns-then-ne g c = record {
  serves = let front = rw (← c.node.view_is) at c.requires.front in
      let here = sym c.front.ensures ∙ ap option_copied c.in-Some.is in
      let made = rw (← c.node.view_is) at c.drop_front-then-ne.ensures.drops in
      let same = rw (← c.node.view_is) at c.drop_front-then-ne.ensures.rest.jobs in
      let place = sym c.place_of_server.ensures ∙ c.in-Some-place_of_server.is in
      let there = number-there c.args.head.now.session c.in-Some-place_of_server.i
      c.node.inside.store.servers place in
      rw (← c.node.view_is) (node-stranger c.node.inside.me c.node.inside.limits (record {
        life = c.node.inside.life;
        known = c.node.inside.known;
        asked = c.node.inside.asked;
        server_numbers = c.node.inside.server_numbers;
        inbox = c.node.inside.inbox;
        counts = c.node.inside.counts;
      }) c.node.inside.paces.items (jobs_in c.node.inside.limits.jobs c.node.inside.given
      c.node.inside.jobs.items) c.node.inside.clock c.node.inside.rx c.node.inside.store
      c.node.invariant.0 c.args.head.now c.in-Some.front.now front c.requires.asking here
      g.V.Service
      g.R.Recorder.log c.args.rec.now c.drop_front-then-ne.new.rec
      g.V.Service.answer (g.V.Service.stands c.args.service.now) (g.V.Service.stands
      c.args.service.now) (timed_of c.drop_front-then-ne.new.node) c.args.memory.now
      c.in-Some-place_of_server.i
      c.peer_of_server.result place c.peer_of_server.ensures there.0 (differ
      c.peer_of_server.result c.peer.result c.in-Some.front.now.peer c.ne.result c.ne.ensures
      c.if-ne.true c.peer.ensures) same (λ was st. st) made);
  served = search rules;
  ring = search rules;
  clients = search rules;
  handed = search rules;
}

pub on_packet-step-requires-clause-session : goal.on_packet-step-requires-clause-session
on_packet-step-requires-clause-session g c =
    let place = sym c.place_of_server.ensures ∙ c.in-Some-place_of_server.is in
    (number-there c.args.head.now.session c.in-Some-place_of_server.i c.node.inside.store.servers
    place).1

pub on_packet-step-requires-clause-asking : goal.on_packet-step-requires-clause-asking
on_packet-step-requires-clause-asking g c =
    let here = sym c.front.ensures ∙ ap option_copied c.in-Some.is in
    let asked = c.body-asked.ensures ∙ ap body_of c.bytes.ensures.bytes in
    let long = rw (← c.node.view_is) at c.requires.long in
    let same = body-there c.node.inside.rx.items c.in-Some.front.now here ∙ sym asked in
    record {
      kind = c.requires.asking;
      in_range = c.requires.in_range;
      body = subst (λ (b : List ℕ). MessageLength c.args.head.now.kind c.args.head.now.size
          c.args.head.now.number (HEAD_BYTES + length b)) same long;
    }

pub on_packet-step-requires-clause-reply : goal.on_packet-step-requires-clause-reply
on_packet-step-requires-clause-reply g c =
    let fits = c.node.invariant.0 in
    let few = rw (← c.node.view_is) at c.requires.room in
    record {
      ring = has-reply-room _ _ fits.kept fits.sendable few fits.packets;
      room = has-places _ _ fits.kept fits.settled fits.credits fits.jobs fits.buffers;
    }

pub on_packet-step-requires-clause-all_served : goal.on_packet-step-requires-clause-all_served
on_packet-step-requires-clause-all_served g c =
    let served = rw (← c.node.view_is) at c.requires.serving.served in
    served-there g.V.Service.mode_of c.node.inside.store.servers c.in-Some-place_of_server.i served

pub invariant_of-node : goal.invariant_of-node
invariant_of-node g c =
    let front = rw (← c.node.view_is) at c.requires.front in
    let here = sym c.front.ensures ∙ ap option_copied c.in-Some.is in
    let full = rw (← c.node.view_is) at c.jobs_full-full.ensures in
    let served = rw (← c.node.view_is) at c.requires.serving.served in
    let place = sym c.place_of_server.ensures ∙ c.in-Some-place_of_server.is in
    let peer = peer-there c.node.inside.store.servers c.in-Some-place_of_server.i
    c.peer_of_server.result c.node.inside.rx.items c.in-Some.front.now here
    c.peer_of_server.ensures (alike c.peer_of_server.result c.peer.result c.ne.result
    c.ne.ensures c.if-ne.false ∙ c.peer.ensures) in
    let few = rw (← c.node.view_is) at c.requires.room in
    let asked = c.body-asked.ensures ∙ ap body_of c.bytes.ensures.bytes in
    let p = as-asked _ _ _ _ _ _ _ _ _ _ _ asked c.in-Took.ensures.handles in (
      fits-took-it c.node.inside.me c.node.inside.limits (record {
        life = c.node.inside.life;
        known = c.node.inside.known;
        asked = c.node.inside.asked;
        server_numbers = c.node.inside.server_numbers;
        inbox = c.node.inside.inbox;
        counts = c.node.inside.counts;
      }) c.node.inside.paces.items (jobs_in c.node.inside.limits.jobs c.node.inside.given
          c.node.inside.jobs.items) c.node.inside.clock c.node.inside.rx c.node.inside.store
          c.node.invariant.0 c.args.head.now c.in-Some.front.now front c.requires.asking here
          g.V.Service
          c.in-Some-place_of_server.i c.on_packet-step.new.self
          c.on_packet-step.ensures.handles.clients
          c.on_packet-step.ensures.handles.size c.on_packet-step.ensures.handles.places
          c.drop_front-2.new.self
          c.drop_front-2.ensures c.jobs_full-full.result full served place peer few
          g.R.Recorder.log c.args.rec.now c.on_packet-step.new.rec c.args.service.now
          c.on_packet-step.new.service
          c.in-Took.reply p p.reply,
      rw c.drop_front-2.ensures c.node.invariant.1,
      rw c.on_packet-step.ensures.handles.clients c.node.invariant.2,
    )

pub returns-in-Took : goal.returns-in-Took
returns-in-Took g c = record {
  serves = let front = rw (← c.node.view_is) at c.requires.front in
      let here = sym c.front.ensures ∙ ap option_copied c.in-Some.is in
      let full = rw (← c.node.view_is) at c.jobs_full-full.ensures in
      let served = rw (← c.node.view_is) at c.requires.serving.served in
      let place = sym c.place_of_server.ensures ∙ c.in-Some-place_of_server.is in
      let peer = peer-there c.node.inside.store.servers c.in-Some-place_of_server.i
      c.peer_of_server.result c.node.inside.rx.items c.in-Some.front.now here
      c.peer_of_server.ensures (alike c.peer_of_server.result c.peer.result c.ne.result
      c.ne.ensures c.if-ne.false ∙ c.peer.ensures) in
      let few = rw (← c.node.view_is) at c.requires.room in
      let asked = c.body-asked.ensures ∙ ap body_of c.bytes.ensures.bytes in
      let p = as-asked _ _ _ _ _ _ _ _ _ _ _ asked c.in-Took.ensures.handles in
      rw (← c.node.view_is) (node-took-it c.node.inside.me c.node.inside.limits (record {
        life = c.node.inside.life;
        known = c.node.inside.known;
        asked = c.node.inside.asked;
        server_numbers = c.node.inside.server_numbers;
        inbox = c.node.inside.inbox;
        counts = c.node.inside.counts;
      }) c.node.inside.paces.items (jobs_in c.node.inside.limits.jobs c.node.inside.given
      c.node.inside.jobs.items) c.node.inside.clock c.node.inside.rx c.node.inside.store
      c.node.invariant.0 c.args.head.now c.in-Some.front.now front c.requires.asking here
      g.V.Service
      c.in-Some-place_of_server.i c.on_packet-step.new.self c.on_packet-step.ensures.handles.clients
      c.on_packet-step.ensures.handles.size c.on_packet-step.ensures.handles.places
      c.drop_front-2.new.self
      c.drop_front-2.ensures c.jobs_full-full.result full served place peer few g.R.Recorder.log
      c.args.rec.now c.on_packet-step.new.rec c.args.service.now c.on_packet-step.new.service
      c.in-Took.reply p p.reply (λ was st. subst (λ z. g.V.Service.stands z was) (sym
      c.in-Took.ensures.handles.service) st) (c.args.memory.now ⟶ c.on_packet-step.new.memory)
      c.in-Took.ensures.cause);
  served = let served = rw (← c.node.view_is) at c.requires.serving.served in
      let p = c.on_packet-step.ensures.handles in
      served-then g.V.Service.mode_of _ _ c.in-Some-place_of_server.i p.server p.later served
      p.place p.changed
      c.on_packet-step.ensures.handles.all_served;
  ring = rw (← c.node.view_is)
      (ring-left c.node.inside.rx c.drop_front-2.new.self c.drop_front-2.ensures);
  clients = rw (← c.node.view_is) c.on_packet-step.ensures.handles.clients;
  handed = rw (← c.node.view_is) c.on_packet-step.ensures.handles.handed;
}

pub invariant_of-node-in-Again : goal.invariant_of-node-in-Again
invariant_of-node-in-Again g c =
    let front = rw (← c.node.view_is) at c.requires.front in
    let here = sym c.front.ensures ∙ ap option_copied c.in-Some.is in
    let full = rw (← c.node.view_is) at c.jobs_full-full.ensures in
    let served = rw (← c.node.view_is) at c.requires.serving.served in
    let place = sym c.place_of_server.ensures ∙ c.in-Some-place_of_server.is in
    let peer = peer-there c.node.inside.store.servers c.in-Some-place_of_server.i
    c.peer_of_server.result c.node.inside.rx.items c.in-Some.front.now here
    c.peer_of_server.ensures (alike c.peer_of_server.result c.peer.result c.ne.result
    c.ne.ensures c.if-ne.false ∙ c.peer.ensures) in
    let few = rw (← c.node.view_is) at c.requires.room in
    let asked = c.body-asked.ensures ∙ ap body_of c.bytes.ensures.bytes in
    let p = as-asked _ _ _ _ _ _ _ _ _ _ _ asked c.in-Again.ensures.handles in (
      fits-again c.node.inside.me c.node.inside.limits (record {
        life = c.node.inside.life;
        known = c.node.inside.known;
        asked = c.node.inside.asked;
        server_numbers = c.node.inside.server_numbers;
        inbox = c.node.inside.inbox;
        counts = c.node.inside.counts;
      }) c.node.inside.paces.items (jobs_in c.node.inside.limits.jobs c.node.inside.given
          c.node.inside.jobs.items) c.node.inside.clock c.node.inside.rx c.node.inside.store
          c.node.invariant.0 c.args.head.now c.in-Some.front.now front c.requires.asking here
          g.V.Service
          c.in-Some-place_of_server.i c.on_packet-step.new.self
          c.on_packet-step.ensures.handles.clients
          c.on_packet-step.ensures.handles.size c.on_packet-step.ensures.handles.places
          c.drop_front-2.new.self
          c.drop_front-2.ensures c.jobs_full-full.result full served place peer few
          g.R.Recorder.log c.args.rec.now c.on_packet-step.new.rec c.args.service.now
          c.on_packet-step.new.service
          c.in-Again.reply p p.reply.0 p.reply.1,
      rw c.drop_front-2.ensures c.node.invariant.1,
      rw c.on_packet-step.ensures.handles.clients c.node.invariant.2,
    )

pub returns-in-Again : goal.returns-in-Again
returns-in-Again g c = record {
  serves = let front = rw (← c.node.view_is) at c.requires.front in
      let here = sym c.front.ensures ∙ ap option_copied c.in-Some.is in
      let full = rw (← c.node.view_is) at c.jobs_full-full.ensures in
      let served = rw (← c.node.view_is) at c.requires.serving.served in
      let place = sym c.place_of_server.ensures ∙ c.in-Some-place_of_server.is in
      let peer = peer-there c.node.inside.store.servers c.in-Some-place_of_server.i
      c.peer_of_server.result c.node.inside.rx.items c.in-Some.front.now here
      c.peer_of_server.ensures (alike c.peer_of_server.result c.peer.result c.ne.result
      c.ne.ensures c.if-ne.false ∙ c.peer.ensures) in
      let few = rw (← c.node.view_is) at c.requires.room in
      let asked = c.body-asked.ensures ∙ ap body_of c.bytes.ensures.bytes in
      let p = as-asked _ _ _ _ _ _ _ _ _ _ _ asked c.in-Again.ensures.handles in
      rw (← c.node.view_is) (node-again c.node.inside.me c.node.inside.limits (record {
        life = c.node.inside.life;
        known = c.node.inside.known;
        asked = c.node.inside.asked;
        server_numbers = c.node.inside.server_numbers;
        inbox = c.node.inside.inbox;
        counts = c.node.inside.counts;
      }) c.node.inside.paces.items (jobs_in c.node.inside.limits.jobs c.node.inside.given
      c.node.inside.jobs.items) c.node.inside.clock c.node.inside.rx c.node.inside.store
      c.node.invariant.0 c.args.head.now c.in-Some.front.now front c.requires.asking here
      g.V.Service
      c.in-Some-place_of_server.i c.on_packet-step.new.self c.on_packet-step.ensures.handles.clients
      c.on_packet-step.ensures.handles.size c.on_packet-step.ensures.handles.places
      c.drop_front-2.new.self
      c.drop_front-2.ensures c.jobs_full-full.result full served place peer few g.R.Recorder.log
      c.args.rec.now c.on_packet-step.new.rec c.args.service.now c.on_packet-step.new.service
      c.in-Again.reply p p.reply.0 p.reply.1 (λ was st. subst (λ z. g.V.Service.stands z was) (sym
      c.in-Again.ensures.handles.service) st) (c.args.memory.now ⟶ c.on_packet-step.new.memory)
      c.in-Again.ensures.cause);
  served = let served = rw (← c.node.view_is) at c.requires.serving.served in
      let p = c.on_packet-step.ensures.handles in
      served-then g.V.Service.mode_of _ _ c.in-Some-place_of_server.i p.server p.later served
      p.place p.changed
      c.on_packet-step.ensures.handles.all_served;
  ring = rw (← c.node.view_is)
      (ring-left c.node.inside.rx c.drop_front-2.new.self c.drop_front-2.ensures);
  clients = rw (← c.node.view_is) c.on_packet-step.ensures.handles.clients;
  handed = rw (← c.node.view_is) c.on_packet-step.ensures.handles.handed;
}

pub invariant_of-node-in-Ran : goal.invariant_of-node-in-Ran
invariant_of-node-in-Ran g c =
    let front = rw (← c.node.view_is) at c.requires.front in
    let here = sym c.front.ensures ∙ ap option_copied c.in-Some.is in
    let full = rw (← c.node.view_is) at c.jobs_full-full.ensures in
    let served = rw (← c.node.view_is) at c.requires.serving.served in
    let place = sym c.place_of_server.ensures ∙ c.in-Some-place_of_server.is in
    let peer = peer-there c.node.inside.store.servers c.in-Some-place_of_server.i
    c.peer_of_server.result c.node.inside.rx.items c.in-Some.front.now here
    c.peer_of_server.ensures (alike c.peer_of_server.result c.peer.result c.ne.result
    c.ne.ensures c.if-ne.false ∙ c.peer.ensures) in
    let few = rw (← c.node.view_is) at c.requires.room in
    let asked = c.body-asked.ensures ∙ ap body_of c.bytes.ensures.bytes in
    let p = as-asked _ _ _ _ _ _ _ _ _ _ _ asked c.in-Ran.ensures.handles in (
      fits-ran c.node.inside.me c.node.inside.limits (record {
        life = c.node.inside.life;
        known = c.node.inside.known;
        asked = c.node.inside.asked;
        server_numbers = c.node.inside.server_numbers;
        inbox = c.node.inside.inbox;
        counts = c.node.inside.counts;
      }) c.node.inside.paces.items (jobs_in c.node.inside.limits.jobs c.node.inside.given
          c.node.inside.jobs.items) c.node.inside.clock c.node.inside.rx c.node.inside.store
          c.node.invariant.0 c.args.head.now c.in-Some.front.now front c.requires.asking here
          g.V.Service
          c.in-Some-place_of_server.i c.on_packet-step.new.self
          c.on_packet-step.ensures.handles.clients
          c.on_packet-step.ensures.handles.size c.on_packet-step.ensures.handles.places
          c.drop_front-2.new.self
          c.drop_front-2.ensures c.jobs_full-full.result full served place peer few
          g.R.Recorder.log c.args.rec.now c.on_packet-step.new.rec c.args.service.now
          c.on_packet-step.new.service
          c.in-Ran.reply p p.reply.0 p.reply.1 c.saturating_add-node-inside.result
          c.saturating_add-node-inside.ensures,
      rw c.drop_front-2.ensures c.node.invariant.1,
      rw c.on_packet-step.ensures.handles.clients c.node.invariant.2,
    )

pub returns-in-Ran : goal.returns-in-Ran
returns-in-Ran g c = record {
  serves = let front = rw (← c.node.view_is) at c.requires.front in
      let here = sym c.front.ensures ∙ ap option_copied c.in-Some.is in
      let full = rw (← c.node.view_is) at c.jobs_full-full.ensures in
      let served = rw (← c.node.view_is) at c.requires.serving.served in
      let place = sym c.place_of_server.ensures ∙ c.in-Some-place_of_server.is in
      let peer = peer-there c.node.inside.store.servers c.in-Some-place_of_server.i
      c.peer_of_server.result c.node.inside.rx.items c.in-Some.front.now here
      c.peer_of_server.ensures (alike c.peer_of_server.result c.peer.result c.ne.result
      c.ne.ensures c.if-ne.false ∙ c.peer.ensures) in
      let few = rw (← c.node.view_is) at c.requires.room in
      let asked = c.body-asked.ensures ∙ ap body_of c.bytes.ensures.bytes in
      let p = as-asked _ _ _ _ _ _ _ _ _ _ _ asked c.in-Ran.ensures.handles in
      rw (← c.node.view_is) (node-ran c.node.inside.me c.node.inside.limits (record {
        life = c.node.inside.life;
        known = c.node.inside.known;
        asked = c.node.inside.asked;
        server_numbers = c.node.inside.server_numbers;
        inbox = c.node.inside.inbox;
        counts = c.node.inside.counts;
      }) c.node.inside.paces.items (jobs_in c.node.inside.limits.jobs c.node.inside.given
      c.node.inside.jobs.items) c.node.inside.clock c.node.inside.rx c.node.inside.store
      c.node.invariant.0 c.args.head.now c.in-Some.front.now front c.requires.asking here
      g.V.Service
      c.in-Some-place_of_server.i c.on_packet-step.new.self c.on_packet-step.ensures.handles.clients
      c.on_packet-step.ensures.handles.size c.on_packet-step.ensures.handles.places
      c.drop_front-2.new.self
      c.drop_front-2.ensures c.jobs_full-full.result full served place peer few g.R.Recorder.log
      c.args.rec.now c.on_packet-step.new.rec c.args.service.now c.on_packet-step.new.service
      c.in-Ran.reply p p.reply.0 p.reply.1 c.saturating_add-node-inside.result
      c.saturating_add-node-inside.ensures (c.args.memory.now ⟶ c.on_packet-step.new.memory)
      c.in-Ran.ensures.cause);
  served = let served = rw (← c.node.view_is) at c.requires.serving.served in
      let p = c.on_packet-step.ensures.handles in
      served-then g.V.Service.mode_of _ _ c.in-Some-place_of_server.i p.server p.later served
      p.place p.changed
      c.on_packet-step.ensures.handles.all_served;
  ring = rw (← c.node.view_is)
      (ring-left c.node.inside.rx c.drop_front-2.new.self c.drop_front-2.ensures);
  clients = rw (← c.node.view_is) c.on_packet-step.ensures.handles.clients;
  handed = rw (← c.node.view_is) c.on_packet-step.ensures.handles.handed;
}

pub invariant_of-node-in-Dropped : goal.invariant_of-node-in-Dropped
invariant_of-node-in-Dropped g c =
    let front = rw (← c.node.view_is) at c.requires.front in
    let here = sym c.front.ensures ∙ ap option_copied c.in-Some.is in
    let full = rw (← c.node.view_is) at c.jobs_full-full.ensures in
    let served = rw (← c.node.view_is) at c.requires.serving.served in
    let place = sym c.place_of_server.ensures ∙ c.in-Some-place_of_server.is in
    let peer = peer-there c.node.inside.store.servers c.in-Some-place_of_server.i
    c.peer_of_server.result c.node.inside.rx.items c.in-Some.front.now here
    c.peer_of_server.ensures (alike c.peer_of_server.result c.peer.result c.ne.result
    c.ne.ensures c.if-ne.false ∙ c.peer.ensures) in
    let few = rw (← c.node.view_is) at c.requires.room in
    let asked = c.body-asked.ensures ∙ ap body_of c.bytes.ensures.bytes in
    let p = as-asked _ _ _ _ _ _ _ _ _ _ _ asked c.in-Dropped.ensures.handles in (
      fits-drop c.node.inside.me c.node.inside.limits (record {
        life = c.node.inside.life;
        known = c.node.inside.known;
        asked = c.node.inside.asked;
        server_numbers = c.node.inside.server_numbers;
        inbox = c.node.inside.inbox;
        counts = c.node.inside.counts;
      }) c.node.inside.paces.items (jobs_in c.node.inside.limits.jobs c.node.inside.given
          c.node.inside.jobs.items) c.node.inside.clock c.node.inside.rx c.node.inside.store
          c.node.invariant.0 c.args.head.now c.in-Some.front.now front c.requires.asking here
          g.V.Service
          c.in-Some-place_of_server.i c.on_packet-step.new.self
          c.on_packet-step.ensures.handles.clients
          c.on_packet-step.ensures.handles.size c.on_packet-step.ensures.handles.places
          c.drop_front-2.new.self
          c.drop_front-2.ensures c.jobs_full-full.result full served place peer few
          g.R.Recorder.log c.args.rec.now c.on_packet-step.new.rec c.args.service.now
          c.on_packet-step.new.service
          c.in-Dropped.field-0 p c.saturating_add-node-inside-in-Dropped.result
          c.saturating_add-node-inside-in-Dropped.ensures,
      rw c.drop_front-2.ensures c.node.invariant.1,
      rw c.on_packet-step.ensures.handles.clients c.node.invariant.2,
    )

pub returns-in-Dropped : goal.returns-in-Dropped
returns-in-Dropped g c = record {
  serves = let front = rw (← c.node.view_is) at c.requires.front in
      let here = sym c.front.ensures ∙ ap option_copied c.in-Some.is in
      let full = rw (← c.node.view_is) at c.jobs_full-full.ensures in
      let served = rw (← c.node.view_is) at c.requires.serving.served in
      let place = sym c.place_of_server.ensures ∙ c.in-Some-place_of_server.is in
      let peer = peer-there c.node.inside.store.servers c.in-Some-place_of_server.i
      c.peer_of_server.result c.node.inside.rx.items c.in-Some.front.now here
      c.peer_of_server.ensures (alike c.peer_of_server.result c.peer.result c.ne.result
      c.ne.ensures c.if-ne.false ∙ c.peer.ensures) in
      let few = rw (← c.node.view_is) at c.requires.room in
      let asked = c.body-asked.ensures ∙ ap body_of c.bytes.ensures.bytes in
      let p = as-asked _ _ _ _ _ _ _ _ _ _ _ asked c.in-Dropped.ensures.handles in
      rw (← c.node.view_is) (node-drop c.node.inside.me c.node.inside.limits (record {
        life = c.node.inside.life;
        known = c.node.inside.known;
        asked = c.node.inside.asked;
        server_numbers = c.node.inside.server_numbers;
        inbox = c.node.inside.inbox;
        counts = c.node.inside.counts;
      }) c.node.inside.paces.items (jobs_in c.node.inside.limits.jobs c.node.inside.given
      c.node.inside.jobs.items) c.node.inside.clock c.node.inside.rx c.node.inside.store
      c.node.invariant.0 c.args.head.now c.in-Some.front.now front c.requires.asking here
      g.V.Service
      c.in-Some-place_of_server.i c.on_packet-step.new.self c.on_packet-step.ensures.handles.clients
      c.on_packet-step.ensures.handles.size c.on_packet-step.ensures.handles.places
      c.drop_front-2.new.self
      c.drop_front-2.ensures c.jobs_full-full.result full served place peer few g.R.Recorder.log
      c.args.rec.now c.on_packet-step.new.rec c.args.service.now c.on_packet-step.new.service
      c.in-Dropped.field-0 p c.saturating_add-node-inside-in-Dropped.result
      c.saturating_add-node-inside-in-Dropped.ensures (λ was st. subst (λ z. g.V.Service.stands z
      was) (sym c.in-Dropped.ensures.handles.service) st)
      (c.args.memory.now ⟶ c.on_packet-step.new.memory)
      c.in-Dropped.ensures.cause);
  served = let served = rw (← c.node.view_is) at c.requires.serving.served in
      let p = c.on_packet-step.ensures.handles in
      served-then g.V.Service.mode_of _ _ c.in-Some-place_of_server.i p.server p.later served
      p.place p.changed
      c.on_packet-step.ensures.handles.all_served;
  ring = rw (← c.node.view_is)
      (ring-left c.node.inside.rx c.drop_front-2.new.self c.drop_front-2.ensures);
  clients = rw (← c.node.view_is) c.on_packet-step.ensures.handles.clients;
  handed = rw (← c.node.view_is) c.on_packet-step.ensures.handles.handed;
}

pub invariant_of-node-in-Give : goal.invariant_of-node-in-Give
invariant_of-node-in-Give g c =
    let front = rw (← c.node.view_is) at c.requires.front in
    let here = sym c.front.ensures ∙ ap option_copied c.in-Some.is in
    let full = rw (← c.node.view_is) at c.jobs_full-full.ensures in
    let served = rw (← c.node.view_is) at c.requires.serving.served in
    let place = sym c.place_of_server.ensures ∙ c.in-Some-place_of_server.is in
    let peer = peer-there c.node.inside.store.servers c.in-Some-place_of_server.i
    c.peer_of_server.result c.node.inside.rx.items c.in-Some.front.now here
    c.peer_of_server.ensures (alike c.peer_of_server.result c.peer.result c.ne.result
    c.ne.ensures c.if-ne.false ∙ c.peer.ensures) in
    let few = rw (← c.node.view_is) at c.requires.room in
    let asked = c.body-asked.ensures ∙ ap body_of c.bytes.ensures.bytes in
    let p = as-asked _ _ _ _ _ _ _ _ _ _ _ asked c.in-Give.ensures.handles in (
      fits-give c.node.inside.me c.node.inside.limits (record {
        life = c.node.inside.life;
        known = c.node.inside.known;
        asked = c.node.inside.asked;
        server_numbers = c.node.inside.server_numbers;
        inbox = c.node.inside.inbox;
        counts = c.node.inside.counts;
      }) c.node.inside.paces.items (jobs_in c.node.inside.limits.jobs c.node.inside.given
          c.node.inside.jobs.items) c.node.inside.clock c.node.inside.rx c.node.inside.store
          c.node.invariant.0 c.args.head.now c.in-Some.front.now front c.requires.asking here
          g.V.Service
          c.in-Some-place_of_server.i c.on_packet-step.new.self
          c.on_packet-step.ensures.handles.clients
          c.on_packet-step.ensures.handles.size c.on_packet-step.ensures.handles.places
          c.drop_front-2.new.self
          c.drop_front-2.ensures c.jobs_full-full.result full served place peer few
          g.R.Recorder.log c.args.rec.now c.on_packet-step.new.rec c.args.service.now
          c.on_packet-step.new.service
          c.in-Give.parcel p c.saturating_add-node-inside-in-Give.result
          c.saturating_add-node-inside-in-Give.ensures (jobs_in c.node.inside.limits.jobs
          (c.node.inside.given + 1) c.put_job.new.jobs.items) refl c.put_job.ensures.named
          (λ asks own. asking-one c.node.inside.limits.jobs c.node.inside.given
          c.node.inside.jobs.items c.in-Give.parcel asks _ c.put_job.ensures.named own),
      rw (c.put_job.ensures.capacity, c.drop_front-2.ensures) c.node.invariant.1,
      rw c.on_packet-step.ensures.handles.clients c.node.invariant.2,
    )

pub returns-in-Give : goal.returns-in-Give
returns-in-Give g c = record {
  serves = let front = rw (← c.node.view_is) at c.requires.front in
      let here = sym c.front.ensures ∙ ap option_copied c.in-Some.is in
      let full = rw (← c.node.view_is) at c.jobs_full-full.ensures in
      let served = rw (← c.node.view_is) at c.requires.serving.served in
      let place = sym c.place_of_server.ensures ∙ c.in-Some-place_of_server.is in
      let peer = peer-there c.node.inside.store.servers c.in-Some-place_of_server.i
      c.peer_of_server.result c.node.inside.rx.items c.in-Some.front.now here
      c.peer_of_server.ensures (alike c.peer_of_server.result c.peer.result c.ne.result
      c.ne.ensures c.if-ne.false ∙ c.peer.ensures) in
      let few = rw (← c.node.view_is) at c.requires.room in
      let asked = c.body-asked.ensures ∙ ap body_of c.bytes.ensures.bytes in
      let p = as-asked _ _ _ _ _ _ _ _ _ _ _ asked c.in-Give.ensures.handles in
      rw (← c.node.view_is) (node-give c.node.inside.me c.node.inside.limits (record {
        life = c.node.inside.life;
        known = c.node.inside.known;
        asked = c.node.inside.asked;
        server_numbers = c.node.inside.server_numbers;
        inbox = c.node.inside.inbox;
        counts = c.node.inside.counts;
      }) c.node.inside.paces.items (jobs_in c.node.inside.limits.jobs c.node.inside.given
      c.node.inside.jobs.items) c.node.inside.clock c.node.inside.rx c.node.inside.store
      c.node.invariant.0 c.args.head.now c.in-Some.front.now front c.requires.asking here
      g.V.Service
      c.in-Some-place_of_server.i c.on_packet-step.new.self c.on_packet-step.ensures.handles.clients
      c.on_packet-step.ensures.handles.size c.on_packet-step.ensures.handles.places
      c.drop_front-2.new.self
      c.drop_front-2.ensures c.jobs_full-full.result full served place peer few g.R.Recorder.log
      c.args.rec.now c.on_packet-step.new.rec c.args.service.now c.on_packet-step.new.service
      c.in-Give.parcel p c.saturating_add-node-inside-in-Give.result
      c.saturating_add-node-inside-in-Give.ensures (jobs_in c.node.inside.limits.jobs
      (c.node.inside.given + 1) c.put_job.new.jobs.items) refl c.put_job.ensures.named
      (λ asks own. asking-one c.node.inside.limits.jobs c.node.inside.given
      c.node.inside.jobs.items c.in-Give.parcel asks _ c.put_job.ensures.named own) refl
      (λ was st. subst (λ z.
      g.V.Service.stands z was) (sym c.in-Give.ensures.handles.service) st)
      (c.args.memory.now ⟶ c.on_packet-step.new.memory) c.in-Give.ensures.cause);
  served = let served = rw (← c.node.view_is) at c.requires.serving.served in
      let p = c.on_packet-step.ensures.handles in
      served-then g.V.Service.mode_of _ _ c.in-Some-place_of_server.i p.server p.later served
      p.place p.changed
      c.on_packet-step.ensures.handles.all_served;
  ring = rw (← c.node.view_is)
      (ring-left c.node.inside.rx c.drop_front-2.new.self c.drop_front-2.ensures);
  clients = rw (← c.node.view_is) c.on_packet-step.ensures.handles.clients;
  handed = rw (← c.node.view_is) c.on_packet-step.ensures.handles.handed;
}

pub overflow_add-node : goal.overflow_add-node
overflow_add-node g c =
    let front = rw (← c.node.view_is) at c.requires.front in
    let here = sym c.front.ensures ∙ ap option_copied c.in-Some.is in
    let full = rw (← c.node.view_is) at c.jobs_full-full.ensures in
    let served = rw (← c.node.view_is) at c.requires.serving.served in
    let place = sym c.place_of_server.ensures ∙ c.in-Some-place_of_server.is in
    let peer = peer-there c.node.inside.store.servers c.in-Some-place_of_server.i
    c.peer_of_server.result c.node.inside.rx.items c.in-Some.front.now here
    c.peer_of_server.ensures (alike c.peer_of_server.result c.peer.result c.ne.result
    c.ne.ensures c.if-ne.false ∙ c.peer.ensures) in
    let few = rw (← c.node.view_is) at c.requires.room in
    let asked = c.body-asked.ensures ∙ ap body_of c.bytes.ensures.bytes in
    let p = as-asked _ _ _ _ _ _ _ _ _ _ _ asked c.in-Give.ensures.handles in
    let none = unfull-of c.node.inside.me c.node.inside.limits (record {
      life = c.node.inside.life;
      known = c.node.inside.known;
      asked = c.node.inside.asked;
      server_numbers = c.node.inside.server_numbers;
      inbox = c.node.inside.inbox;
      counts = c.node.inside.counts;
    }) c.node.inside.paces.items (jobs_in c.node.inside.limits.jobs c.node.inside.given
    c.node.inside.jobs.items) c.node.inside.clock c.node.inside.rx c.node.inside.store
    c.node.invariant.0 c.args.head.now c.in-Some.front.now front c.requires.asking here g.V.Service
    c.in-Some-place_of_server.i c.on_packet-step.new.self c.on_packet-step.ensures.handles.clients
    c.on_packet-step.ensures.handles.size c.on_packet-step.ensures.handles.places
    c.drop_front-2.new.self
    c.drop_front-2.ensures c.jobs_full-full.result full served place peer few g.R.Recorder.log
    c.args.rec.now c.on_packet-step.new.rec c.args.service.now c.on_packet-step.new.service
    c.in-Give.parcel p in
    let room = has-job-room c.node.inside.limits.jobs c.node.inside.given _
    c.node.inside.jobs.items c.jobs_full-full.result full none c.node.invariant.1.0 in
    omega (arith, room.1)

pub put_job-requires : goal.put_job-requires
put_job-requires g c =
    let front = rw (← c.node.view_is) at c.requires.front in
    let here = sym c.front.ensures ∙ ap option_copied c.in-Some.is in
    let full = rw (← c.node.view_is) at c.jobs_full-full.ensures in
    let served = rw (← c.node.view_is) at c.requires.serving.served in
    let place = sym c.place_of_server.ensures ∙ c.in-Some-place_of_server.is in
    let peer = peer-there c.node.inside.store.servers c.in-Some-place_of_server.i
    c.peer_of_server.result c.node.inside.rx.items c.in-Some.front.now here
    c.peer_of_server.ensures (alike c.peer_of_server.result c.peer.result c.ne.result
    c.ne.ensures c.if-ne.false ∙ c.peer.ensures) in
    let few = rw (← c.node.view_is) at c.requires.room in
    let asked = c.body-asked.ensures ∙ ap body_of c.bytes.ensures.bytes in
    let p = as-asked _ _ _ _ _ _ _ _ _ _ _ asked c.in-Give.ensures.handles in
    let none = unfull-of c.node.inside.me c.node.inside.limits (record {
      life = c.node.inside.life;
      known = c.node.inside.known;
      asked = c.node.inside.asked;
      server_numbers = c.node.inside.server_numbers;
      inbox = c.node.inside.inbox;
      counts = c.node.inside.counts;
    }) c.node.inside.paces.items (jobs_in c.node.inside.limits.jobs c.node.inside.given
    c.node.inside.jobs.items) c.node.inside.clock c.node.inside.rx c.node.inside.store
    c.node.invariant.0 c.args.head.now c.in-Some.front.now front c.requires.asking here g.V.Service
    c.in-Some-place_of_server.i c.on_packet-step.new.self c.on_packet-step.ensures.handles.clients
    c.on_packet-step.ensures.handles.size c.on_packet-step.ensures.handles.places
    c.drop_front-2.new.self
    c.drop_front-2.ensures c.jobs_full-full.result full served place peer few g.R.Recorder.log
    c.args.rec.now c.on_packet-step.new.rec c.args.service.now c.on_packet-step.new.service
    c.in-Give.parcel p in
    let room = has-job-room c.node.inside.limits.jobs c.node.inside.given _
    c.node.inside.jobs.items c.jobs_full-full.result full none c.node.invariant.1.0 in
    record { room = room.0 }
