use Rattle.std.proofs.Common.{◌≡◌, [], ◌∷◌, ◌++◌, refl, subst, sym, ap, ◌∙◌, arith}
use Rattle.std.specs.Prelude.{map, slice_set}
use Rattle.rpc_base.specs.declared.owner.Owner.TheVariants.{Reply}
use Rattle.rpc_base.proofs.PlaceLemmas.{all-at}
use Rattle.packet_rings.specs.Rings.{Ring, ring}
use Rattle.packet_rings.specs.Values.{EntryValue}
use Rattle.packet_rings.specs.Entries.{listed_entry}
use Rattle.pacing_wheel.specs.Wheel.{entry_of}
use Rattle.rpc_laws.specs.Queues.{numbers_of}
use Rattle.server_core.specs.Flushing.{has_begun, replies_of}
use Rattle.server_core.specs.Rows.{row_of}
use Rattle.server_core.specs.Session.{newest}
use Rattle.server_core.proofs.FlushLemmas.{newest-holds}
use Rattle.server_core.proofs.QueuedLemmas.{newest-counted}
use Rattle.session_ends.specs.Joined.{joined, queue_of}
use Rattle.session_store.specs.Joined.{undue}
use Rattle.session_store.specs.Sides.{Kept, ServerHolds, ServerQueued, Shown}
use Rattle.session_ends.specs.Sides.{ServerKept}
use Rattle.session_store.proofs.HandledLemmas.{beside-step, holds-ready, paced-calls, paced-numbers}
use Rattle.session_store.proofs.HandledLemmas.{queue-none, queue-one, queued-ready}
use Rattle.session_ends.proofs.JoinLemmas.{put-behind, joined-length}
use Rattle.session_store.proofs.PutLemmas.{kept-put}
use Rattle.session_store.proofs.ServeLemmas.{ServerCanHold, final-none, final-one, may-hold}
use Rattle.session_store.proofs.ServeLemmas.{new-room, newest-can, queue-by, seen-own, serve-at}
use Rattle.session_store.proofs.ServeLemmas.{serve-kept, served-at, there-server}
use Rattle.session_store.proofs.StoreLemmas.{ring-room, two-spare}
use Rattle.session_store.proofs.UndueLemmas.{flat, less-undue}
use Rattle.session_store.proofs.ShareLemmas.{servers-kept, step-kept, steps-credits}
use Rattle.session_store.proofs.WayLemmas.{ends-kept, step-ways, steps-way}
use Rattle.session_store.proofs.RoomLemmas.{room-stays}
use Rattle.session_store.proofs.store.Store.on_packet.Goals as goal

pub on_packet-step-requires-clause-ready : goal.on_packet-step-requires-clause-ready
on_packet-step-requires-clause-ready g c =
    let s = c.self.inside in
    let i = c.args.i in
    let x = c.index_mut-server.result.now in
    let r = c.args.head.now.request in
    let xs = s.queue.tx.items in
    let ps = map entry_of s.queue.pacer.items in
    let calls = paced-calls s.queue.pacer.items c.self.invariant.1.calls in
    let tx = joined s.queue.tx s.queue.pacer in
    let seen = flat s.pool s.sides.items s.servers.items s.queue.tx s.queue.pacer c.args.self.now
    c.self.view_is in
    let room = ring-room s.pool s.sides.items s.servers.items tx (undue c.args.self.now) seen
    (less-undue c.args.self.now c.requires.reply.ring) in
    let two = two-spare s.pool s.sides.items s.servers.items tx (undue c.args.self.now)
    c.self.invariant.0 seen c.requires.reply.room in
    let at = there-server s.pool s.servers.items i x (ap (λ (z : Shown). z.servers) c.self.view_is)
    c.requires.known c.index_mut-server.ensures.value in
    let holds = holds-ready x s.pool xs ps calls
    (all-at (ServerHolds s.pool (xs ++ ps)) s.servers.items i x c.self.invariant.0.holds at) in
    record {
      keeps_pool = all-at (ServerKept s.pool) s.servers.items i x c.self.invariant.0.serves at;
      spare = omega (arith, two);
      queued = λ begins. newest-holds x s.pool xs r holds;
      counted = λ begins. newest-counted x xs r (queued-ready x xs ps calls
          (all-at (ServerQueued (xs ++ ps)) s.servers.items i x c.self.invariant.0.replies at));
      can_hold = newest-can s.pool x r (all-at (ServerCanHold s.pool) s.servers.items i x
          (may-hold s.pool s.sides.items s.servers.items tx c.self.invariant.0 room) at);
    }

pub on_packet-step-requires-clause-all_served : goal.on_packet-step-requires-clause-all_served
on_packet-step-requires-clause-all_served g c =
    let s = c.self.inside in
    let i = c.args.i in
    let x = c.index_mut-server.result.now in
    let at = there-server s.pool s.servers.items i x (ap (λ (z : Shown). z.servers) c.self.view_is)
    c.requires.known c.index_mut-server.ensures.value in
    rw at at (served-at s.pool s.servers.items i g.V.Service.mode_of
    (rw (← c.self.view_is) at c.requires.all_served))

pub invariant_of-self : goal.invariant_of-self
invariant_of-self g c =
    let s = c.self.inside in
    let i = c.args.i in
    let x = c.index_mut-server.result.now in
    let w = c.on_packet-step.new.self in
    let tx = c.on_packet-step.new.tx in
    let h = c.on_packet-step.ensures.handles in
    let calls = c.self.invariant.1.calls in
    let seen = flat s.pool s.sides.items s.servers.items s.queue.tx s.queue.pacer c.args.self.now
    c.self.view_is in
    let room = ring-room s.pool s.sides.items s.servers.items (joined s.queue.tx s.queue.pacer)
    (undue c.args.self.now) seen (less-undue c.args.self.now c.requires.reply.ring) in
    let at = there-server s.pool s.servers.items i x (ap (λ (z : Shown). z.servers) c.self.view_is)
    c.requires.known c.index_mut-server.ensures.value in
    let step = beside-step (map entry_of s.queue.pacer.items)
    (paced-calls s.queue.pacer.items calls) i s.servers.items x w at h in
    let after = c.on_packet-step.new.pool in
    let now = slice_set s.servers.items i w in
    let none = c.reply_of.ensures ∙ ap listed_entry c.in_default.is in
    let done = h.leaves.handled in
    let size = ap (λ r. r.size) h.ring_is in (
      subst (λ (t : Ring EntryValue). Kept after s.sides.items now t)
          (final-none c.self.invariant.0 room step c.sound.ensures none)
          (serve-kept c.self.invariant.0 room step c.sound.ensures),
      record { calls = calls; half = c.self.invariant.1.half ∙ sym size },
      servers-kept s.shares s.pool after s.sides.items s.servers.items now
          (step-kept i s.servers.items now x w at refl (steps-credits c.on_packet-step.result
          done.answer c.args.head.now c.args.body.now _ _ done.steps)) c.self.invariant.2,
      ends-kept s.ends.items s.servers.items now
          (step-ways i s.servers.items now x w at refl (steps-way c.on_packet-step.result
          done.answer c.args.head.now c.args.body.now _ _ done.steps)) c.self.invariant.3,
      room-stays size refl refl refl c.self.invariant.4,
    )

pub push-requires : goal.push-requires
push-requires g c =
    let s = c.self.inside in
    let i = c.args.i in
    let x = c.index_mut-server.result.now in
    let w = c.on_packet-step.new.self in
    let tx = c.on_packet-step.new.tx in
    let h = c.on_packet-step.ensures.handles in
    let calls = c.self.invariant.1.calls in
    let seen = flat s.pool s.sides.items s.servers.items s.queue.tx s.queue.pacer c.args.self.now
    c.self.view_is in
    let room = ring-room s.pool s.sides.items s.servers.items (joined s.queue.tx s.queue.pacer)
    (undue c.args.self.now) seen (less-undue c.args.self.now c.requires.reply.ring) in
    let at = there-server s.pool s.servers.items i x (ap (λ (z : Shown). z.servers) c.self.view_is)
    c.requires.known c.index_mut-server.ensures.value in
    let step = beside-step (map entry_of s.queue.pacer.items)
    (paced-calls s.queue.pacer.items calls) i s.servers.items x w at h in
    record {
      room = omega (
        arith,
        new-room c.self.invariant.0 room step c.sound.ensures,
        joined-length tx s.queue.pacer,
      );
    }

pub invariant_of-self-2 : goal.invariant_of-self-2
invariant_of-self-2 g c =
    let s = c.self.inside in
    let i = c.args.i in
    let x = c.index_mut-server.result.now in
    let w = c.on_packet-step.new.self in
    let tx = c.on_packet-step.new.tx in
    let h = c.on_packet-step.ensures.handles in
    let calls = c.self.invariant.1.calls in
    let seen = flat s.pool s.sides.items s.servers.items s.queue.tx s.queue.pacer c.args.self.now
    c.self.view_is in
    let room = ring-room s.pool s.sides.items s.servers.items (joined s.queue.tx s.queue.pacer)
    (undue c.args.self.now) seen (less-undue c.args.self.now c.requires.reply.ring) in
    let at = there-server s.pool s.servers.items i x (ap (λ (z : Shown). z.servers) c.self.view_is)
    c.requires.known c.index_mut-server.ensures.value in
    let step = beside-step (map entry_of s.queue.pacer.items)
    (paced-calls s.queue.pacer.items calls) i s.servers.items x w at h in
    let after = c.on_packet-step.new.pool in
    let now = slice_set s.servers.items i w in
    let one = c.reply_of.ensures ∙ ap listed_entry c.in-Some.is in
    let done = h.leaves.handled in
    let size = ap (λ r. r.size) h.ring_is in
    rw c.push.ensures (
      kept-put after s.sides.items now c.in-Some.reply (joined tx s.queue.pacer)
          (joined (ring (tx.items ++ c.in-Some.reply ∷ []) tx.size) s.queue.pacer)
          (put-behind tx.items s.queue.pacer.items c.in-Some.reply) refl
          (subst (λ (t : Ring EntryValue). Kept after s.sides.items now t)
          (final-one c.self.invariant.0 room step c.sound.ensures c.in-Some.reply one)
          (serve-kept c.self.invariant.0 room step c.sound.ensures)),
      record { calls = calls; half = c.self.invariant.1.half ∙ sym size },
      servers-kept s.shares s.pool after s.sides.items s.servers.items now
          (step-kept i s.servers.items now x w at refl (steps-credits c.on_packet-step.result
          done.answer c.args.head.now c.args.body.now _ _ done.steps)) c.self.invariant.2,
      ends-kept s.ends.items s.servers.items now
          (step-ways i s.servers.items now x w at refl (steps-way c.on_packet-step.result
          done.answer c.args.head.now c.args.body.now _ _ done.steps)) c.self.invariant.3,
      room-stays size refl refl refl c.self.invariant.4,
    )

pub returns-in_default-clause-handles : goal.returns-in_default-clause-handles
returns-in_default-clause-handles g c =
    let s = c.self.inside in
    let i = c.args.i in
    let x = c.index_mut-server.result.now in
    let w = c.on_packet-step.new.self in
    let tx = c.on_packet-step.new.tx in
    let h = c.on_packet-step.ensures.handles in
    let calls = c.self.invariant.1.calls in
    let seen = flat s.pool s.sides.items s.servers.items s.queue.tx s.queue.pacer c.args.self.now
    c.self.view_is in
    let room = ring-room s.pool s.sides.items s.servers.items (joined s.queue.tx s.queue.pacer)
    (undue c.args.self.now) seen (less-undue c.args.self.now c.requires.reply.ring) in
    let at = there-server s.pool s.servers.items i x (ap (λ (z : Shown). z.servers) c.self.view_is)
    c.requires.known c.index_mut-server.ensures.value in
    let step = beside-step (map entry_of s.queue.pacer.items)
    (paced-calls s.queue.pacer.items calls) i s.servers.items x w at h in
    let none = c.reply_of.ensures ∙ ap listed_entry c.in_default.is in
    let own = seen-own s.pool s.sides.items s.servers.items (joined s.queue.tx s.queue.pacer)
    (undue c.args.self.now) i c.args.head.now.session x seen c.requires.session at in
    let n = x.number in
    let row = row_of (g.V.Service.mode_of c.args.head.now.req_type) c.args.jobs_full
    c.args.head.now x in
    let begins = has_begun row c.on_packet-step.result in
    let older = newest c.args.head.now.request x in
    let queue : queue_of s.queue.tx s.queue.pacer ≡ c.args.self.now.queued =
    ap (λ (v : Shown). v.queued) c.self.view_is in
    serve-at c.self.invariant.0 room step c.sound.ensures own c.args.self.now _ _ _
    c.self.view_is refl
    (λ r. paced-numbers n r s.queue.tx.items s.queue.pacer.items calls
    ∙ ap (λ qs. numbers_of (Reply n r) qs) queue)
    (queue-by c.self.invariant.0 room step c.sound.ensures c.args.self.now.queued _
    (queue-none s.pool n older s.queue.tx.items tx.items s.queue.pacer.items begins calls
    (ap (λ r. r.items) h.ring_is) c.args.self.now.queued queue
    (replies_of c.on_packet-step.result) none))

pub returns-clause-handles : goal.returns-clause-handles
returns-clause-handles g c =
    let s = c.self.inside in
    let i = c.args.i in
    let x = c.index_mut-server.result.now in
    let w = c.on_packet-step.new.self in
    let tx = c.on_packet-step.new.tx in
    let h = c.on_packet-step.ensures.handles in
    let calls = c.self.invariant.1.calls in
    let seen = flat s.pool s.sides.items s.servers.items s.queue.tx s.queue.pacer c.args.self.now
    c.self.view_is in
    let room = ring-room s.pool s.sides.items s.servers.items (joined s.queue.tx s.queue.pacer)
    (undue c.args.self.now) seen (less-undue c.args.self.now c.requires.reply.ring) in
    let at = there-server s.pool s.servers.items i x (ap (λ (z : Shown). z.servers) c.self.view_is)
    c.requires.known c.index_mut-server.ensures.value in
    let step = beside-step (map entry_of s.queue.pacer.items)
    (paced-calls s.queue.pacer.items calls) i s.servers.items x w at h in
    let one = c.reply_of.ensures ∙ ap listed_entry c.in-Some.is in
    let own = seen-own s.pool s.sides.items s.servers.items (joined s.queue.tx s.queue.pacer)
    (undue c.args.self.now) i c.args.head.now.session x seen c.requires.session at in
    let n = x.number in
    let row = row_of (g.V.Service.mode_of c.args.head.now.req_type) c.args.jobs_full
    c.args.head.now x in
    let begins = has_begun row c.on_packet-step.result in
    let older = newest c.args.head.now.request x in
    let queue : queue_of s.queue.tx s.queue.pacer ≡ c.args.self.now.queued =
    ap (λ (v : Shown). v.queued) c.self.view_is in
    rw c.push.ensures (
    serve-at c.self.invariant.0 room step c.sound.ensures own c.args.self.now _ _ _
    c.self.view_is refl
    (λ r. paced-numbers n r s.queue.tx.items s.queue.pacer.items calls
    ∙ ap (λ qs. numbers_of (Reply n r) qs) queue)
    (queue-by c.self.invariant.0 room step c.sound.ensures c.args.self.now.queued _
    (queue-one s.pool n older s.queue.tx.items tx.items s.queue.pacer.items begins calls
    (ap (λ r. r.items) h.ring_is) c.args.self.now.queued queue
    (replies_of c.on_packet-step.result) c.in-Some.reply one)))
