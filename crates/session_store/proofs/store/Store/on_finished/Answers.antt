use Rattle.std.proofs.Common.{Some, None, [], ◌∷◌, ◌++◌, ap, refl, arith}
use Rattle.std.specs.Prelude.{slice_set}
use Rattle.rpc_base.proofs.PlaceLemmas.{all-at}
use Rattle.message_buffer.specs.Buffer.{bytes_of}
use Rattle.packet_rings.specs.Rings.{ring}
use Rattle.session_ends.specs.Joined.{joined}
use Rattle.session_store.specs.Joined.{undue}
use Rattle.session_ends.specs.Sides.{ServerKept}
use Rattle.session_store.specs.Sides.{Shown}
use Rattle.session_store.proofs.FinishLemmas.{finish-at, finish-clients, finish-handed, finish-kept}
use Rattle.session_store.proofs.FinishLemmas.{finish-places, finishes-at, left-at, left-handed}
use Rattle.session_store.proofs.FinishLemmas.{left-kept, left-places}
use Rattle.session_store.proofs.ServeLemmas.{seen-own, there-server}
use Rattle.session_store.proofs.StoreLemmas.{ring-room, two-spare}
use Rattle.session_ends.proofs.JoinLemmas.{put-behind, queue-behind, joined-length}
use Rattle.session_store.proofs.PutLemmas.{kept-put}
use Rattle.session_store.proofs.UndueLemmas.{less-undue, flat}
use Rattle.session_store.proofs.ShareLemmas.{finished-kept, servers-kept}
use Rattle.session_store.proofs.WayLemmas.{ends-kept, finished-ways}
use Rattle.session_store.proofs.store.Store.on_finished.Goals as goal

pub on_finished-requires-clause-session : goal.on_finished-requires-clause-session
on_finished-requires-clause-session c =
    let s = c.self.inside in
    let i = c.args.i in
    let x = c.index_mut-server.result.now in
    let seen = flat s.pool s.sides.items s.servers.items s.queue.tx s.queue.pacer c.args.self.now
    c.self.view_is in
    let at = there-server s.pool s.servers.items i x (ap (λ (z : Shown). z.servers) c.self.view_is)
    c.requires.known c.index_mut-server.ensures.value in
    seen-own s.pool s.sides.items s.servers.items (joined s.queue.tx s.queue.pacer)
    (undue c.args.self.now) i c.args.parcel.session x seen c.requires.session at

pub on_finished-requires-clause-keeps_pool : goal.on_finished-requires-clause-keeps_pool
on_finished-requires-clause-keeps_pool c =
    let s = c.self.inside in
    let i = c.args.i in
    let x = c.index_mut-server.result.now in
    let at = there-server s.pool s.servers.items i x (ap (λ (z : Shown). z.servers) c.self.view_is)
    c.requires.known c.index_mut-server.ensures.value in
    all-at (ServerKept s.pool) s.servers.items i x c.self.invariant.0.serves at

pub on_finished-requires-clause-spare : goal.on_finished-requires-clause-spare
on_finished-requires-clause-spare c =
    let s = c.self.inside in
    let seen = flat s.pool s.sides.items s.servers.items s.queue.tx s.queue.pacer c.args.self.now
    c.self.view_is in
    let two = two-spare s.pool s.sides.items s.servers.items (joined s.queue.tx s.queue.pacer)
    (undue c.args.self.now) c.self.invariant.0 seen c.requires.reply.room in
    omega (arith, two)

pub invariant_of-self : goal.invariant_of-self
invariant_of-self c =
    let s = c.self.inside in
    let i = c.args.i in
    let x = c.index_mut-server.result.now in
    let r = c.args.parcel.request in
    let bytes = bytes_of c.args.parcel.out in
    let w = c.on_finished.new.self in
    let after = c.on_finished.new.pool in
    let now = slice_set s.servers.items i w in
    let at = there-server s.pool s.servers.items i x (ap (λ (z : Shown). z.servers) c.self.view_is)
    c.requires.known c.index_mut-server.ensures.value in
    let h = finishes-at i r bytes None s.servers.items s.pool after x w at
    (rw c.in_default.is at c.on_finished.ensures) in (
      left-kept s.pool after s.sides.items s.servers.items now
          (joined s.queue.tx s.queue.pacer) i r bytes h c.self.invariant.0,
      c.self.invariant.1,
      servers-kept s.shares s.pool after s.sides.items s.servers.items now
          (finished-kept i r bytes None s.servers.items now s.pool after h) c.self.invariant.2,
      ends-kept s.ends.items s.servers.items now
          (finished-ways i r bytes None s.servers.items now s.pool after h) c.self.invariant.3,
      c.self.invariant.4,
    )

pub invariant_of-self-2 : goal.invariant_of-self-2
invariant_of-self-2 c =
    let s = c.self.inside in
    let i = c.args.i in
    let x = c.index_mut-server.result.now in
    let seen = flat s.pool s.sides.items s.servers.items s.queue.tx s.queue.pacer c.args.self.now
    c.self.view_is in
    let r = c.args.parcel.request in
    let bytes = bytes_of c.args.parcel.out in
    let e = c.in-Some.entry in
    let w = c.on_finished.new.self in
    let after = c.on_finished.new.pool in
    let now = slice_set s.servers.items i w in
    let at = there-server s.pool s.servers.items i x (ap (λ (z : Shown). z.servers) c.self.view_is)
    c.requires.known c.index_mut-server.ensures.value in
    let h = finishes-at i r bytes (Some e) s.servers.items s.pool after x w at
    (rw c.in-Some.is at c.on_finished.ensures) in
    let room = ring-room s.pool s.sides.items s.servers.items (joined s.queue.tx s.queue.pacer)
    (undue c.args.self.now) seen (less-undue c.args.self.now c.requires.reply.ring) in
    rw c.push.ensures (
      kept-put after s.sides.items now e (joined s.queue.tx s.queue.pacer)
          (joined (ring (s.queue.tx.items ++ e ∷ []) s.queue.tx.size) s.queue.pacer)
          (put-behind s.queue.tx.items s.queue.pacer.items e) refl
          (finish-kept s.pool after s.sides.items s.servers.items now
          (joined s.queue.tx s.queue.pacer) i r bytes e c.self.invariant.0 h room),
      record { calls = c.self.invariant.1.calls; half = c.self.invariant.1.half },
      servers-kept s.shares s.pool after s.sides.items s.servers.items now
          (finished-kept i r bytes (Some e) s.servers.items now s.pool after h) c.self.invariant.2,
      ends-kept s.ends.items s.servers.items now
          (finished-ways i r bytes (Some e) s.servers.items now s.pool after h) c.self.invariant.3,
      c.self.invariant.4,
    )

pub push-requires : goal.push-requires
push-requires c =
    let s = c.self.inside in
    let seen = flat s.pool s.sides.items s.servers.items s.queue.tx s.queue.pacer c.args.self.now
    c.self.view_is in
    let room = ring-room s.pool s.sides.items s.servers.items (joined s.queue.tx s.queue.pacer)
    (undue c.args.self.now) seen (less-undue c.args.self.now c.requires.reply.ring) in
    record { room = omega (arith, room, joined-length s.queue.tx s.queue.pacer) }

pub returns-in_default : goal.returns-in_default
returns-in_default c =
    let s = c.self.inside in
    let i = c.args.i in
    let x = c.index_mut-server.result.now in
    let r = c.args.parcel.request in
    let bytes = bytes_of c.args.parcel.out in
    let w = c.on_finished.new.self in
    let after = c.on_finished.new.pool in
    let now = slice_set s.servers.items i w in
    let at = there-server s.pool s.servers.items i x (ap (λ (z : Shown). z.servers) c.self.view_is)
    c.requires.known c.index_mut-server.ensures.value in
    let h = finishes-at i r bytes None s.servers.items s.pool after x w at
    (rw c.in_default.is at c.on_finished.ensures) in
    record {
      servers = rw (← c.self.view_is) (left-at s.pool after s.sides.items s.servers.items now
          (joined s.queue.tx s.queue.pacer) i r bytes h);
      clients = rw (← c.self.view_is, h.step.left.pool) refl;
      queued = rw (← c.self.view_is) refl;
      size = rw (← c.self.view_is) refl;
      handed = rw (← c.self.view_is) (left-handed s.pool after s.sides.items s.servers.items now
          (joined s.queue.tx s.queue.pacer) i r bytes h);
      places = rw (← c.self.view_is) (left-places s.pool after s.sides.items s.servers.items now
          (joined s.queue.tx s.queue.pacer) i r bytes h);
    }

pub returns : goal.returns
returns c =
    let s = c.self.inside in
    let i = c.args.i in
    let x = c.index_mut-server.result.now in
    let seen = flat s.pool s.sides.items s.servers.items s.queue.tx s.queue.pacer c.args.self.now
    c.self.view_is in
    let r = c.args.parcel.request in
    let bytes = bytes_of c.args.parcel.out in
    let e = c.in-Some.entry in
    let w = c.on_finished.new.self in
    let after = c.on_finished.new.pool in
    let now = slice_set s.servers.items i w in
    let at = there-server s.pool s.servers.items i x (ap (λ (z : Shown). z.servers) c.self.view_is)
    c.requires.known c.index_mut-server.ensures.value in
    let h = finishes-at i r bytes (Some e) s.servers.items s.pool after x w at
    (rw c.in-Some.is at c.on_finished.ensures) in
    let room = ring-room s.pool s.sides.items s.servers.items (joined s.queue.tx s.queue.pacer)
    (undue c.args.self.now) seen (less-undue c.args.self.now c.requires.reply.ring) in
    record {
      servers = rw (← c.self.view_is) (finish-at s.pool after s.sides.items s.servers.items now
          (joined s.queue.tx s.queue.pacer) i r bytes e c.self.invariant.0 h room h.step.sound);
      clients = rw (← c.self.view_is) (finish-clients s.pool after s.sides.items s.servers.items now
          (joined s.queue.tx s.queue.pacer) i r bytes e c.self.invariant.0 h room);
      queued = rw (← c.self.view_is, c.push.ensures)
          (queue-behind s.queue.tx.items s.queue.pacer.items e);
      size = rw (← c.self.view_is, c.push.ensures) refl;
      handed = rw (← c.self.view_is) (finish-handed s.pool after s.sides.items s.servers.items now
          (joined s.queue.tx s.queue.pacer) i r bytes e c.self.invariant.0 h room);
      places = rw (← c.self.view_is) (finish-places s.pool after s.sides.items s.servers.items now
          (joined s.queue.tx s.queue.pacer) i r bytes e c.self.invariant.0 h room);
    }
