-- The front of the ring, as it is looked at.
use Rattle.std.proofs.Common.{◌≡◌, ℕ, Bool, true, false, cond, ◌∙◌, Some, List, [], ◌∷◌}
use Rattle.std.proofs.Common.{refl, sym, ap, subst}
use Rattle.std.specs.Prelude.{map, option_map, slice_get}
use Rattle.std.proofs.lemmas.Bool.{false≢true}
use Rattle.std.proofs.lemmas.Option.{slice_get-map}
use Rattle.rpc_base.specs.declared.owner.Owner.{Owner}
use Rattle.rpc_base.specs.declared.owner.Owner.TheVariants.{Ask, Reply, Control}
use Rattle.rpc_base.proofs.PlaceLemmas.{all-at, get-map}
use Rattle.buffer_pool.specs.Pool.{Pool}
use Rattle.packet_header.specs.Header.{AreBytes}
use Rattle.packet_rings.specs.Rings.{Ring}
use Rattle.packet_rings.specs.Values.{EntryValue}
use Rattle.rpc_laws.specs.Packets.{IsSpelled}
use Rattle.rpc_laws.specs.Pacing.{line}
use Rattle.rpc_laws.specs.Queues.{is_due}
use Rattle.rpc_laws.specs.declared.tables.Client.{Client}
use Rattle.server_core.specs.Session.{Session as Serving}
use Rattle.session_ends.specs.declared.side.Side.{Side}
use Rattle.session_store.specs.Queue.{IsFront, SendsFront, clients_sent, packet_in, peer_in}
use Rattle.pacing_wheel.specs.Wheel.{Wheel}
use Rattle.rpc_laws.specs.declared.tables.Queued.{Queued}
use Rattle.session_ends.specs.Joined.{is_some_due, joined, queue_of, queued_of}
use Rattle.session_store.specs.Joined.{shown_with, without_due}
use Rattle.session_store.proofs.UndueLemmas.{queue-undue}
use Rattle.session_store.specs.Sides.{IsOf, IsOfOwner, Kept, Shown, shown_of, shown_side}
use Rattle.session_store.proofs.GoneLemmas.{front-peer}
use Rattle.session_store.proofs.ReplyGoneLemmas.{end-peer}

module _ (pool : Pool) (sides : List Side) (servers : List Serving) (tx : Ring EntryValue)
    (kept : Kept pool sides servers tx) where
  pub peer-cases : (e : EntryValue) (o : Owner) → e.owner ≡ o → slice_get tx.items 0 ≡ Some e
      → peer_in (shown_of pool sides servers tx) e.owner ≡ Some e.peer
  peer-cases e (Ask i r) own front = front-peer pool sides servers tx kept i r e front own
  peer-cases e (Reply t r) own front = end-peer pool sides servers tx kept t r e front own
  peer-cases e Control own front =
      absurd (subst (IsOfOwner sides servers e) own
      (all-at (IsOf sides servers) tx.items 0 e kept.stands front))

  -- it isn't a control packet
  pub no-control : (e : EntryValue) → slice_get tx.items 0 ≡ Some e → e.owner ≡ Control → ⊥
  no-control e front own =
      subst (IsOfOwner sides servers e) own
      (all-at (IsOf sides servers) tx.items 0 e kept.stands front)

  module _ (seen : Shown) (view : shown_of pool sides servers tx ≡ seen) where
    pub sends-seen : (e : EntryValue) (now : ℕ) (clients : List Client)
        → slice_get tx.items 0 ≡ Some e
        → clients ≡ clients_sent now e.owner e.number (map (shown_side pool) sides)
        → SendsFront now seen.queued seen.clients clients
    sends-seen e now clients front h =
        let place : slice_get (map queued_of tx.items) 0 ≡ Some (queued_of e) =
        get-map queued_of tx.items 0 e front in
        rw (← view, place) h

-- that of the ring or of the pacer
module _ (pool : Pool) (sides : List Side) (servers : List Serving) (tx : Ring EntryValue)
    (paced : Wheel) (kept : Kept pool sides servers (joined tx paced)) (seen : Shown)
    (view : shown_with pool sides servers tx paced ≡ seen) (now : ℕ) where
  front-undue : (e : EntryValue) → slice_get (joined tx paced).items 0 ≡ Some e
      → option_map without_due (slice_get (queue_of tx paced) 0) ≡ Some (queued_of e)
  front-undue e front =
      sym (slice_get-map without_due (queue_of tx paced) 0)
      ∙ ap (λ (qs : List Queued). slice_get qs 0) (queue-undue tx paced)
      ∙ get-map queued_of (joined tx paced).items 0 e front

  -- with its header and body
  pub fronts : (e : EntryValue) (head body : List ℕ)
      → slice_get (joined tx paced).items 0 ≡ Some e
      → is_some_due now (slice_get (queue_of tx paced) 0) ≡ true → AreBytes head
      → IsSpelled (packet_in (shown_of pool sides servers (joined tx paced)) e.owner e.number)
      head body → IsFront now seen e head body
  fronts e head body is due bytes spells =
      rw (← view) (record {
        front = front-undue e is;
        due = due;
        peer = peer-cases pool sides servers (joined tx paced) kept e e.owner refl is;
        spells = spells;
        bytes = bytes;
      })

-- where the first may be sent, some may
pub some-due : (now : ℕ) (qs : List Queued) → is_some_due now (slice_get qs 0) ≡ true
    → line now qs ≡ [] → ⊥
some-due now [] due none = cc
some-due now (q ∷ qs) due none = by (is_due now q.due) due none
  where
    by : (b : Bool) → b ≡ true → cond b (q ∷ line now qs) (line now qs) ≡ [] → ⊥
    by true t h = cc
    by false t h = false≢true t
