-- What is seen of the entry of least number of an owner, and of the ring without it.
use Rattle.std.proofs.Common.{◌≡◌, ℕ, ◌<◌, true, eqb, Some}
use Rattle.std.proofs.Common.{List, length, get_or, sym, ap, ◌∙◌, arith}
use Rattle.std.specs.Prelude.{IsTrue, map, option_map, slice_get}
use Rattle.std.proofs.lemmas.List.{length-map}
use Rattle.rpc_base.specs.Least.{least}
use Rattle.rpc_base.specs.declared.owner.Owner.{Owner}
use Rattle.packet_rings.specs.Entries.{is_of, number_of}
use Rattle.packet_rings.specs.Values.{EntryValue}
use Rattle.session_ends.specs.Joined.{is_owned, queued_number, queued_of, joined, queue_of}
use Rattle.rpc_base.specs.declared.owner.Owner.TheVariants.{Ask, Reply, Control}
use Rattle.rpc_base.specs.Owners.{same_owner}
use Rattle.std.proofs.lemmas.Bool.{and_parts, eqb-true}
use Rattle.buffer_pool.specs.Pool.{Pool}
use Rattle.packet_rings.specs.Rings.{Ring}
use Rattle.server_core.specs.Session.{Session as Serving}
use Rattle.session_ends.specs.declared.side.Side.{Side}
use Rattle.session_store.specs.Sides.{Kept, Shown, shown_of, shown_side}
use Rattle.pacing_wheel.specs.Wheel.{Wheel}
use Rattle.session_store.specs.Joined.{without_due}
use Rattle.session_ends.proofs.LeastMapLemmas.{least-map}
use Rattle.session_ends.proofs.ListLemmas.{get-there}
use Rattle.session_store.proofs.UndueLemmas.{queue-undue}
use Rattle.session_store.proofs.StandLemmas.{owner-is}

-- what is seen of the ring and the pacer
pub taken-seen : (owner : Owner) (tx : Ring EntryValue) (paced : Wheel)
    → option_map queued_of (least (is_of owner) number_of (joined tx paced).items)
    ≡ option_map without_due (least (is_owned owner) queued_number (queue_of tx paced))
taken-seen owner tx paced =
    sym (least-map queued_of (is_owned owner) queued_number (joined tx paced).items)
    ∙ ap (least (is_owned owner) queued_number) (sym (queue-undue tx paced))
    ∙ least-map without_due (is_owned owner) queued_number (queue_of tx paced)

-- a session that is looked at has its place's number
module _ (pool : Pool) (sides : List Side) (servers : List Serving) (tx : Ring EntryValue)
    (kept : Kept pool sides servers tx) (seen : Shown)
    (view : shown_of pool sides servers tx ≡ seen) (i : ℕ) where
  pub known-sides : i < length seen.clients → i < length sides
  known-sides known =
      let within : i < length (map (shown_side pool) sides) = rw (← view) at known in
      omega (arith, within, length-map sides (shown_side pool))

  pub there-at : (x : Side) → i < length seen.clients → x ≡ get_or sides i x
      → slice_get sides i ≡ Some x
  there-at x known looked = get-there sides i x (known-sides known) looked

  pub number-at : (x : Side) → i < length seen.clients → x ≡ get_or sides i x → x.session.number ≡ i
  number-at x known looked = kept.numbered i x (there-at x known looked)

-- an owner's entry of least number is its own
pub least-own : (i r : ℕ) (e : EntryValue) → IsTrue (is_of (Ask i r) e) → e.owner ≡ Ask i r
least-own i r e t = owner-is e.owner i r t

reply-is : (o : Owner) (t r : ℕ) → same_owner o (Reply t r) ≡ true → o ≡ Reply t r
reply-is (Ask s q) t r e = cc
reply-is (Reply s q) t r e =
    let parts = and_parts (eqb s t) (eqb q r) e in
    ap (λ n. Reply n q) (eqb-true s t parts.0) ∙ ap (Reply t) (eqb-true q r parts.1)
reply-is Control t r e = cc

pub least-reply : (t r : ℕ) (e : EntryValue) → IsTrue (is_of (Reply t r) e) → e.owner ≡ Reply t r
least-reply t r e h = reply-is e.owner t r h
