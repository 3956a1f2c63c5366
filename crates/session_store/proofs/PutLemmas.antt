-- What always holds of a store doesn't depend on where in its queue an entry stands.
use Rattle.std.proofs.Common.{◌≡◌, ℕ, Bool, false, ◌&&◌, cond, Option, Some, None, List, []}
use Rattle.std.proofs.Common.{◌∷◌, ◌++◌, length, sym, subst, ◌∙◌, arith}
use Rattle.std.specs.Prelude.{IfSome, count_by}
use Rattle.std.specs.List.{AllByRecursion}
use Rattle.std.proofs.lemmas.List.{length-append}
use Rattle.std.proofs.lemmas.List.Sums.{sum_by-append, sum_by-cons}
use Rattle.rpc_base.specs.Taking.{TakenOut}
use Rattle.rpc_base.proofs.FirstLemmas.{all-each}
use Rattle.rpc_base.proofs.TakingLemmas.{taken-fewer, taken-sum}
use Rattle.buffer_pool.specs.Pool.{Pool, refs_of}
use Rattle.packet_rings.specs.Entries.{is_of}
use Rattle.packet_rings.specs.Mentions.{is_place}
use Rattle.packet_rings.specs.Rings.{Ring, ring}
use Rattle.packet_rings.specs.Values.{EntryValue}
use Rattle.rpc_base.specs.declared.owner.Owner.TheVariants.{Ask}
use Rattle.server_core.specs.Flushing.{HoldsReplies, named_by}
use Rattle.server_core.specs.declared.slot.SlotRequest.{SlotRequest}
use Rattle.server_core.specs.declared.slot.Stored.{Stored}
use Rattle.server_core.specs.Session.{Session as Serving, answer_of, owner_of}
use Rattle.session_ends.specs.declared.side.Side.{Side}
use Rattle.session_store.specs.Sides.{IsOf, Kept, ServerHolds}

module _ (e : EntryValue) (old new : List EntryValue)
    (out : TakenOut {A = EntryValue} (λ d. false) e new old) where
  pub put-count : (q : EntryValue → Bool) → count_by q (old ++ e ∷ []) ≡ count_by q new
  put-count q =
      omega (
        arith,
        sum_by-append (λ d. cond (q d) 1 0) old (e ∷ []),
        sum_by-cons (λ d. cond (q d) 1 0) e [],
        taken-sum (λ d. false) (λ d. cond (q d) 1 0) e new old out,
      )

  pub put-length : length (old ++ e ∷ []) ≡ length new
  put-length = omega (arith, length-append old (e ∷ []), taken-fewer (λ d. false) e new old out)

  module _ (P : EntryValue → Type 0) where
    all-parts : (xs : List EntryValue) → AllByRecursion P (xs ++ e ∷ []) → P e × AllByRecursion P xs
    all-parts [] all = (all.0, tt)
    all-parts (x ∷ xs) all = let rest = all-parts xs all.1 in (rest.0, (all.0, rest.1))

    all-between : (xs ys : List EntryValue) → P e → AllByRecursion P (xs ++ ys)
        → AllByRecursion P (xs ++ e ∷ ys)
    all-between [] ys own all = (own, all)
    all-between (x ∷ xs) ys own all = (all.0, all-between xs ys own all.1)

    pub put-all : AllByRecursion P (old ++ e ∷ []) → AllByRecursion P new
    put-all all =
        let parts = all-parts old all in
        subst (λ xs. AllByRecursion P xs) (sym out.was)
        (all-between out.before out.after parts.0
        (subst (λ xs. AllByRecursion P xs) out.left parts.1))

-- an entry that was put behind all others may stand anywhere
module _ (pool : Pool) (sides : List Side) (servers : List Serving) (e : EntryValue)
    (old new : Ring EntryValue)
    (out : TakenOut {A = EntryValue} (λ d. false) e new.items old.items)
    (size : new.size ≡ old.size) where
  put-held : (n : ℕ) (q : SlotRequest) → HoldsReplies n pool (old.items ++ e ∷ []) q
      → HoldsReplies n pool new.items q
  put-held n q h = record {
    each = put-all e old.items new.items out _ h.each;
    all = named (answer_of q.state) h.all;
  }
    where
      named : (o : Option Stored)
          → IfSome o (λ a. refs_of pool a.place
          ≡ named_by (owner_of n q) a.place (old.items ++ e ∷ []))
          → IfSome o (λ a. refs_of pool a.place ≡ named_by (owner_of n q) a.place new.items)
      named None t = tt
      named (Some a) t =
          t ∙ put-count e old.items new.items out (λ d. is_of (owner_of n q) d && is_place a.place d.place)

  put-holds : (v : Serving) → ServerHolds pool (old.items ++ e ∷ []) v → ServerHolds pool new.items v
  put-holds v h = record {
    own = put-all e old.items new.items out _ h.own;
    each = all-each _ _ v.slots (put-held v.number) h.each;
  }

  pub kept-put : Kept pool sides servers (ring (old.items ++ e ∷ []) old.size)
      → Kept pool sides servers new
  kept-put kept = record {
    numbered = kept.numbered;
    rises = kept.rises;
    keeps = kept.keeps;
    serves = kept.serves;
    apart = kept.apart;
    counted = λ p. kept.counted p ∙ put-count e old.items new.items out (λ d. is_place p d.place);
    stands = put-all e old.items new.items out (IsOf sides servers) kept.stands;
    holds = all-each _ _ servers put-holds kept.holds;
    queued = all-each _ _ sides (λ s all. all-each _ _ s.session.active
        (λ c t. t ∙ put-count e old.items new.items out (is_of (Ask s.session.number c.request))) all)
        kept.queued;
    replies = all-each _ _ servers (λ v all. all-each _ _ v.slots
        (λ q t. t ∙ put-count e old.items new.items out (is_of (owner_of v.number q))) all)
        kept.replies;
    ascends = kept.ascends;
    within = omega (arith, kept.within, put-length e old.items new.items out, size);
    few = rw size kept.few;
    slots = kept.slots;
    served = kept.served;
  }
