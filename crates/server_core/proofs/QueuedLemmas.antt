-- Each request counts as many queued replies as entries are its own, before and after a call of its session.
use Rattle.rpc_base.proofs.FirstLemmas.{all-fail, all-left, all-push, found-holds, found-own}
use Rattle.std.proofs.Common.{◌≡◌, ℕ, ◌+◌, ◌%◌, Bool, true, false, not, cond, eqb}
use Rattle.std.proofs.Common.{Option, Some, None, List, [], ◌∷◌, ◌++◌, filter, refl, sym, ap, subst}
use Rattle.std.proofs.Common.{◌∙◌, arith}
use Rattle.std.specs.Prelude.{IfSome, count_by}
use Rattle.std.specs.List.{AllByRecursion, find}
use Rattle.std.proofs.lemmas.Bool.{eq-eqb, eqb-true}
use Rattle.std.proofs.lemmas.List.Sums.{sum_by-append, sum_by-cons}
use Rattle.buffer_pool.specs.Pool.{Pool}
use Rattle.packet_rings.specs.Entries.{is_not_of, is_of}
use Rattle.packet_rings.specs.Values.{EntryValue}
use Rattle.rpc_base.specs.Tables.{at_first, without_first}
use Rattle.rpc_base.specs.Taking.{TakenOut}
use Rattle.rpc_base.specs.declared.owner.Owner.{Owner}
use Rattle.rpc_base.specs.declared.owner.Owner.TheVariants.{Reply}
use Rattle.rpc_base.proofs.TakingLemmas.{taken-sum, find-passes}
use Rattle.server_core.specs.declared.slot.SlotRequest.{SlotRequest}
use Rattle.server_core.specs.Counting.{CountsQueued, IsCounted, left_at}
use Rattle.server_core.specs.Flushing.{HoldsAll, without_newest}
use Rattle.server_core.specs.KeepsPool.{KeepsPool}
use Rattle.server_core.specs.Replies.{IsReplyTo, is_owner, request_of}
use Rattle.server_core.specs.Serving.{begun, gone_on, one_left, with_slots}
use Rattle.server_core.specs.Session.{IsSession, Session, is_in_slot, newest, owner_of}
use Rattle.server_core.proofs.ChangedLemmas.{at_first-agree, without-none}
use Rattle.server_core.proofs.HoldBeginLemmas.{fresh, owner-is, reply-is, rest-apart}
use Rattle.server_core.proofs.HoldLemmas.{not-of, one-of, rest-fails}
use Rattle.server_core.proofs.PlaceLemmas.{all-back}
use Rattle.server_core.proofs.ReplyLemmas.{number-few}
use Rattle.server_core.proofs.SlotLemmas.{by-number}
use Rattle.rpc_base.proofs.ChangedLemmas.{same-first}

-- an entry more, and one that is taken out
abbrev weight : Owner → EntryValue → ℕ
weight owner e = cond (is_of owner e) 1 0

count-behind : (owner : Owner) (es : List EntryValue) (e : EntryValue)
    → count_by (is_of owner) (es ++ e ∷ []) ≡ count_by (is_of owner) es + weight owner e
count-behind owner es e = omega (arith, sum_by-append (weight owner) es (e ∷ []), sum_by-cons (weight owner) e [])

pub count-out : (owner : Owner) (passes : EntryValue → Bool) (e : EntryValue)
    (old new : List EntryValue) → TakenOut passes e old new
    → count_by (is_of owner) old ≡ weight owner e + count_by (is_of owner) new
count-out owner passes e old new out = taken-sum passes (weight owner) e old new out

pub weight-own : (owner : Owner) (e : EntryValue) → is_of owner e ≡ true → weight owner e ≡ 1
weight-own owner e own = rw own refl

weight-other : (owner : Owner) (e : EntryValue) → is_of owner e ≡ false → weight owner e ≡ 0
weight-other owner e off = rw off refl

-- the requests whose reply it isn't
module _ (n r : ℕ) (e : EntryValue) (own : e.owner ≡ Reply n r) where
  pub behind-counted : (es : List EntryValue) (qs : List SlotRequest)
      → AllByRecursion (λ q. eqb q.number r ≡ false) qs → AllByRecursion (IsCounted n es) qs
      → AllByRecursion (IsCounted n (es ++ e ∷ [])) qs
  behind-counted es [] other all = tt
  behind-counted es (q ∷ qs) other all = (
    omega (
      arith,
      all.0,
      count-behind (owner_of n q) es e,
      weight-other (owner_of n q) e (not-of n r e own q other.0),
    ),
    behind-counted es qs other.1 all.1,
  )

  pub out-counted : (passes : EntryValue → Bool) (old new : List EntryValue)
      → TakenOut passes e old new → (qs : List SlotRequest)
      → AllByRecursion (λ q. eqb q.number r ≡ false) qs → AllByRecursion (IsCounted n old) qs
      → AllByRecursion (IsCounted n new) qs
  out-counted passes old new out [] other all = tt
  out-counted passes old new out (q ∷ qs) other all = (
    omega (
      arith,
      all.0,
      count-out (owner_of n q) passes e old new out,
      weight-other (owner_of n q) e (not-of n r e own q other.0),
    ),
    out-counted passes old new out qs other.1 all.1,
  )

-- a request of the session goes on
module _ (s : Session) (q : SlotRequest) (h : IsSession s) (found : newest q.number s ≡ Some q) where
  abbrev same_number : SlotRequest → Bool
  same_number x = eqb x.number q.number

  abbrev rest : List SlotRequest
  rest = without_first same_number s.slots

  own-first : find same_number s.slots ≡ Some q
  own-first = by-number s q.number q h found refl

  rest-other : AllByRecursion (λ x. eqb x.number q.number ≡ false) rest
  rest-other = rest-fails same_number same_number s.slots (number-few s q.number h)

  rest-counted : (es : List EntryValue) → CountsQueued s es → AllByRecursion (IsCounted s.number es) rest
  rest-counted es all = all-left same_number (IsCounted s.number es) s.slots all

  own-counted : (es : List EntryValue) → CountsQueued s es → IsCounted s.number es q
  own-counted es all = found-holds same_number (IsCounted s.number es) s.slots q all own-first

  module _ (d : SlotRequest) (number : d.number ≡ q.number) where
    gone-is : gone_on d s.slots ≡ at_first same_number (λ x. d) s.slots
    gone-is =
        ap (λ m. at_first (is_in_slot (m % 8)) (λ x. d) s.slots) number
        ∙ same-first (is_in_slot (q.number % 8)) same_number (λ x. d) q s.slots
        (eq-eqb (q.number % 8) (q.number % 8) refl)
        (eq-eqb q.number q.number refl) found own-first

    put-counted : (es : List EntryValue) → AllByRecursion (IsCounted s.number es) rest
        → IsCounted s.number es d → CountsQueued (with_slots (gone_on d s.slots) s) es
    put-counted es others mine =
        rw gone-is (all-back same_number q d (IsCounted s.number es) s.slots mine own-first others)

    owner-same : (es : List EntryValue)
        → count_by (is_of (owner_of s.number d)) es ≡ count_by (is_of (owner_of s.number q)) es
    owner-same es = ap (λ m. count_by (is_of (Reply s.number m)) es) number

    -- with a reply behind the entries
    pub gone-counted : (es : List EntryValue) (e : EntryValue) → d.queued ≡ q.queued + 1
        → e.owner ≡ Reply s.number q.number → CountsQueued s es
        → CountsQueued (with_slots (gone_on d s.slots) s) (es ++ e ∷ [])
    gone-counted es e more own all =
        let one = weight-own (owner_of s.number d) e (one-of s.number q.number e own d number) in
        put-counted (es ++ e ∷ []) (behind-counted s.number q.number e own es rest rest-other
        (rest-counted es all)) (omega (
          arith,
          more,
          own-counted es all,
          owner-same es,
          count-behind (owner_of s.number d) es e,
          one,
        ))

    -- without one
    pub still-counted : (es : List EntryValue) → d.queued ≡ q.queued → CountsQueued s es
        → CountsQueued (with_slots (gone_on d s.slots) s) es
    still-counted es same all =
        put-counted es (rest-counted es all) (omega
        (arith, same, own-counted es all, owner-same es))

  -- a reply to it is sent, or taken out unsent
  pub less-counted : (e : EntryValue) (passes : EntryValue → Bool) (old new : List EntryValue)
      → TakenOut passes e old new → e.owner ≡ Reply s.number q.number → CountsQueued s old
      → CountsQueued (with_slots (gone_on (one_left q) s.slots) s) new
  less-counted e passes old new out own all =
      let one = weight-own (owner_of s.number q) e (one-of s.number q.number e own q refl) in
      put-counted (one_left q) refl new (out-counted s.number q.number e own passes old new out rest
      rest-other (rest-counted old all)) (omega
      (arith, own-counted old all, count-out (owner_of s.number q) passes e old new out, one))

-- the session of an entry that left the ring
module _ (s : Session) (e : EntryValue) (h : IsSession s) (passes : EntryValue → Bool)
    (old new : List EntryValue) (out : TakenOut passes e old new) (all : CountsQueued s old) where
  left-cases : (o : Option SlotRequest) → request_of s e ≡ o → IsReplyTo o e → CountsQueued (left_at e s) new
  left-cases None found posted = absurd posted
  left-cases (Some q) found posted =
      let mine = find-passes (is_owner s.number e.owner) s.slots q found in
      let in_slot = eq-eqb (q.number % 8) (q.number % 8) refl in
      let own : e.owner ≡ Reply s.number q.number = owner-is s.number q.number e.owner mine in
      let at : newest q.number s ≡ Some q =
      found-own (is_owner s.number e.owner)
      (is_in_slot (q.number % 8)) s.slots q (h.apart (q.number % 8)) found in_slot in
      let same : at_first (is_owner s.number e.owner) one_left s.slots
      ≡ gone_on (one_left q) s.slots =
      at_first-agree (is_owner s.number e.owner) one_left (λ x. one_left q) q s.slots refl
      found ∙ same-first (is_owner s.number e.owner) (is_in_slot (q.number % 8))
      (λ x. one_left q) q s.slots mine in_slot found at in
      rw same (less-counted s q h at e passes old new out own all)

  pub left-counted : IsReplyTo (request_of s e) e → CountsQueued (left_at e s) new
  left-counted posted = left-cases (request_of s e) refl posted

-- the replies to an older request are taken out
module _ (n r : ℕ) where
  off-by : (o : Owner) (q : SlotRequest) (e : EntryValue) → e.owner ≡ o → o ≡ Reply n r
      → eqb q.number r ≡ false → is_of (owner_of n q) e ≡ false
  off-by o q e is own other = not-of n r e (is ∙ own) q other

  filter-cons : (q : SlotRequest) (e : EntryValue) (es : List EntryValue) (b : Bool)
      → is_of (Reply n r) e ≡ b → eqb q.number r ≡ false
      → count_by (is_of (owner_of n q)) (filter (is_not_of (Reply n r)) es)
      ≡ count_by (is_of (owner_of n q)) es
      → count_by (is_of (owner_of n q)) (cond (not b) (e ∷ filter (is_not_of (Reply n r)) es)
      (filter (is_not_of (Reply n r)) es)) ≡ count_by (is_of (owner_of n q)) (e ∷ es)
  filter-cons q e es true of other ih =
      omega (
        arith,
        ih,
        sum_by-cons (weight (owner_of n q)) e es,
        weight-other (owner_of n q) e (off-by e.owner q e refl (reply-is n r e.owner of) other),
      )
  filter-cons q e es false of other ih =
      omega (
        arith,
        ih,
        sum_by-cons (weight (owner_of n q)) e es,
        sum_by-cons (weight (owner_of n q)) e (filter (is_not_of (Reply n r)) es),
      )

  filter-count : (q : SlotRequest) (es : List EntryValue) → eqb q.number r ≡ false
      → count_by (is_of (owner_of n q)) (filter (is_not_of (Reply n r)) es)
      ≡ count_by (is_of (owner_of n q)) es
  filter-count q [] other = refl
  filter-count q (e ∷ es) other = filter-cons q e es (is_of (Reply n r) e) refl other (filter-count q es other)

  filter-counted : (es : List EntryValue) (qs : List SlotRequest)
      → AllByRecursion (λ q. eqb q.number r ≡ false) qs → AllByRecursion (IsCounted n es) qs
      → AllByRecursion (IsCounted n (filter (is_not_of (Reply n r)) es)) qs
  filter-counted es [] other all = tt
  filter-counted es (q ∷ qs) other all = (all.0 ∙ sym (filter-count q es other.0), filter-counted es qs other.1 all.1)

pub older-counted : (pool : Pool) (s : Session) (r : ℕ) (q : SlotRequest) → IsSession s
    → KeepsPool pool s.slots → newest r s ≡ Some q → (es : List EntryValue) → CountsQueued s es
    → CountsQueued (without_newest r s) (filter (is_not_of (owner_of s.number q)) es)
older-counted pool s r q h keeps found es all =
    let slot : q.number % 8 ≡ r % 8 = eqb-slot (find-passes (is_in_slot (r % 8)) s.slots q found) in
    let other = subst (λ i. AllByRecursion (λ x. eqb x.number q.number ≡ false)
    (without_first (is_in_slot i) s.slots)) slot (rest-apart pool s q.number h keeps) in
    filter-counted s.number q.number es (without_first (is_in_slot (r % 8)) s.slots) other
    (all-left (is_in_slot (r % 8)) (IsCounted s.number es) s.slots all)
  where
    eqb-slot : is_in_slot (r % 8) q ≡ true → q.number % 8 ≡ r % 8
    eqb-slot t = eqb-true (q.number % 8) (r % 8) t

pub none-older : (s : Session) (r : ℕ) → newest r s ≡ None → (es : List EntryValue)
    → CountsQueued s es → CountsQueued (without_newest r s) es
none-older s r none es all = rw (without-none (is_in_slot (r % 8)) s.slots none) all

-- and a newer one begins
module _ (pool : Pool) (s : Session) (r : ℕ) (h : IsSession s) (keeps : KeepsPool pool s.slots)
    (d : SlotRequest) (number : d.number ≡ r) (after : Pool) (es : List EntryValue)
    (holds : HoldsAll (without_newest r s) after es)
    (all : CountsQueued (without_newest r s) es) where
  abbrev others : List SlotRequest
  others = without_first (is_in_slot (r % 8)) s.slots

  begun-is : begun d s.slots ≡ others ++ d ∷ []
  begun-is = ap (λ m. without_first (is_in_slot (m % 8)) s.slots ++ d ∷ []) number

  no-reply : count_by (is_of (owner_of s.number d)) es ≡ 0
  no-reply =
      ap (λ m. count_by (is_of (Reply s.number m)) es) number
      ∙ all-fail (is_of (Reply s.number r)) es
      (fresh s.number r others (rest-apart pool s r h keeps) es holds.own)

  pub given-counted : d.queued ≡ 0 → CountsQueued (with_slots (begun d s.slots) s) es
  given-counted none = rw begun-is (all-push (IsCounted s.number es) others d all (none ∙ sym no-reply))

  pub first-counted : (e : EntryValue) → d.queued ≡ 1 → e.owner ≡ Reply s.number r
      → CountsQueued (with_slots (begun d s.slots) s) (es ++ e ∷ [])
  first-counted e one own =
      let mine = weight-own (owner_of s.number d) e (one-of s.number r e own d number) in
      rw begun-is (all-push (IsCounted s.number (es ++ e ∷ [])) others d
      (behind-counted s.number r e own es others (rest-apart pool s r h keeps) all)
      (omega (arith, one, no-reply, mine, count-behind (owner_of s.number d) es e)))

-- where each request counts its own, so does the newest one of a slot
newest-cases : (s : Session) (es : List EntryValue) (r : ℕ) (o : Option SlotRequest)
    → newest r s ≡ o → CountsQueued s es → IfSome o (IsCounted s.number es)
newest-cases s es r None found all = tt
newest-cases s es r (Some q) found all = found-holds (is_in_slot (r % 8)) (IsCounted s.number es) s.slots q all found

pub newest-counted : (s : Session) (es : List EntryValue) (r : ℕ) → CountsQueued s es
    → IfSome (newest r s) (IsCounted s.number es)
newest-counted s es r all = newest-cases s es r (newest r s) refl all
