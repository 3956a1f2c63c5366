-- What a call of a session makes of a list that holds each of its replies.
use Rattle.rpc_base.proofs.FirstLemmas.{all-left, all-push, found-holds}
use Rattle.server_core.specs.declared.slot.SlotState.TheVariants.{Working}
use Rattle.std.proofs.Common.{◌≡◌, ◌≢◌, ℕ, ◌+◌, ◌%◌, ◌<◌, ◌≤◌, Bool, true, false, ◌&&◌, cond, eqb}
use Rattle.std.proofs.Common.{Option, Some, None, List, [], ◌∷◌, ◌++◌, get_or, refl, sym, ap, subst}
use Rattle.std.proofs.Common.{◌∙◌, arith}
use Rattle.std.specs.Prelude.{IfSome, IsTrue, option_map}
use Rattle.std.specs.List.{AllByRecursion, find, list_any}
use Rattle.std.proofs.lemmas.Bool.{eq-eqb, eqb-false, le-ltb, lt-ltb, ne_eqb}
use Rattle.message_buffer.specs.Buffer.{Buffer}
use Rattle.buffer_pool.specs.Pool.{Pool, IsFull, emptied, filled, held, lowest_empty, refs_of, use_at}
use Rattle.buffer_pool.specs.Uses.{is_full, refs_in}
use Rattle.buffer_pool.specs.declared.usage.Use.TheVariants.{Empty, Full}
use Rattle.buffer_pool.proofs.PoolLemmas.{changed_own, held_refs}
use Rattle.packet_header.specs.Parts.{packet_count}
use Rattle.packet_rings.specs.Entries.{is_of}
use Rattle.packet_rings.specs.Values.{EntryValue}
use Rattle.rpc_base.specs.Owners.{same_owner}
use Rattle.rpc_base.specs.Tables.{at_first, without_first}
use Rattle.rpc_base.specs.declared.owner.Owner.{Owner}
use Rattle.rpc_base.specs.declared.owner.Owner.TheVariants.{Reply}
use Rattle.server_core.specs.Flushing.{HoldsAll, HoldsReplies, named_by}
use Rattle.server_core.specs.KeepsPool.{IsKept, KeepsPool, LeavesOthers}
use Rattle.server_core.specs.Replies.{IsReplyIn, held_at, is_owner, place_of}
use Rattle.server_core.specs.Serving.{gone_on, last_given, next_taken, with_slots, worked}
use Rattle.server_core.specs.Session.{IsSession, Session, answer_of, ask_of, is_at_work, is_in_slot, newest, owner_of}
use Rattle.server_core.specs.Steps.{IsReply}
use Rattle.server_core.specs.declared.slot.SlotRequest.{SlotRequest}
use Rattle.server_core.specs.declared.slot.Stored.{Stored}
use Rattle.server_core.proofs.ChangedLemmas.{self-first}
use Rattle.server_core.proofs.HoldLemmas.{AreOwn, any-put, each-as, named-behind, named-place}
use Rattle.server_core.proofs.HoldLemmas.{named-unplaced, own-as, posted-any, rest-as, rest-behind}
use Rattle.server_core.proofs.HoldLemmas.{rest-fails, unnamed-behind, uses-beside}
use Rattle.server_core.proofs.OtherLemmas.{held-others, last-given-others, last-others, next-others}
use Rattle.server_core.proofs.PlaceLemmas.{IsBeside, all-back, lowest-within, taken-out}
use Rattle.server_core.proofs.ReplyLemmas.{kept-answer, number-few}
use Rattle.server_core.proofs.SlotLemmas.{by-number}
use Rattle.rpc_base.proofs.ChangedLemmas.{same-first}

-- a session of this request alone
abbrev pub alone : SlotRequest → Session → Session
alone q s = with_slots (q ∷ []) s

pub alone-newest : (s : Session) (q : SlotRequest) → newest q.number (alone q s) ≡ Some q
alone-newest s q = rw (eq-eqb (q.number % 8) (q.number % 8) refl) refl

-- a request goes on
module _ (pool : Pool) (s : Session) (q : SlotRequest) (h : IsSession s)
    (found : newest q.number s ≡ Some q) (keeps : KeepsPool pool s.slots) where
  abbrev same_number : SlotRequest → Bool
  same_number x = eqb x.number q.number

  abbrev rest : List SlotRequest
  rest = without_first same_number s.slots

  own-first : find same_number s.slots ≡ Some q
  own-first = by-number s q.number q h found refl

  beside : IsBeside pool q rest
  beside = taken-out pool same_number s.slots q own-first keeps

  pub rest-other : AllByRecursion (λ x. eqb x.number q.number ≡ false) rest
  rest-other = rest-fails same_number same_number s.slots (number-few s q.number h)

  module _ (d : SlotRequest) (number : d.number ≡ q.number) (new : Pool) where
    gone-same : gone_on d s.slots ≡ at_first same_number (λ x. d) s.slots
    gone-same =
        ap (λ n. at_first (is_in_slot (n % 8)) (λ x. d) s.slots) number
        ∙ same-first (is_in_slot (q.number % 8)) same_number (λ x. d) q s.slots
        (eq-eqb (q.number % 8) (q.number % 8) refl)
        (eq-eqb q.number q.number refl) found own-first

    gone-owns : (o : Owner) → list_any (is_owner s.number o) s.slots ≡ true
        → list_any (is_owner s.number o) (gone_on d s.slots) ≡ true
    gone-owns o some =
        let same : is_owner s.number o d ≡ is_owner s.number o q = ap (λ m. same_owner (Reply s.number m) o) number in
        rw gone-same (any-put (is_owner s.number o) same_number q d s.slots same own-first ∙ some)

    pub put-together : (es : List EntryValue) → AreOwn s.number (gone_on d s.slots) es
        → AllByRecursion (HoldsReplies s.number new es) rest → HoldsReplies s.number new es d
        → HoldsAll (with_slots (gone_on d s.slots) s) new es
    put-together es own others mine = record {
      own = own;
      each = rw gone-same (all-back same_number q d (HoldsReplies s.number new es) s.slots mine own-first others);
    }

    module _ (t : List SlotRequest) (leaves : LeavesOthers (q ∷ []) t pool new)
        (es : List EntryValue) (holds : HoldsAll s pool es) where
      pub rest-new : AllByRecursion (HoldsReplies s.number new es) rest
      rest-new = rest-as s.number pool new es rest beside.others.kept
          (uses-beside pool new q t rest beside leaves)
          (all-left same_number (HoldsReplies s.number pool es) s.slots holds.each)

      pub gone-holds : HoldsReplies s.number new es d → HoldsAll (with_slots (gone_on d s.slots) s) new es
      gone-holds mine = put-together es (own-as s.number s.slots (gone_on d s.slots) gone-owns es
          holds.own) rest-new mine

      -- with a reply to it behind the entries
      pub gone-behind : (k : ℕ) (e : EntryValue)
          → IsReply q.number k (with_slots (gone_on d s.slots) s) new e
          → HoldsReplies s.number new (es ++ e ∷ []) d
          → HoldsAll (with_slots (gone_on d s.slots) s) new (es ++ e ∷ [])
      gone-behind k e reply mine =
          put-together (es ++ e ∷ []) (all-push _ es e
          (own-as s.number s.slots (gone_on d s.slots) gone-owns es holds.own)
          (λ of. posted-any (with_slots (gone_on d s.slots) s) e reply.stands))
          (rest-behind s.number q.number e reply.owner new es rest rest-other rest-new) mine

-- the answer is held for one reply more that has a part of it
module _ (n : ℕ) (pool : Pool) (q d : SlotRequest) (number : d.number ≡ q.number)
    (es : List EntryValue) (e : EntryValue) (own : e.owner ≡ Reply n q.number) where
  abbrev all_at : Pool → Option Stored → Type 0
  all_at new o = IfSome o (λ a. refs_of new a.place ≡ named_by (owner_of n d) a.place (es ++ e ∷ []))

  held-cases : (o : Option Stored) (b : Bool) → answer_of q.state ≡ o → IsKept pool q
      → e.place ≡ cond b None (option_map (λ a. a.place) o)
      → IfSome o (λ a. refs_of pool a.place ≡ named_by (owner_of n d) a.place es)
      → all_at (held_at (cond b None (option_map (λ a. a.place) o)) pool) o
  held-cases None b is kept place all = tt
  held-cases (Some a) true is kept place all =
      omega (
        arith,
        all,
        named-behind n q.number e own (owner_of n d) a.place es,
        unnamed-behind n q.number e own (owner_of n d) a.place place,
      )
  held-cases (Some a) false is kept place all =
      omega (
        arith,
        all,
        named-behind n q.number e own (owner_of n d) a.place es,
        named-place n q.number e own d a.place number place,
        (held_refs pool a.place (kept-answer pool q a kept is).full).1,
      )

  pub held-holds : (k : ℕ) → e.place ≡ place_of q k → answer_of d.state ≡ (answer_of q.state)
      → IsKept pool q → ((x : EntryValue) → IsReplyIn q x → IsReplyIn d x) → IsReplyIn d e
      → HoldsReplies n pool es q → HoldsReplies n (held_at (place_of q k) pool) (es ++ e ∷ []) d
  held-holds k place answer kept more mine holds = record {
    each = all-push _ es e (each-as n q d number more es holds.each) (λ of. mine);
    all = rw answer (held-cases (answer_of q.state) _ refl kept place
        (subst (λ m. IfSome (answer_of q.state)
        (λ a. refs_of pool a.place ≡ named_by (Reply n m) a.place es)) (sym number) holds.all));
  }

-- an answer that was put into the pool is held for one reply
pub put-refs : (pool : Pool) (j : ℕ) (b : Buffer) (a : Stored) → lowest_empty pool ≡ Some j
    → a.place ≡ j → refs_of (held a.place (filled j b pool)) a.place ≡ 1
put-refs pool j b a lowest place =
    let own : use_at (filled j b pool) j ≡ Full 0 =
    changed_own pool.uses j (Full 0) Empty (lowest-within pool j lowest) in
    let full : IsFull (filled j b pool) a.place = rw place (ap is_full own) in
    let none : refs_of (filled j b pool) a.place ≡ 0 = rw place (ap refs_in own) in
    omega (arith, none, (held_refs (filled j b pool) a.place full).1)

-- no reply to a request without an answer has a place
none-placed : (b : Bool) (o : Option Stored) → o ≡ None → cond b None (option_map (λ a. a.place) o) ≡ None
none-placed true o is = refl
none-placed false o is = rw is refl

each-unplaced : (n : ℕ) (q : SlotRequest) → answer_of q.state ≡ None → (es : List EntryValue)
    → AllByRecursion (λ e. IsTrue (is_of (owner_of n q) e) → IsReplyIn q e) es
    → AllByRecursion (λ e. is_of (owner_of n q) e ≡ true → e.place ≡ None) es
each-unplaced n q none [] all = tt
each-unplaced n q none (e ∷ es) all = (
  (λ of. (all.0 of).place_is ∙ none-placed _ (answer_of q.state) none),
  each-unplaced n q none es all.1,
)

-- the answer of a request comes to be
module _ (n : ℕ) (pool new : Pool) (q d : SlotRequest) (number : d.number ≡ q.number)
    (none : answer_of q.state ≡ None) (more : (x : EntryValue) → IsReplyIn q x → IsReplyIn d x)
    (es : List EntryValue) (holds : HoldsReplies n pool es q) where
  named-before : (p : ℕ) → named_by (owner_of n d) p es ≡ 0
  named-before p = ap (λ m. named_by (Reply n m) p es) number
      ∙ named-unplaced (owner_of n q) p es (each-unplaced n q none es holds.each)

  pub answered-holds : (a : Stored) (e : EntryValue) → answer_of d.state ≡ Some a
      → refs_of new a.place ≡ 1 → e.owner ≡ Reply n q.number → e.place ≡ Some a.place
      → IsReplyIn d e → HoldsReplies n new (es ++ e ∷ []) d
  answered-holds a e is one own place mine =
      let all : refs_of new a.place ≡ named_by (owner_of n d) a.place (es ++ e ∷ []) =
      omega (
        arith,
        one,
        named-before a.place,
        named-behind n q.number e own (owner_of n d) a.place es,
        named-place n q.number e own
            d a.place number place,
      ) in
      record { each = all-push _ es e (each-as n q d number more es holds.each) (λ of. mine); all = rw is all }

  -- and while it is none
  pub unanswered-holds : answer_of d.state ≡ None → HoldsReplies n new es d
  unanswered-holds is = record { each = each-as n q d number more es holds.each; all = rw is tt }

-- the replies to packets before the last one of a request have no place
early-placed : (q d : SlotRequest) (k : ℕ) → d.size ≡ q.size → k + 1 < packet_count q.size
    → place_of q k ≡ place_of d k
early-placed q d k size below = rw (size, lt-ltb (k + 1) (packet_count q.size) below) refl

working-cases : (k n : ℕ) (b w : Bool) → eqb k n ≡ b → w ≡ true → (b && w) ≡ false → k ≢ n
working-cases k n true w is on there = λ same. cc
working-cases k n false w is on there = eqb-false k n is

pub next-more : (q : SlotRequest) (x : EntryValue) → IsReplyIn q x → IsReplyIn (next_taken q) x
next-more q x reply = record { taken = omega (arith, reply.taken); there = reply.there; place_is = reply.place_is }

not-last : (k n : ℕ) (w : Bool) → k < n → (eqb k n && w) ≡ false
not-last k n w below = rw (ne_eqb k n (λ same. absurd (omega (arith, same, below)))) refl

pub given-more : (q : SlotRequest) (x : EntryValue) → q.taken + 1 ≡ packet_count q.size
    → IsReplyIn q x → IsReplyIn (last_given q) x
given-more q x last reply = record {
  taken = omega (arith, reply.taken);
  there = not-last (x.number + 1) (packet_count q.size) true (omega (arith, reply.taken, last));
  place_is = reply.place_is ∙ early-placed q (last_given q) x.number refl (omega (arith, reply.taken, last));
}

pub worked-more : (q : SlotRequest) (a : Stored) (x : EntryValue) → q.taken ≡ packet_count q.size
    → q.state ≡ Working → IsReplyIn q x → IsReplyIn (worked a q) x
worked-more q a x whole on reply =
    let before = working-cases (x.number + 1)
    (packet_count q.size) _ (is_at_work q.state) refl (ap is_at_work on) reply.there in
    let below : x.number + 1 < packet_count q.size = omega (arith, reply.taken, whole, before) in
    record {
      taken = reply.taken;
      there = not-last (x.number + 1) (packet_count q.size) false below;
      place_is = reply.place_is ∙ early-placed q (worked a q) x.number refl below;
    }

-- a request goes on, by each of its ways
module _ (pool : Pool) (s : Session) (q : SlotRequest) (h : IsSession s)
    (found : newest q.number s ≡ Some q) (keeps : KeepsPool pool s.slots) (es : List EntryValue)
    (holds : HoldsAll s pool es) where
  mine-before : HoldsReplies s.number pool es q
  mine-before = found-holds (is_in_slot (q.number % 8)) (HoldsReplies s.number pool es) s.slots q holds.each found

  mine-kept : IsKept pool q
  mine-kept = found-holds (is_in_slot (q.number % 8)) (IsKept pool) s.slots q keeps.kept found

  -- one packet more
  pub next-holds : (e : EntryValue)
      → IsReply q.number q.taken (with_slots (gone_on (next_taken q) s.slots) s)
      (held_at (place_of q q.taken) pool) e → e.place ≡ place_of q q.taken
      → IsReplyIn (next_taken q) e
      → HoldsAll (with_slots (gone_on (next_taken q) s.slots) s) (held_at (place_of q q.taken) pool)
      (es ++ e ∷ [])
  next-holds e reply place mine =
      let d = next_taken q in
      let one = held-holds s.number pool q d refl es e reply.owner q.taken place refl mine-kept
      (next-more q) mine mine-before in
      gone-behind pool s q h found keeps d refl (held_at (place_of q q.taken) pool)
      (gone_on d (q ∷ [])) (next-others pool (alone q s) q q.number (alone-newest s q) refl
      q.taken) es holds q.taken e reply one

  -- a packet that was taken before
  pub again-holds : (k : ℕ) (e : EntryValue) → IsReply q.number k s (held_at (place_of q k) pool) e
      → e.place ≡ place_of q k → IsReplyIn q e
      → HoldsAll s (held_at (place_of q k) pool) (es ++ e ∷ [])
  again-holds k e reply place mine =
      let one = held-holds s.number pool q q refl es e reply.owner k place refl mine-kept (λ x r. r)
      mine mine-before in
      let same : gone_on q s.slots ≡ s.slots = self-first (is_in_slot (q.number % 8)) q s.slots found in
      subst (λ slots. IsReply q.number k (with_slots slots s) (held_at (place_of q k) pool) e
      → HoldsAll (with_slots slots s) (held_at (place_of q k) pool) (es ++ e ∷ [])) same
      (λ r. gone-behind pool s q h found keeps q refl (held_at (place_of q k) pool) (q ∷ [])
      (held-others pool (alone q s) q q.number (alone-newest s q) k) es holds k e r one) reply

  -- its answer comes to be
  pub answer-holds : (d : SlotRequest) (j : ℕ) (b : Buffer) (a : Stored) (k : ℕ) (e : EntryValue)
      → d.number ≡ q.number → ask_of d.state ≡ (ask_of q.state) → answer_of q.state ≡ None
      → answer_of d.state ≡ Some a → lowest_empty pool ≡ Some j → a.place ≡ j
      → ((x : EntryValue) → IsReplyIn q x → IsReplyIn d x)
      → IsReply q.number k (with_slots (gone_on d s.slots) s) (held a.place (filled j b pool)) e
      → e.place ≡ Some a.place → IsReplyIn d e
      → HoldsAll (with_slots (gone_on d s.slots) s) (held a.place (filled j b pool)) (es ++ e ∷ [])
  answer-holds d j b a k e number asked none is lowest at more reply place mine =
      let new = held a.place (filled j b pool) in
      let one = answered-holds s.number pool new q d number none more es mine-before a e is
      (put-refs pool j b a lowest at) reply.owner place mine in
      gone-behind pool s q h found keeps d number new (gone_on d (q ∷ []))
      (last-others pool (alone q s) q q.number (alone-newest s q) d refl number asked j b a is
      lowest at) es holds k e reply one

  -- it goes to a worker
  pub given-holds : (p : ℕ) → ask_of q.state ≡ Some p → answer_of q.state ≡ None
      → q.taken + 1 ≡ packet_count q.size
      → HoldsAll (with_slots (gone_on (last_given q) s.slots) s) (emptied p pool) es
  given-holds p asked none last =
      let d = last_given q in
      let one = unanswered-holds s.number pool (emptied p pool) q d refl none
      (λ x r. given-more q x last r) es mine-before refl in
      gone-holds pool s q h found keeps d refl (emptied p pool) (gone_on d (q ∷ []))
      (last-given-others pool (alone q s) q q.number (alone-newest s q) refl none p asked) es
      holds one

-- the pool changed where no use did
pub uses-hold : (pool new : Pool) (s : Session) → KeepsPool pool s.slots → new.uses ≡ pool.uses
    → (es : List EntryValue) → HoldsAll s pool es → HoldsAll s new es
uses-hold pool new s keeps same es holds = record {
  own = holds.own;
  each = rest-as s.number pool new es s.slots keeps.kept
      (λ p some used. ap (λ us. get_or us p Empty) same) holds.each;
}

-- the reply to the last packet of a request, or to a later one, has the answer's place
pub late-placed : (d : SlotRequest) (a : Stored) (k : ℕ) → answer_of d.state ≡ Some a
    → packet_count d.size ≤ k + 1 → place_of d k ≡ Some a.place
late-placed d a k is above = rw (is, le-ltb (k + 1) (packet_count d.size) above) refl

-- and that to an earlier one has no place
pub early-unplaced : (d : SlotRequest) (k : ℕ) → k + 1 < packet_count d.size → place_of d k ≡ None
early-unplaced d k below = rw (lt-ltb (k + 1) (packet_count d.size) below) refl
