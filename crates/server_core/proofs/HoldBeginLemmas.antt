-- What the begin of a request, and the sending of a reply, make of a list that holds each reply of a session.
use Rattle.rpc_base.proofs.FirstLemmas.{all-left, all-push, found-holds, found-own}
use Rattle.std.proofs.Common.{◌≡◌, ℕ, ◌%◌, Bool, true, false, ◌||◌, cond, eqb, Option, Some, None}
use Rattle.std.proofs.Common.{List, [], ◌∷◌, ◌++◌, refl, sym, ap, subst, ◌∙◌, arith}
use Rattle.std.specs.Prelude.{IsTrue}
use Rattle.std.specs.List.{AllByRecursion, find, list_any}
use Rattle.std.proofs.lemmas.Bool.{and_parts, eq-eqb, eqb-true, ne_eqb}
use Rattle.message_buffer.specs.Buffer.{Buffer}
use Rattle.buffer_pool.specs.Pool.{Pool, filled, lowest_empty, refs_of}
use Rattle.packet_header.specs.declared.packet.MessageHeader.{MessageHeader}
use Rattle.packet_rings.specs.Entries.{is_of}
use Rattle.packet_rings.specs.Values.{EntryValue}
use Rattle.rpc_base.specs.Owners.{same_owner}
use Rattle.rpc_base.specs.Taking.{TakenOut}
use Rattle.rpc_base.specs.Tables.{without_first}
use Rattle.rpc_base.specs.declared.owner.Owner.{Owner}
use Rattle.rpc_base.specs.declared.owner.Owner.TheVariants.{Ask, Control, Reply}
use Rattle.server_core.specs.Flushing.{HoldsAll, HoldsReplies, is_reply_of, named_by, without_newest}
use Rattle.server_core.specs.KeepsPool.{IsKept, KeepsPool, LeavesOthers}
use Rattle.server_core.specs.Replies.{IsReplyIn, IsReplyTo, is_owner, released_at, request_of}
use Rattle.server_core.specs.Serving.{begun, first_given, first_taken, given_up, gone_on, with_slots}
use Rattle.server_core.specs.Session.{IsSession, Session, answer_of, is_in_slot, newest, owner_of}
use Rattle.server_core.specs.Steps.{IsReply}
use Rattle.server_core.specs.declared.slot.SlotRequest.{SlotRequest}
use Rattle.server_core.specs.declared.slot.Stored.{Stored}
use Rattle.server_core.proofs.ChangedLemmas.{self-first}
use Rattle.server_core.proofs.FlushLemmas.{all-taken, flush-holds, flush-others}
use Rattle.server_core.proofs.HoldLemmas.{AreOwn, KeepsUses, and-none, and-one, any-behind}
use Rattle.server_core.proofs.HoldLemmas.{any-left, named-behind, named-place, named-unplaced, none-pass}
use Rattle.server_core.proofs.HoldLemmas.{own-as, posted-any}
use Rattle.server_core.proofs.HoldLemmas.{rest-as, rest-behind, rest-left, uses-beside}
use Rattle.server_core.proofs.HoldStepLemmas.{alone-newest, put-together, rest-new, rest-other}
use Rattle.server_core.proofs.OtherLemmas.{first-others, given-others}
use Rattle.server_core.proofs.PlaceLemmas.{taken-out}
use Rattle.server_core.proofs.ReplyLemmas.{number-slot}
use Rattle.server_core.proofs.SlotLemmas.{none-left}
use Rattle.rpc_base.proofs.TakingLemmas.{find-passes}

-- a list of one, or none
abbrev pub listed : Option SlotRequest → List SlotRequest
listed None = []
listed (Some q) = q ∷ []

-- a session of the newest request of a slot alone
abbrev pub only : ℕ → Session → Session
only r s = with_slots (listed (newest r s)) s

only-cases : (i : ℕ) (s : Session) (o : Option SlotRequest) → find (is_in_slot i) s.slots ≡ o
    → find (is_in_slot i) (listed o) ≡ o
only-cases i s None found = refl
only-cases i s (Some q) found = rw (find-passes (is_in_slot i) s.slots q found) refl

pub only-newest : (r : ℕ) (s : Session) → newest r (only r s) ≡ newest r s
only-newest r s = only-cases (r % 8) s (newest r s) refl

-- no entry is a reply to a request of a number that none of these has
none-any : (t : SlotRequest → Bool) (xs : List SlotRequest) → AllByRecursion (λ x. t x ≡ false) xs
    → list_any t xs ≡ false
none-any t [] all = refl
none-any t (x ∷ xs) all = rw all.0 (none-any t xs all.1)

other-owner : (n m r : ℕ) (t : ℕ) (xs : List SlotRequest) → m ≡ r
    → AllByRecursion (λ x. eqb x.number r ≡ false) xs
    → AllByRecursion (λ x. is_owner n (Reply t m) x ≡ false) xs
other-owner n m r t [] same all = tt
other-owner n m r t (x ∷ xs) same all =
    (and-none (eqb n t) (eqb x.number m) (rw same all.0), other-owner n m r t xs same all.1)

-- whose entry it is
pub reply-is : (n r : ℕ) (o : Owner) → same_owner o (Reply n r) ≡ true → o ≡ Reply n r
reply-is n r (Reply t m) of =
    let parts = and_parts (eqb t n) (eqb m r) of in
    ap (λ k. Reply k m) (eqb-true t n parts.0) ∙ ap (λ k. Reply n k) (eqb-true m r parts.1)
reply-is n r (Ask t m) of = cc
reply-is n r Control of = cc

module _ (n r : ℕ) (rest : List SlotRequest) (other : AllByRecursion (λ x. eqb x.number r ≡ false) rest) where
  fresh-by : (o : Owner) → (is_reply_of n o ≡ true → list_any (is_owner n o) rest ≡ true)
      → (b : Bool) → same_owner o (Reply n r) ≡ b → b ≡ false
  fresh-by o own false of = refl
  fresh-by o own true of =
      let is = reply-is n r o of in
      let some : list_any (is_owner n (Reply n r)) rest ≡ true = rw is at (own (rw is (eq-eqb n n refl))) in
      let no = none-any (is_owner n (Reply n r)) rest (other-owner n r r n rest refl other) in
      cc

  pub fresh : (es : List EntryValue) → AreOwn n rest es → AllByRecursion (λ e. is_of (Reply n r) e ≡ false) es
  fresh [] all = tt
  fresh (e ∷ es) all = (fresh-by e.owner all.0 (is_of (Reply n r) e) refl, fresh es all.1)

  fresh-each : (P : EntryValue → Type 0) (es : List EntryValue)
      → AllByRecursion (λ e. is_of (Reply n r) e ≡ false) es
      → AllByRecursion (λ e. is_of (Reply n r) e ≡ true → P e) es
  fresh-each P [] all = tt
  fresh-each P (e ∷ es) all = ((λ of. let off = all.0 in cc), fresh-each P es all.1)

-- a request begins
module _ (pool : Pool) (s : Session) (r : ℕ) (h : IsSession s) (keeps : KeepsPool pool s.slots) where
  abbrev rest : List SlotRequest
  rest = without_first (is_in_slot (r % 8)) s.slots

  rest-cases : (xs : List SlotRequest) → AllByRecursion (λ x. is_in_slot (r % 8) x ≡ false) xs
      → AllByRecursion (λ x. eqb x.number r ≡ false) xs
  rest-cases [] all = tt
  rest-cases (x ∷ xs) all = (ne_eqb x.number r (λ same. let is = number-slot r x (eq-eqb x.number r same) in let no = all.0 in cc), rest-cases xs all.1)

  pub rest-apart : AllByRecursion (λ x. eqb x.number r ≡ false) rest
  rest-apart = rest-cases rest (none-pass (is_in_slot (r % 8)) (is_in_slot (r % 8)) rest (none-left s h (r % 8)))

  uses-cases : (new : Pool) (t : List SlotRequest) (o : Option SlotRequest) → newest r s ≡ o
      → LeavesOthers (listed o) t pool new → KeepsUses rest pool new
  uses-cases new t None found leaves = λ p some used. (leaves p refl used).1
  uses-cases new t (Some q) found leaves =
      uses-beside pool new q t rest (taken-out pool (is_in_slot (r % 8)) s.slots q found keeps)
      leaves

  module _ (d : SlotRequest) (number : d.number ≡ r) (new : Pool) (t : List SlotRequest)
      (leaves : LeavesOthers (listed (newest r s)) t pool new) (es : List EntryValue)
      (holds : HoldsAll (without_newest r s) pool es) where
    begun-is : begun d s.slots ≡ rest ++ d ∷ []
    begun-is = ap (λ m. without_first (is_in_slot (m % 8)) s.slots ++ d ∷ []) number

    behind-new : AllByRecursion (HoldsReplies s.number new es) rest
    behind-new = rest-as s.number pool new es rest
        (all-left (is_in_slot (r % 8)) (IsKept pool) s.slots keeps.kept)
        (uses-cases new t (newest r s) refl leaves) holds.each

    own-new : AreOwn s.number (begun d s.slots) es
    own-new = rw begun-is (own-as s.number rest (rest ++ d ∷ [])
        (λ o. any-behind (is_owner s.number o) (is_owner s.number o) rest d) es holds.own)

    none-yet : AllByRecursion (λ e. is_of (Reply s.number r) e ≡ false) es
    none-yet = fresh s.number r rest rest-apart es holds.own

    mine-each : AllByRecursion (λ e. IsTrue (is_of (owner_of s.number d) e) → IsReplyIn d e) es
    mine-each = subst (λ m. AllByRecursion (λ e. IsTrue (is_of (Reply s.number m) e)
        → IsReplyIn d e) es) (sym number) (fresh-each s.number r rest rest-apart (IsReplyIn d) es
        none-yet)

    mine-named : (p : ℕ) → named_by (owner_of s.number d) p es ≡ 0
    mine-named p = ap (λ m. named_by (Reply s.number m) p es) number
        ∙ named-unplaced (Reply s.number r) p es
        (fresh-each s.number r rest rest-apart (λ e. e.place ≡ None) es none-yet)

    -- without a reply
    pub begun-holds : answer_of d.state ≡ None → HoldsAll (with_slots (begun d s.slots) s) new es
    begun-holds none = record {
      own = own-new;
      each = rw begun-is (all-push (HoldsReplies s.number new es) rest d behind-new
          (record { each = mine-each; all = rw none tt }));
    }

    -- with one behind the entries
    begun-behind : (k : ℕ) (e : EntryValue) → IsReply r k (with_slots (begun d s.slots) s) new e
        → HoldsReplies s.number new (es ++ e ∷ []) d
        → HoldsAll (with_slots (begun d s.slots) s) new (es ++ e ∷ [])
    begun-behind k e reply mine = record {
      own = all-push _ es e own-new (λ of. posted-any (with_slots (begun d s.slots) s) e reply.stands);
      each = rw begun-is (all-push (HoldsReplies s.number new (es ++ e ∷ [])) rest d
          (rest-behind s.number r e reply.owner new es rest rest-apart behind-new) mine);
    }

    pub first-holds : (k : ℕ) (e : EntryValue) → answer_of d.state ≡ None
        → IsReply r k (with_slots (begun d s.slots) s) new e → IsReplyIn d e
        → HoldsAll (with_slots (begun d s.slots) s) new (es ++ e ∷ [])
    first-holds k e none reply mine =
        begun-behind k e reply (record { each = all-push _ es e mine-each (λ of. mine); all = rw none tt })

    -- which has a part of the answer
    pub first-answered-holds : (k : ℕ) (e : EntryValue) (a : Stored) → answer_of d.state ≡ Some a
        → refs_of new a.place ≡ 1 → e.place ≡ Some a.place
        → IsReply r k (with_slots (begun d s.slots) s) new e → IsReplyIn d e
        → HoldsAll (with_slots (begun d s.slots) s) new (es ++ e ∷ [])
    first-answered-holds k e a is one place reply mine =
        let own = reply.owner in
        let all : refs_of new a.place ≡ named_by (owner_of s.number d) a.place (es ++ e ∷ []) =
        omega (
          arith,
          one,
          mine-named a.place,
          named-behind s.number r e own (owner_of s.number d) a.place es,
          named-place s.number r e own d a.place number place,
        ) in
        begun-behind k e reply
        (record { each = all-push _ es e mine-each (λ of. mine); all = rw is all })

-- each way of the begin leaves the places of all but the older request
pub given-leaves : (pool : Pool) (s : Session) (head : MessageHeader)
    → LeavesOthers (listed (newest head.request s))
    (begun (first_given head) (listed (newest head.request s))) pool
    (given_up (newest head.request s) pool)
given-leaves pool s head =
    subst (λ o. LeavesOthers (listed (newest head.request s))
    (begun (first_given head) (listed (newest head.request s))) pool (given_up o pool))
    (only-newest head.request s) (given-others pool (only head.request s) head)

pub first-leaves : (pool : Pool) (s : Session) (head : MessageHeader) (k : ℕ) (b : Buffer)
    → lowest_empty (given_up (newest head.request s) pool) ≡ Some k
    → LeavesOthers (listed (newest head.request s))
    (begun (first_taken head k) (listed (newest head.request s))) pool
    (filled k b (given_up (newest head.request s) pool))
first-leaves pool s head k b lowest =
    let same = only-newest head.request s in
    subst (λ o. lowest_empty (given_up o pool) ≡ Some k
    → LeavesOthers (listed (newest head.request s))
    (begun (first_taken head k) (listed (newest head.request s))) pool
    (filled k b (given_up o pool))) same (first-others pool (only head.request s) head k b)
    lowest

-- a reply is sent, or taken out unsent
pub owner-is : (n m : ℕ) (o : Owner) → same_owner (Reply n m) o ≡ true → o ≡ Reply n m
owner-is n m (Reply t k) of =
    let parts = and_parts (eqb n t) (eqb m k) of in
    ap (λ x. Reply x k) (sym (eqb-true n t parts.0)) ∙ ap (λ x. Reply n x) (sym (eqb-true m k parts.1))
owner-is n m (Ask t k) of = cc
owner-is n m Control of = cc

own-is-of : (n m : ℕ) (o : Owner) → o ≡ Reply n m → same_owner o (Reply n m) ≡ true
own-is-of n m o is = rw is (and-one (eqb n n) (eqb m m) (eq-eqb n n refl) (eq-eqb m m refl))

module _ (pool : Pool) (s : Session) (h : IsSession s) (keeps : KeepsPool pool s.slots)
    (passes : EntryValue → Bool) (e : EntryValue) (old new : List EntryValue)
    (out : TakenOut passes e old new) (holds : HoldsAll s pool old) where
  -- one to the newest request of the slot of r
  pub sent-of : (r : ℕ) (q : SlotRequest) → newest r s ≡ Some q → e.owner ≡ Reply s.number q.number
      → HoldsAll s (released_at e.place pool) new
  sent-of r q found own =
      let n = s.number in
      let after = released_at e.place pool in
      let slot : q.number % 8 ≡ r % 8 =
      eqb-true (q.number % 8) (r % 8) (find-passes (is_in_slot (r % 8)) s.slots q found) in
      let at : newest q.number s ≡ Some q = ap (λ i. find (is_in_slot i) s.slots) slot ∙ found in
      let mine : HoldsReplies n pool old q =
      found-holds (is_in_slot (r % 8))
      (HoldsReplies n pool old) s.slots q holds.each found in
      let kept : IsKept pool q = found-holds (is_in_slot (r % 8)) (IsKept pool) s.slots q keeps.kept found in
      let of : is_of (owner_of n q) e ≡ true = own-is-of n q.number e.owner own in
      let leaves = flush-others n q pool old new passes e mine out of kept
      (is_in_slot (q.number % 8)) (q ∷ []) (alone-newest s q) in
      let rest = rest-left n q.number e own after passes old new out _
      (rest-other pool s q h at keeps)
      (rest-new pool s q h at keeps q refl after (q ∷ []) leaves old holds) in
      let same : gone_on q s.slots ≡ s.slots = self-first (is_in_slot (q.number % 8)) q s.slots at in
      let left = (all-taken _ passes e old new out holds.own).1 in
      subst (λ slots. AreOwn n slots new → HoldsAll (with_slots slots s) after new) same
      (λ owned. put-together pool s q h at keeps q refl after new owned rest
      (flush-holds n q pool old new passes e mine out of kept)) left

  sent-cases : (o : Option SlotRequest) → request_of s e ≡ o → IsReplyTo o e
      → HoldsAll s (released_at e.place pool) new
  sent-cases None found posted = absurd posted
  sent-cases (Some q) found posted =
      let own : e.owner ≡ Reply s.number q.number =
      owner-is s.number q.number e.owner
      (find-passes (is_owner s.number e.owner) s.slots q found) in
      sent-of q.number q (found-own (is_owner s.number e.owner)
      (is_in_slot (q.number % 8)) s.slots q (h.apart (q.number % 8)) found
      (eq-eqb (q.number % 8) (q.number % 8) refl)) own

  pub sent-holds : IsReplyTo (request_of s e) e → HoldsAll s (released_at e.place pool) new
  sent-holds posted = sent-cases (request_of s e) refl posted

-- none of the replies to the older request of a slot is left
module _ (pool : Pool) (s : Session) (r : ℕ) (q : SlotRequest) (found : newest r s ≡ Some q) where
  own-left : (e : EntryValue) → is_of (owner_of s.number q) e ≡ false
      → (is_reply_of s.number e.owner ≡ true → list_any (is_owner s.number e.owner) s.slots ≡ true)
      → is_reply_of s.number e.owner ≡ true
      → list_any (is_owner s.number e.owner) (without_first (is_in_slot (r % 8)) s.slots) ≡ true
  own-left e off own of =
      any-left (is_owner s.number e.owner) (is_in_slot (r % 8)) q s.slots
      (not-owner (is_owner s.number e.owner q) refl) found (own of)
    where
      not-owner : (b : Bool) → is_owner s.number e.owner q ≡ b → b ≡ false
      not-owner false is = refl
      not-owner true is = let same = own-is-of s.number q.number e.owner (owner-is s.number q.number e.owner is) in cc

  all-own-left : (es : List EntryValue) → list_any (is_of (owner_of s.number q)) es ≡ false
      → AreOwn s.number s.slots es → AreOwn s.number (without_first (is_in_slot (r % 8)) s.slots) es
  all-own-left [] none all = tt
  all-own-left (e ∷ es) none all =
      let parts = neither (is_of (owner_of s.number q) e) (list_any (is_of (owner_of s.number q)) es) none in
      (own-left e parts.0 all.0, all-own-left es parts.1 all.1)
    where
      neither : (b c : Bool) → (b || c) ≡ false → (b ≡ false) × (c ≡ false)
      neither true c is = cc
      neither false c is = (refl, is)

  pub older-gone : (es : List EntryValue) → list_any (is_of (owner_of s.number q)) es ≡ false
      → HoldsAll s pool es → HoldsAll (without_newest r s) pool es
  older-gone es none holds = record {
    own = all-own-left es none holds.own;
    each = all-left (is_in_slot (r % 8)) (HoldsReplies s.number pool es) s.slots holds.each;
  }

-- and there was none where none began
missing-cons : (p : SlotRequest → Bool) (x : SlotRequest) (xs : List SlotRequest) (b : Bool)
    → (find p xs ≡ None → without_first p xs ≡ xs) → cond b (Some x) (find p xs) ≡ None
    → cond b xs (x ∷ without_first p xs) ≡ x ∷ xs
missing-cons p x xs true ih none = cc
missing-cons p x xs false ih none = ap (λ ys. x ∷ ys) (ih none)

missing : (p : SlotRequest → Bool) (xs : List SlotRequest) → find p xs ≡ None → without_first p xs ≡ xs
missing p [] none = refl
missing p (x ∷ xs) none = missing-cons p x xs (p x) (missing p xs) none

pub none-gone : (pool : Pool) (s : Session) (r : ℕ) → newest r s ≡ None → (es : List EntryValue)
    → HoldsAll s pool es → HoldsAll (without_newest r s) pool es
none-gone pool s r none es holds =
    subst (λ slots. HoldsAll (with_slots slots s) pool es)
    (sym (missing (is_in_slot (r % 8)) s.slots none)) holds
