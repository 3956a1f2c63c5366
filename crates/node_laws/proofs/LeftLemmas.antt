-- What may still come of a request, by the newest request of its slot.
use Rattle.std.proofs.Common.{◌≡◌, ℕ, ◌+◌, ◌%◌, ◌≤◌, ◌<◌, Bool, true, false, ◌&&◌, cond, ltb}
use Rattle.std.proofs.Common.{Option, Some, None, List, [], ◌∷◌, ◌++◌, refl, ap, subst, ◌∙◌, arith}
use Rattle.std.specs.Prelude.{◌==◌, is_none}
use Rattle.std.specs.List.{find, list_any}
use Rattle.std.proofs.lemmas.Bool.{eqb-true, eq-eqb}
use Rattle.std.proofs.lemmas.Bool.Decides.{nat_tests}
use Rattle.packet_header.specs.Parts.{packet_count}
use Rattle.packet_header.specs.declared.packet.MessageHeader.{MessageHeader}
use Rattle.rpc_base.specs.Tables.{at_first, without_first}
use Rattle.rpc_laws.specs.declared.tables.Served.{Served}
use Rattle.rpc_laws.specs.declared.tables.Server.{Server}
use Rattle.rpc_laws.specs.Requests.{is_request, in_slot_of, first_packet, next_packet, took_packet, given, answered}
use Rattle.node_laws.proofs.Allowed.{Newer}
use Rattle.rpc_base.proofs.FindLemmas.{changed-le, push-found, push-other, skip-found, count-out, none-found}
use Rattle.node_laws.proofs.ServerLemmas.{in_place, request-slot}
use Rattle.rpc_base.proofs.FirstLemmas.{found-holds, found-own, found-changed}
use Rattle.node_laws.specs.Valid.{is_due, RunWhole, SoundServer, left_of, left_in}
use Rattle.rpc_base.proofs.TakingLemmas.{find-passes}

-- a test of a request that no fact makes true
pub record Falls (test : Served → Bool) : Type 0 where
  pub next : (body : List ℕ) (q : Served) → test (next_packet body q) ≡ test q
  pub given : (q : Served) → test (given q) ≡ true → test q ≡ true
  pub answered : (bytes : List ℕ) (q : Served) → test (answered bytes q) ≡ true → test q ≡ true

pub given-due : (q : Served) → is_due (given q) ≡ false
given-due q = none-both (is_none q.answer)
  where
    none-both : (b : Bool) → (b && false) ≡ false
    none-both true = refl
    none-both false = refl

pub answered-due : (bytes : List ℕ) (q : Served) → is_due (answered bytes q) ≡ false
answered-due bytes q = refl

pub falls-due : Falls is_due
falls-due = record {
  next = λ body q. refl;
  given = λ q t. let none = given-due q in cc;
  answered = λ bytes q t. cc;
}

pub falls-always : (b : Bool) → Falls (λ q. b)
falls-always b = record { next = λ body q. refl; given = λ q t. t; answered = λ bytes q t. t }

-- the request that stands in its slot is the one that is found
pub own-slot : (r : ℕ) (v : Server) (q : Served) → SoundServer v
    → find (is_request r) v.slots ≡ Some q → find (in_slot_of r) v.slots ≡ Some q
own-slot r v q s e =
    found-own (is_request r) (in_slot_of r) v.slots q (s.apart (r % 8)) e
    (request-slot r q (find-passes (is_request r) v.slots q e))

-- two numbers of one slot
pub same-slot : (i j : ℕ) → i % 8 ≡ j % 8 → (qs : List Served) → find (in_slot_of i) qs ≡ find (in_slot_of j) qs
same-slot i j e qs = ap (λ (m : ℕ). find (λ (q : Served). q.number % 8 == m) qs) e

-- where nothing is left, a request that stands in its slot was run or given
over-by : (r n : ℕ) (b : Bool) → n ≡ r → cond (ltb r n) 0 (cond (ltb n r) 1 (cond b 1 0)) ≤ 0 → b ≡ false
over-by r n true e h = grind (arith, nat_tests)
over-by r n false e h = refl

pub none-left : (r : ℕ) (v : Server) (q : Served) → SoundServer v
    → find (is_request r) v.slots ≡ Some q → left_in is_due r v.slots ≤ 0
    → packet_count q.size ≤ q.taken
none-left r v q s e none =
    let own = find-passes (is_request r) v.slots q e in
    let found = own-slot r v q s e in
    let nothing : left_of is_due r (Some q) ≤ 0 = rw found at none in
    found-holds (is_request r) RunWhole v.slots q s.whole e
    (over-by r q.number (is_due q) (eqb-true q.number r own) nothing)

-- two bounds of what is left
at-most : (a b c : Bool) → cond a 0 (cond b 1 (cond c 1 0)) ≤ 1
at-most true b c = omega arith
at-most false true c = omega arith
at-most false false true = omega arith
at-most false false false = omega arith

newer-by : (r n m : ℕ) (b c : Bool) → m < n
    → cond (ltb r n) 0 (cond (ltb n r) 1 (cond b 1 0)) ≤ cond (ltb r m) 0
    (cond (ltb m r) 1 (cond c 1 0))
newer-by r n m true c h = grind (arith, nat_tests)
newer-by r n m false c h = grind (arith, nat_tests)

no-more-by : (a b c d : Bool) → (c ≡ true → d ≡ true)
    → cond a 0 (cond b 1 (cond c 1 0)) ≤ cond a 0 (cond b 1 (cond d 1 0))
no-more-by true b c d h = omega arith
no-more-by false true c d h = omega arith
no-more-by false false true d h = rw (h refl) (omega arith)
no-more-by false false false d h = omega arith

module _ (test : Served → Bool)
    (next : (body : List ℕ) (q : Served) → test (next_packet body q) ≡ test q) where
  pub left-le : (r : ℕ) (o : Option Served) → left_of test r o ≤ 1
  left-le r None = omega arith
  left-le r (Some l) = at-most (ltb r l.number) (ltb l.number r) (test l)

  -- a newer request of its slot leaves no more
  newer-left : (r n : ℕ) (first : Served) (o : Option Served) → first.number ≡ n → Newer n o
      → left_of test r (Some first) ≤ left_of test r o
  newer-left r n first None e h = left-le r (Some first)
  newer-left r n first (Some l) e h = newer-by r first.number l.number (test first) (test l) (omega arith)

  first-left-by : (r n : ℕ) (h : MessageHeader) (body : List ℕ) (qs : List Served) (b : Bool)
      → (n % 8 == r % 8) ≡ b → in_place (n % 8) qs ≤ 1 → Newer n (find (in_slot_of n) qs)
      → left_in test r (without_first (in_slot_of n) qs ++ first_packet n h body ∷ []) ≤ left_in
      test r qs
  first-left-by r n h body qs true t few newer =
      let same : n % 8 ≡ r % 8 = eqb-true (n % 8) (r % 8) t in
      let none : find (in_slot_of n) (without_first (in_slot_of n) qs) ≡ None =
      none-found (in_slot_of n) (without_first (in_slot_of n) qs)
      (count-out (in_slot_of n) qs few) in
      let first : find (in_slot_of n) (without_first (in_slot_of n) qs ++ first_packet n h body
      ∷ []) ≡ Some (first_packet n h body) = push-found (in_slot_of n)
      (without_first (in_slot_of n) qs)
      (first_packet n h body) none (eq-eqb (n % 8) (n % 8) refl) in
      let less : left_of test r (find (λ q. q.number % 8 == n % 8)
      (without_first (in_slot_of n) qs ++ first_packet n h body ∷ [])) ≤ left_of test r
      (find (λ q. q.number % 8 == n % 8) qs) =
      rw first (newer-left r n (first_packet n h body)
      (find (in_slot_of n) qs) refl newer) in
      subst (λ (k : ℕ). left_of test r (find (λ q. q.number % 8 == k)
      (without_first (in_slot_of n) qs ++ first_packet n h body ∷ [])) ≤ left_of test r
      (find (λ q. q.number % 8 == k) qs)) same less
  first-left-by r n h body qs false t few newer =
      let other = push-other (in_slot_of r) (without_first (in_slot_of n) qs) (first_packet n h body) t in
      let kept = skip-found (in_slot_of n) (in_slot_of r) qs (λ q k. passes-other q.number k) in
      rw (other, kept) (omega arith)
    where
      passes-other : (i : ℕ) → (i % 8 == n % 8) ≡ true → (i % 8 == r % 8) ≡ false
      passes-other i k = let own : i % 8 ≡ n % 8 = eqb-true (i % 8) (n % 8) k in rw own t

  next-left : (r : ℕ) (body : List ℕ) (q : Served)
      → left_of test r (Some (next_packet body q)) ≤ left_of test r (Some q)
  next-left r body q = rw (next body q) (omega arith)

  took-left-by : (r n : ℕ) (h : MessageHeader) (body : List ℕ) (qs : List Served) (b : Bool)
      → list_any (is_request n) qs ≡ b → ((slot : ℕ) → in_place slot qs ≤ 1)
      → (b ≡ false → Newer n (find (in_slot_of n) qs))
      → left_in test r (cond b (at_first (is_request n) (next_packet body) qs)
      (without_first (in_slot_of n) qs ++ first_packet n h body ∷ [])) ≤ left_in test r qs
  took-left-by r n h body qs true t few newer =
      changed-le (left_of test r) (is_request n) (next_packet body) (in_slot_of r)
      (λ q. refl) qs (λ q _. next-left r body q)
  took-left-by r n h body qs false t few newer =
      first-left-by r n h body qs (n % 8 == r % 8) refl (few (n % 8)) (newer refl)

  -- a packet that is taken leaves no more
  pub took-left : (r n : ℕ) (head : Option MessageHeader) (body : List ℕ) (v : Server)
      → SoundServer v → (list_any (is_request n) v.slots ≡ false
      → Newer n (find (in_slot_of n) v.slots))
      → left_in test r (took_packet n head body v.slots) ≤ left_in test r v.slots
  took-left r n None body v s newer = omega arith
  took-left r n (Some h) body v s newer =
      took-left-by r n h body v.slots (list_any (is_request n) v.slots) refl s.apart newer

  -- nor does a change that keeps numbers and doesn't make the test true
  module _ (f : Served → Served) (numbers : (q : Served) → (f q).number ≡ q.number)
      (fall : (q : Served) → test (f q) ≡ true → test q ≡ true) where
    changed-slot : (r : ℕ) (q : Served) → in_slot_of r (f q) ≡ in_slot_of r q
    changed-slot r q = ap (λ n. n % 8 == r % 8) (numbers q)

    left-by : (r : ℕ) (q : Served) → left_of test r (Some (f q)) ≤ left_of test r (Some q)
    left-by r q = at (f q).number (numbers q)
      where
        at : (n : ℕ) → n ≡ q.number
            → cond (ltb r n) 0 (cond (ltb n r) 1 (cond (test (f q)) 1 0)) ≤ left_of test r (Some q)
        at n e = rw e (no-more-by (ltb r q.number) (ltb q.number r) (test (f q)) (test q) (fall q))

    pub changed-left : (r n : ℕ) (qs : List Served)
        → left_in test r (at_first (is_request n) f qs) ≤ left_in test r qs
    changed-left r n qs =
        changed-le (left_of test r) (is_request n) f (in_slot_of r) (changed-slot r) qs (λ q _. left-by r q)

-- a request that is run or given isn't due any more
own-before : (r : ℕ) (q : Served) → q.number ≡ r → is_due q ≡ true → left_of is_due r (Some q) ≡ 1
own-before r q e due = rw due (grind (arith, nat_tests))

module _ (f : Served → Served) (numbers : (q : Served) → (f q).number ≡ q.number)
    (over : (q : Served) → is_due (f q) ≡ false) where
  own-after : (r : ℕ) (q : Served) → q.number ≡ r → left_of is_due r (Some (f q)) ≡ 0
  own-after r q e = rw (numbers q, over q) (grind (arith, nat_tests))

  pub own-left : (r : ℕ) (v : Server) (q : Served) → SoundServer v
      → find (is_request r) v.slots ≡ Some q → is_due q ≡ true
      → 1 + left_in is_due r (at_first (is_request r) f v.slots) ≤ left_in is_due r v.slots
  own-left r v q s e due =
      let own = find-passes (is_request r) v.slots q e in
      let same : q.number ≡ r = eqb-true q.number r own in
      let slot = request-slot r q own in
      let before = own-slot r v q s e in
      let after : find (in_slot_of r) (at_first (is_request r) f v.slots) ≡ Some (f q) =
      found-changed (is_request r) f (in_slot_of r) q v.slots
      (ap (λ n. n % 8 == r % 8) (numbers q) ∙ slot) e before in
      let one = own-before r q same due in
      let zero = own-after r q same in
      rw (before, after) (omega arith)
