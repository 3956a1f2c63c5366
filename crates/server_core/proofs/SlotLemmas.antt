-- That a slot has one newest request, so that there are at most eight.
use Rattle.std.proofs.Common.{◌≡◌, ℕ, ◌+◌, ◌%◌, ◌<◌, ◌≤◌, Bool, true, false, cond, eqb, Some, List}
use Rattle.std.proofs.Common.{[], ◌∷◌, length, refl, sym, ap, ◌∙◌, inl, inr, arith}
use Rattle.std.specs.Prelude.{count_by}
use Rattle.std.specs.List.{AllByRecursion, find}
use Rattle.std.proofs.lemmas.Bool.{cases_eq, eq-eqb, eqb-true, ne_eqb}
use Rattle.std.proofs.lemmas.Bool.Decides.{nat_tests}
use Rattle.std.proofs.lemmas.List.Sums.{sum_by-append}
use Rattle.rpc_base.specs.Tables.{without_first}
use Rattle.server_core.specs.declared.slot.SlotRequest.{SlotRequest}
use Rattle.server_core.specs.Serving.{begun, gone_on, with_slots}
use Rattle.server_core.specs.Session.{IsInTurn, IsSession, Session, is_in_slot, newest}
use Rattle.server_core.proofs.ChangedLemmas.{count-own-without, count-without-less}
use Rattle.server_core.proofs.PlaceLemmas.{all-back}
use Rattle.rpc_base.proofs.FirstLemmas.{all-push, counted-cons, found-own, count-fewer}
use Rattle.rpc_base.proofs.ChangedLemmas.{sum-changed}

-- each number below eight is one of eight
eight-of : (m : ℕ) → m < 8
    → cond {A = ℕ} (eqb m 0) 1 0 + cond {A = ℕ} (eqb m 1) 1 0 + cond {A = ℕ} (eqb m 2) 1 0
    + cond {A = ℕ} (eqb m 3) 1 0 + cond {A = ℕ} (eqb m 4) 1 0 + cond {A = ℕ} (eqb m 5) 1 0
    + cond {A = ℕ} (eqb m 6) 1 0 + cond {A = ℕ} (eqb m 7) 1 0 ≡ 1
eight-of m h = grind (arith, nat_tests)

-- the requests of all slots
all-slots : List SlotRequest → ℕ
all-slots qs = count_by (is_in_slot 0) qs + count_by (is_in_slot 1) qs + count_by (is_in_slot 2) qs
    + count_by (is_in_slot 3) qs + count_by (is_in_slot 4) qs + count_by (is_in_slot 5) qs
    + count_by (is_in_slot 6) qs + count_by (is_in_slot 7) qs

by-slots : (qs : List SlotRequest) → length qs ≡ all-slots qs
unfolding all-slots
by-slots [] = refl
by-slots (q ∷ qs) =
    omega (
      arith,
      by-slots qs,
      eight-of (q.number % 8) (omega arith),
      counted-cons (is_in_slot 0) q qs _ refl,
      counted-cons (is_in_slot 1) q qs _ refl,
      counted-cons (is_in_slot 2) q qs _ refl,
      counted-cons (is_in_slot 3) q qs _ refl,
      counted-cons (is_in_slot 4) q qs _ refl,
      counted-cons (is_in_slot 5) q qs _ refl,
      counted-cons (is_in_slot 6) q qs _ refl,
      counted-cons (is_in_slot 7) q qs _ refl,
    )

-- fewer than eight where one slot has none
seven : (c : ℕ → ℕ) → ((i : ℕ) → c i ≤ 1) → (s : ℕ) → s < 8 → c s ≡ 0
    → c 0 + c 1 + c 2 + c 3 + c 4 + c 5 + c 6 + c 7 < 8
seven c few s below none =
    let f0 = few 0 in let f1 = few 1 in let f2 = few 2 in let f3 = few 3 in let f4 = few 4 in let f5 = few 5 in let f6 = few 6 in let f7 = few 7 in
    elim (cases_eq s 0) [
      | inl e ↦ (let z : c 0 ≡ 0 = ap c (sym e) ∙ none in omega arith)
      | inr n0 ↦
          elim (cases_eq s 1) [
            | inl e ↦ (let z : c 1 ≡ 0 = ap c (sym e) ∙ none in omega arith)
            | inr n1 ↦
                elim (cases_eq s 2) [
                  | inl e ↦ (let z : c 2 ≡ 0 = ap c (sym e) ∙ none in omega arith)
                  | inr n2 ↦
                      elim (cases_eq s 3) [
                        | inl e ↦ (let z : c 3 ≡ 0 = ap c (sym e) ∙ none in omega arith)
                        | inr n3 ↦
                            elim (cases_eq s 4) [
                              | inl e ↦ (let z : c 4 ≡ 0 = ap c (sym e) ∙ none in omega arith)
                              | inr n4 ↦
                                  elim (cases_eq s 5) [
                                    | inl e ↦ (let z : c 5 ≡ 0 = ap c (sym e) ∙ none in omega arith)
                                    | inr n5 ↦
                                        elim (cases_eq s 6) [
                                          | inl e ↦ (let z : c 6 ≡ 0 = ap c (sym e) ∙ none in omega arith)
                                          | inr n6 ↦
                                              (let last : s ≡ 7 = omega arith in let z : c 7 ≡ 0 = ap c (sym last) ∙ none in omega arith)
                                        ]
                                  ]
                            ]
                      ]
                ]
          ]
    ]

-- the rest once a slot's request was taken out
module _ (s : Session) (h : IsSession s) (slot : ℕ) where
  pub none-left : count_by (is_in_slot slot) (without_first (is_in_slot slot) s.slots) ≡ 0
  none-left = count-own-without (is_in_slot slot) s.slots (h.apart slot)

  pub rest-apart : (i : ℕ) → count_by (is_in_slot i) (without_first (is_in_slot slot) s.slots) ≤ 1
  rest-apart i = omega (arith, count-without-less (is_in_slot slot) (is_in_slot i) s.slots, h.apart i)

  pub rest-turn : AllByRecursion IsInTurn (without_first (is_in_slot slot) s.slots)
  rest-turn = turns s.slots h.in_turn
    where
      turn-cons : (y : SlotRequest) (ys : List SlotRequest) (b : Bool) → IsInTurn y
          → AllByRecursion IsInTurn ys
          → AllByRecursion IsInTurn (without_first (is_in_slot slot) ys)
          → AllByRecursion IsInTurn (cond b ys (y ∷ without_first (is_in_slot slot) ys))
      turn-cons y ys true here all ih = all
      turn-cons y ys false here all ih = (here, ih)

      turns : (ys : List SlotRequest) → AllByRecursion IsInTurn ys
          → AllByRecursion IsInTurn (without_first (is_in_slot slot) ys)
      turns [] all = tt
      turns (y ∷ ys) all = turn-cons y ys (is_in_slot slot y) all.0 all.1 (turns ys all.1)

  pub few-left : slot < 8 → length (without_first (is_in_slot slot) s.slots) < 8
  unfolding all-slots
  few-left below =
      let sum = by-slots (without_first (is_in_slot slot) s.slots) in
      let few = seven (λ i. count_by (is_in_slot i) (without_first (is_in_slot slot) s.slots))
      rest-apart slot below none-left in
      omega (arith, sum, few)

-- a request begins
pub begun-session : (s : Session) (d : SlotRequest) → IsSession s → IsInTurn d
    → IsSession (with_slots (begun d s.slots) s)
begun-session s d h turn = record {
  number = h.number;
  client = h.client;
  life = h.life;
  few = h.few;
  apart = λ i.
      let sum = sum_by-append (λ x. cond (is_in_slot i x) 1 0)
      (without_first (is_in_slot (d.number % 8)) s.slots) (d ∷ []) in
      let own = counted-cons (is_in_slot i) d [] _ refl in
      elim (cases_eq (d.number % 8) i) [
        | inl here ↦ (let none : count_by (is_in_slot i) (without_first (is_in_slot (d.number % 8)) s.slots) ≡ 0 = ap (λ k. count_by (is_in_slot k) (without_first (is_in_slot (d.number % 8)) s.slots)) (sym here) ∙ none-left s h (d.number % 8) in omega (arith, sum, none, own, one-most (is_in_slot i d)))
        | inr away ↦ (let off : cond {A = ℕ} (is_in_slot i d) 1 0 ≡ 0 = ap (λ b. cond {A = ℕ} b 1 0) (ne_eqb (d.number % 8) i away) in omega (arith, sum, own, off, rest-apart s h (d.number % 8) i))
      ];
  in_turn = all-push IsInTurn (without_first (is_in_slot (d.number % 8)) s.slots) d
      (rest-turn s h (d.number % 8)) turn;
}
  where
    one-most : (t : Bool) → cond {A = ℕ} t 1 0 ≤ 1
    one-most true = omega arith
    one-most false = omega arith

-- a request goes on
pub gone-session : (s : Session) (q d : SlotRequest) → IsSession s → IsInTurn d
    → d.number ≡ q.number → newest d.number s ≡ Some q
    → IsSession (with_slots (gone_on d s.slots) s)
gone-session s q d h turn same found = record {
  number = h.number;
  client = h.client;
  life = h.life;
  few = h.few;
  apart = λ i.
      let sum = sum-changed (is_in_slot (d.number % 8)) q (λ x. cond (is_in_slot i x) 1 0) (λ x. d) s.slots found in
      let own : cond {A = ℕ} (is_in_slot i d) 1 0 ≡ cond {A = ℕ} (is_in_slot i q) 1 0 =
      ap (λ n. cond {A = ℕ} (eqb (n % 8) i) 1 0) same in
      omega (arith, sum, own, h.apart i);
  in_turn = all-back (is_in_slot (d.number % 8)) q d IsInTurn s.slots turn found (rest-turn s h (d.number % 8));
}

-- the newest request of a slot is found by its number too
pub by-number : (s : Session) (r : ℕ) (q : SlotRequest) → IsSession s → newest r s ≡ Some q
    → q.number ≡ r → find (λ x. eqb x.number r) s.slots ≡ Some q
by-number s r q h found same =
    let fewer = count-fewer (λ x. eqb x.number r) (is_in_slot (r % 8))
    (λ x passes. eq-eqb (x.number % 8) (r % 8)
    (ap (λ n. n % 8) (eqb-true x.number r passes))) s.slots in
    found-own (is_in_slot (r % 8)) (λ x. eqb x.number r) s.slots q
    (omega (arith, fewer, h.apart (r % 8))) found (eq-eqb q.number r same)

-- there are at most eight
pub most-slots : (s : Session) → IsSession s → length s.slots ≤ 8
unfolding all-slots
most-slots s h =
    omega (
      arith,
      by-slots s.slots,
      h.apart 0,
      h.apart 1,
      h.apart 2,
      h.apart 3,
      h.apart 4,
      h.apart 5,
      h.apart 6,
      h.apart 7,
    )
