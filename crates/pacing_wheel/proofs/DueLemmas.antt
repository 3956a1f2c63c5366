-- What is due first in a list by due times is its first entry.
use Rattle.std.proofs.Common.{◌≡◌, ◌≤◌, ◌<◌, ℕ, Bool, true, false, cond, leb, leb-true, leb-false, arith}
use Rattle.std.proofs.Common.{Option, Some, None, List, [], ◌∷◌, refl, sym, ap, subst, ◌∙◌, drop}
use Rattle.std.specs.Prelude.{IfNone, IfSome, option_map, slice_get}
use Rattle.std.specs.List.Sorted.{IsNonDecreasingBy}
use Rattle.rpc_base.specs.Least.{least, without_least}
use Rattle.rpc_base.proofs.LeastLemmas.{least-same}
use Rattle.packet_rings.specs.Entries.{option_is}
use Rattle.packet_rings.specs.Values.{EntryValue}
use Rattle.pacing_wheel.specs.declared.pacer.Paced.{Paced}
use Rattle.pacing_wheel.specs.Wheel.{Wheel, due_of, entry_of, is_due, wheel}
use Rattle.pacing_wheel.proofs.WheelLemmas.{due-least, late-least, not-due}

pub leb-intro : (n m : ℕ) → n ≤ m → leb n m ≡ true
leb-intro n m h = by (leb n m) refl
  where
    by : (b : Bool) → leb n m ≡ b → b ≡ true
    by true t = refl
    by false t = absurd (omega (arith, leb-false n m t, h))

pub leb-over : (n m : ℕ) → m < n → leb n m ≡ false
leb-over n m h = by (leb n m) refl
  where
    by : (b : Bool) → leb n m ≡ b → b ≡ false
    by true t = absurd (omega (arith, leb-true n m t, h))
    by false t = refl

-- one that may be there, where it is due
abbrev pub due_only : ℕ → Option Paced → Option Paced
due_only now None = None
due_only now (Some p) = cond (leb p.due now) (Some p) None

module _ (now : ℕ) where
  late : (p : Paced) (ps : List Paced) → IsNonDecreasingBy due_of (p ∷ ps) → leb p.due now ≡ false
      → least (is_due now) due_of (p ∷ ps) ≡ None
  late p ps sorted t = let l = leb-false p.due now t in
      (late-least now (p ∷ ps) (not-due now p ps sorted (omega (arith, l)))).0

  pub least-due : (items : List Paced) → IsNonDecreasingBy due_of items
      → least (is_due now) due_of items ≡ due_only now (slice_get items 0)
  least-due [] sorted = refl
  least-due (p ∷ ps) sorted = by (leb p.due now) refl
    where
      by : (b : Bool) → leb p.due now ≡ b → least (is_due now) due_of (p ∷ ps) ≡ due_only now (Some p)
      by true t = (due-least now p ps sorted (leb-true p.due now t)).0 ∙ rw t refl
      by false t = late p ps sorted t ∙ rw t refl

  pub none-first : (items : List Paced) → IsNonDecreasingBy due_of items → slice_get items 0 ≡ None
      → None ≡ least (is_due now) due_of items
  none-first items sorted is = sym (least-due items sorted ∙ ap (due_only now) is)

  pub late-first : (items : List Paced) → IsNonDecreasingBy due_of items → (p : Paced) → slice_get items 0 ≡ Some p
      → now < p.due → None ≡ least (is_due now) due_of items
  late-first items sorted p is h = sym (least-due items sorted ∙ (ap (due_only now) is ∙ rw (leb-over p.due now h) refl))

  pub now-first : (items : List Paced) → IsNonDecreasingBy due_of items → (p : Paced) → slice_get items 0 ≡ Some p
      → p.due ≤ now → Some p ≡ least (is_due now) due_of items
  now-first items sorted p is h = sym (least-due items sorted ∙ (ap (due_only now) is ∙ rw (leb-intro p.due now h) refl))

  -- it is due, and the others are what is left
  pub one-due : (items : List Paced) (q : Paced) → least (is_due now) due_of items ≡ Some q
      → IsNonDecreasingBy due_of items
      → (slice_get items 0 ≡ Some q) × (without_least (is_due now) due_of items ≡ drop 1 items) × (leb q.due now ≡ true)
  one-due [] q some sorted = cc
  one-due (p ∷ ps) q some sorted = by (leb p.due now) refl
    where
      by : (b : Bool) → leb p.due now ≡ b → (Some p ≡ Some q)
          × (without_least (is_due now) due_of (p ∷ ps) ≡ ps) × (leb q.due now ≡ true)
      by true t =
          let first = due-least now p ps sorted (leb-true p.due now t) in
          let is : Some p ≡ Some q = sym first.0 ∙ some in
          let same : p ≡ q = cc in
          (is, first.1, subst (λ (x : Paced). leb x.due now ≡ true) same t)
      by false t = let e : None ≡ Some q = sym (late p ps sorted t) ∙ some in cc

  -- so it is with what was taken out
  module _ (old new : Wheel) (o : Option EntryValue) (sorted : IsNonDecreasingBy due_of old.items)
      (is : o ≡ option_map entry_of (least (is_due now) due_of old.items))
      (left : new ≡ wheel (without_least (is_due now) due_of old.items) old.size) where
    pub released-first : IfSome o (λ e. option_map entry_of (slice_get old.items 0) ≡ Some e)
    released-first = by o is (least (is_due now) due_of old.items) refl
      where
        by : (r : Option EntryValue) → r ≡ option_map entry_of (least (is_due now) due_of old.items)
            → (m : Option Paced) → least (is_due now) due_of old.items ≡ m
            → IfSome r (λ e. option_map entry_of (slice_get old.items 0) ≡ Some e)
        by None h m t = tt
        by (Some e) h None t = let x : Some e ≡ None = h ∙ ap (option_map entry_of) t in cc
        by (Some e) h (Some q) t =
            ap (option_map entry_of) ((one-due old.items q t sorted).0 ∙ sym t) ∙ sym h

    pub released-due : IfSome o (λ _. option_is (is_due now) (slice_get old.items 0) ≡ true)
    released-due = by o is (least (is_due now) due_of old.items) refl
      where
        by : (r : Option EntryValue) → r ≡ option_map entry_of (least (is_due now) due_of old.items)
            → (m : Option Paced) → least (is_due now) due_of old.items ≡ m
            → IfSome r (λ _. option_is (is_due now) (slice_get old.items 0) ≡ true)
        by None h m t = tt
        by (Some e) h None t = let x : Some e ≡ None = h ∙ ap (option_map entry_of) t in cc
        by (Some e) h (Some q) t = let d = one-due old.items q t sorted in ap (option_is (is_due now)) d.0 ∙ d.2

    pub released-left : IfSome o (λ _. new ≡ wheel (drop 1 old.items) old.size)
    released-left = by o is (least (is_due now) due_of old.items) refl
      where
        by : (r : Option EntryValue) → r ≡ option_map entry_of (least (is_due now) due_of old.items)
            → (m : Option Paced) → least (is_due now) due_of old.items ≡ m
            → IfSome r (λ _. new ≡ wheel (drop 1 old.items) old.size)
        by None h m t = tt
        by (Some e) h None t = let x : Some e ≡ None = h ∙ ap (option_map entry_of) t in cc
        by (Some e) h (Some q) t = left ∙ ap (λ ps. wheel ps old.size) (one-due old.items q t sorted).1

    pub none-released : IfNone o (new ≡ old)
    none-released = by o is (least (is_due now) due_of old.items) refl
      where
        by : (r : Option EntryValue) → r ≡ option_map entry_of (least (is_due now) due_of old.items)
            → (m : Option Paced) → least (is_due now) due_of old.items ≡ m → IfNone r (new ≡ old)
        by (Some e) h m t = tt
        by None h (Some q) t = let x : None ≡ option_map entry_of (Some q) = h ∙ ap (option_map entry_of) t in cc
        by None h None t = left ∙ ap (λ ps. wheel ps old.size) (least-same (is_due now) due_of old.items None (sym t))
