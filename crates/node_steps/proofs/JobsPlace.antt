-- A walk along a list up to the first element that passes.
use Rattle.std.proofs.Common.{◌≡◌, ℕ, ◌+◌, ◌≤◌, ◌<◌, Bool, true, false, ltb, ltb-true, ltb-false}
use Rattle.std.proofs.Common.{Some, None, List, length, get_or, sym, ap, ◌∙◌, refl, arith}
use Rattle.std.specs.List.{position, position_or_len}
use Rattle.std.proofs.lemmas.List.Sums.{fails_before_first, passes_at_first}

module _ {A : Type 0} (p : A → Bool) (xs : List A) where
  -- the next one doesn't pass
  pub walk-more : (i : ℕ) (d : A) → i ≤ position_or_len p xs → i < length xs
      → p (get_or xs i d) ≡ false → i + 1 ≤ position_or_len p xs
  walk-more i d before within fails = by (ltb i (position_or_len p xs)) refl
    where
      by : (b : Bool) → ltb i (position_or_len p xs) ≡ b → i + 1 ≤ position_or_len p xs
      by true e = omega (arith, ltb-true i (position_or_len p xs) e)
      by false e =
          let same : position_or_len p xs ≡ i = omega (
            arith,
            ltb-false i (position_or_len p xs) e,
            before,
          ) in
          let passes = passes_at_first p xs d (omega (arith, same, within)) in
          let clash : true ≡ false = sym passes ∙ ap (λ k. p (get_or xs k d)) same ∙ fails in
          cc

  stands : (k : ℕ) → position_or_len p xs ≡ k → k < length xs → (b : Bool) → ltb k (length xs) ≡ b
      → position p xs ≡ Some k
  stands k e within true t = rw (e, t) refl
  stands k e within false t = absurd (omega (arith, ltb-false k (length xs) t, within))

  -- or it does
  pub walk-here : (i : ℕ) (d : A) → i ≤ position_or_len p xs → i < length xs
      → p (get_or xs i d) ≡ true → position p xs ≡ Some i
  walk-here i d before within passes = by (ltb i (position_or_len p xs)) refl
    where
      by : (b : Bool) → ltb i (position_or_len p xs) ≡ b → position p xs ≡ Some i
      by true e =
          let fails = fails_before_first p xs i d (ltb-true i (position_or_len p xs) e) in
          let clash : true ≡ false = sym passes ∙ fails in
          cc
      by false e = stands i (omega (arith, ltb-false i (position_or_len p xs) e, before)) within
          (ltb i (length xs)) refl

  -- or none is left
  pub walk-none : (i : ℕ) → i ≤ position_or_len p xs → length xs ≤ i → position p xs ≡ None
  walk-none i before past = by (ltb (position_or_len p xs) (length xs)) refl
    where
      by : (b : Bool) → ltb (position_or_len p xs) (length xs) ≡ b → position p xs ≡ None
      by true e = absurd (omega (
        arith,
        ltb-true (position_or_len p xs) (length xs) e,
        before,
        past,
      ))
      by false e = rw e refl
