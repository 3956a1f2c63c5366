-- Where a test counts one element at most, it stands at one place.
use Rattle.std.proofs.Common.{◌≡◌, ◌≤◌, ◌+◌, ℕ, zero, suc, Bool, true, cond, List, [], ◌∷◌}
use Rattle.std.proofs.Common.{Some, slice_get, refl, ap, arith}
use Rattle.std.proofs.lemmas.List.Sums.{sum_by-cons}
use Rattle.std.specs.Prelude.{sum_by, count_by}
use Rattle.std.specs.List.{AllByRecursion}
use Rattle.end_laws.proofs.ListLemmas.{Placed}

module _ {A : Type 0} (f : A → ℕ) where
  pub sum-here : (xs : List A) (i : ℕ) (x : A) → slice_get xs i ≡ Some x → f x ≤ sum_by f xs
  sum-here [] i x is = cc
  sum-here (z ∷ zs) zero x is =
      let cons : sum_by f (z ∷ zs) ≡ f z + sum_by f zs = sum_by-cons f z zs in
      let same : z ≡ x = cc in
      let here : f z ≡ f x = ap f same in
      omega arith
  sum-here (z ∷ zs) (suc i) x is =
      let cons : sum_by f (z ∷ zs) ≡ f z + sum_by f zs = sum_by-cons f z zs in
      let rest = sum-here zs i x is in
      omega arith

  pub sum-two : (xs : List A) → sum_by f xs ≤ 1 → (i j : ℕ) (x y : A) → slice_get xs i ≡ Some x
      → 1 ≤ f x → slice_get xs j ≡ Some y → 1 ≤ f y → i ≡ j
  sum-two [] few i j x y is some at more = cc
  sum-two (z ∷ zs) few zero zero x y is some at more = refl
  sum-two (z ∷ zs) few zero (suc j) x y is some at more =
      let cons : sum_by f (z ∷ zs) ≡ f z + sum_by f zs = sum_by-cons f z zs in
      let same : z ≡ x = cc in
      let here : f z ≡ f x = ap f same in
      let rest = sum-here zs j y at in
      absurd (omega arith)
  sum-two (z ∷ zs) few (suc i) zero x y is some at more =
      let cons : sum_by f (z ∷ zs) ≡ f z + sum_by f zs = sum_by-cons f z zs in
      let same : z ≡ y = cc in
      let here : f z ≡ f y = ap f same in
      let rest = sum-here zs i x is in
      absurd (omega arith)
  sum-two (z ∷ zs) few (suc i) (suc j) x y is some at more =
      let cons : sum_by f (z ∷ zs) ≡ f z + sum_by f zs = sum_by-cons f z zs in
      ap suc (sum-two zs (omega arith) i j x y is some at more)

module _ {A : Type 0} (p : A → Bool) where
  pub passes-one : (x : A) → p x ≡ true → 1 ≤ cond {A = ℕ} (p x) 1 0
  passes-one x t = rw t (omega arith)

  pub count-here : (xs : List A) (i : ℕ) (x : A) → slice_get xs i ≡ Some x → p x ≡ true → 1 ≤ count_by p xs
  count-here xs i x is t =
      let some = passes-one x t in
      let le = sum-here (λ y. cond (p y) 1 0) xs i x is in
      omega arith

  pub one-place : (xs : List A) → count_by p xs ≤ 1 → (i j : ℕ) (x y : A) → slice_get xs i ≡ Some x
      → p x ≡ true → slice_get xs j ≡ Some y → p y ≡ true → i ≡ j
  one-place xs few i j x y is t at u =
      sum-two (λ y. cond (p y) 1 0) xs few i j x y is (passes-one x t) at (passes-one y u)

pub placed-all : {A : Type 0} (P : A → Type 0) (xs : List A) → Placed (λ i x. P x) xs → AllByRecursion P xs
placed-all P [] h = tt
placed-all P (x ∷ xs) h = (h 0 x refl, placed-all P xs (λ i. h (suc i)))

pub every : {A : Type 0} (P : A → Type 0) (xs : List A) → ((x : A) → P x) → AllByRecursion P xs
every P [] h = tt
every P (x ∷ xs) h = (h x, every P xs h)
