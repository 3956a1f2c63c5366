-- Places of a list: what all satisfy holds at each, one element changes, and the image of one.
use Rattle.std.proofs.Common.{◌≡◌, ◌≢◌, ℕ, zero, suc, Some, List, [], ◌∷◌, refl, ap}
use Rattle.std.specs.Prelude.{map, slice_get, slice_set}
use Rattle.std.specs.List.{AllByRecursion}

module _ {A : Type 0} where
  pub all-at : (P : A → Type 0) (xs : List A) (i : ℕ) (x : A) → AllByRecursion P xs
      → slice_get xs i ≡ Some x → P x
  all-at P [] i x all e = cc
  all-at P (y ∷ ys) zero x all e = let same : y ≡ x = cc in rw (← same) all.0
  all-at P (y ∷ ys) (suc i) x all e = all-at P ys i x all.1 e

  pub set-here : (xs : List A) (i : ℕ) (x y : A) → slice_get xs i ≡ Some x
      → slice_get (slice_set xs i y) i ≡ Some y
  set-here [] i x y e = cc
  set-here (z ∷ zs) zero x y e = refl
  set-here (z ∷ zs) (suc i) x y e = set-here zs i x y e

  pub set-other : (xs : List A) (i j : ℕ) (y : A) → j ≢ i
      → slice_get (slice_set xs i y) j ≡ slice_get xs j
  set-other [] i j y other = refl
  set-other (z ∷ zs) zero zero y other = absurd (other refl)
  set-other (z ∷ zs) zero (suc j) y other = refl
  set-other (z ∷ zs) (suc i) zero y other = refl
  set-other (z ∷ zs) (suc i) (suc j) y other = set-other zs i j y (λ t. other (ap suc t))

module _ {A B : Type 0} (f : A → B) where
  pub get-map : (xs : List A) (i : ℕ) (x : A) → slice_get xs i ≡ Some x
      → slice_get (map f xs) i ≡ Some (f x)
  get-map [] i x e = cc
  get-map (y ∷ ys) zero x e = let same : y ≡ x = cc in ap (λ z. Some (f z)) same
  get-map (y ∷ ys) (suc i) x e = get-map ys i x e
