-- One element of a list changes.
use Rattle.std.proofs.Common.{◌≡◌, ◌≢◌, ℕ, zero, suc, ◌+◌, ◌≤◌, ◌<◌, Bool, true, false, ◌||◌, cond}
use Rattle.std.proofs.Common.{Some, List, [], ◌∷◌, length, get_or, refl, sym, ap, ◌∙◌, arith}
use Rattle.std.specs.Prelude.{map, sum_by, slice_get, slice_set}
use Rattle.std.specs.List.{AllByRecursion, find, list_any, remove}
use Rattle.std.proofs.lemmas.List.Sums.{sum_by-cons}

module _ {A : Type 0} where
  pub all-from : (P : A → Type 0) (xs : List A)
      → ((j : ℕ) → (x : A) → slice_get xs j ≡ Some x → P x) → AllByRecursion P xs
  all-from P [] each = tt
  all-from P (y ∷ ys) each = (each 0 y refl, all-from P ys (λ j x e. each (suc j) x e))

  pub all-set : (P : A → Type 0) (xs : List A) (i : ℕ) (y : A) → P y
      → ((j : ℕ) → (x : A) → slice_get xs j ≡ Some x → j ≢ i → P x)
      → AllByRecursion P (slice_set xs i y)
  all-set P [] i y own each = tt
  all-set P (z ∷ zs) zero y own each =
      (own, all-from P zs (λ j x e. each (suc j) x e (λ t. absurd (omega (arith, t)))))
  all-set P (z ∷ zs) (suc i) y own each = (
    each 0 z refl (λ t. absurd (omega (arith, t))),
    all-set P zs i y own (λ j x e other. each (suc j) x e (λ t. other (omega (arith, t)))),
  )

  pub get-there : (xs : List A) (i : ℕ) (x : A) → i < length xs → x ≡ get_or xs i x
      → slice_get xs i ≡ Some x
  get-there [] i x within e = absurd (omega (arith, within))
  get-there (z ∷ zs) zero x within e = ap Some (sym e)
  get-there (z ∷ zs) (suc i) x within e = get-there zs i x (omega (arith, within)) e

  pub got-same : (xs : List A) (i : ℕ) (x d : A) → slice_get xs i ≡ Some x → get_or xs i d ≡ x
  got-same [] i x d e = cc
  got-same (z ∷ zs) zero x d e = let same : z ≡ x = cc in same
  got-same (z ∷ zs) (suc i) x d e = got-same zs i x d e

  pub set-own : (xs : List A) (i : ℕ) (x : A) → slice_get xs i ≡ Some x → slice_set xs i x ≡ xs
  set-own [] i x e = cc
  set-own (y ∷ ys) zero x e = let same : y ≡ x = cc in ap (λ z. z ∷ ys) (sym same)
  set-own (y ∷ ys) (suc i) x e = ap (λ zs. y ∷ zs) (set-own ys i x e)

  module _ (g : A → ℕ) where
    pub sum-one : (xs : List A) (i : ℕ) (x : A) → slice_get xs i ≡ Some x → g x ≤ sum_by g xs
    sum-one [] i x e = cc
    sum-one (y ∷ ys) zero x e = let same : g y ≡ g x = ap-some y x e in omega (arith, sum_by-cons g y ys, same)
      where
        ap-some : (a b : A) → Some a ≡ Some b → g a ≡ g b
        ap-some a b t = let same : a ≡ b = cc in ap g same
    sum-one (y ∷ ys) (suc i) x e = omega (arith, sum_by-cons g y ys, sum-one ys i x e)

    pub sum-two : (xs : List A) (i j : ℕ) (x z : A) → slice_get xs i ≡ Some x
        → slice_get xs j ≡ Some z → j ≢ i → g x + g z ≤ sum_by g xs
    sum-two [] i j x z e d other = cc
    sum-two (y ∷ ys) zero zero x z e d other = absurd (other refl)
    sum-two (y ∷ ys) zero (suc j) x z e d other = let same : y ≡ x = cc in omega (arith, sum_by-cons g y ys, sum-one ys j z d, ap g same)
    sum-two (y ∷ ys) (suc i) zero x z e d other = let same : y ≡ z = cc in omega (arith, sum_by-cons g y ys, sum-one ys i x e, ap g same)
    sum-two (y ∷ ys) (suc i) (suc j) x z e d other =
        omega (arith, sum_by-cons g y ys, sum-two ys i j x z e d (λ t. other (ap suc t)))

    pub sum-set : (xs : List A) (i : ℕ) (x y : A) → slice_get xs i ≡ Some x
        → sum_by g (slice_set xs i y) + g x ≡ sum_by g xs + g y
    sum-set [] i x y e = cc
    sum-set (z ∷ zs) zero x y e = let same : z ≡ x = cc in omega (arith, sum_by-cons g z zs, sum_by-cons g y zs, ap g same)
    sum-set (z ∷ zs) (suc i) x y e =
        omega (arith, sum_by-cons g z zs, sum_by-cons g z (slice_set zs i y), sum-set zs i x y e)

-- what is shown of it
module _ {A B : Type 0} (f g : A → B) where
  pub map-same : (xs : List A) → ((j : ℕ) → (x : A) → slice_get xs j ≡ Some x → g x ≡ f x)
      → map g xs ≡ map f xs
  map-same [] each = refl
  map-same (x ∷ xs) each = rw (each 0 x refl, map-same xs (λ j y e. each (suc j) y e)) refl

  pub map-set : (xs : List A) (i : ℕ) (y : A)
      → ((j : ℕ) → (x : A) → slice_get xs j ≡ Some x → j ≢ i → g x ≡ f x)
      → map g (slice_set xs i y) ≡ slice_set (map f xs) i (g y)
  map-set [] i y each = refl
  map-set (z ∷ zs) zero y each =
      ap (λ ws. g y ∷ ws) (map-same zs (λ j x e. each (suc j) x e (λ t. absurd (omega (arith, t)))))
  map-set (z ∷ zs) (suc i) y each =
      rw (each 0 z refl (λ t. absurd (omega (arith, t))))
      (ap (λ ws. f z ∷ ws) (map-set zs i y
      (λ j x e other. each (suc j) x e (λ t. other (omega (arith, t))))))

-- an element that keeps what is read of it
module _ {A : Type 0} where
  pub map-kept : {B : Type 0} (f : A → B) (xs : List A) (i : ℕ) (x y : A) → slice_get xs i ≡ Some x
      → f y ≡ f x → map f (slice_set xs i y) ≡ map f xs
  map-kept f [] i x y e same = refl
  map-kept f (z ∷ zs) zero x y e same = let is : z ≡ x = cc in ap (λ w. w ∷ map f zs) (same ∙ ap f (sym is))
  map-kept f (z ∷ zs) (suc i) x y e same = ap (λ ws. f z ∷ ws) (map-kept f zs i x y e same)

  pub any-kept : (p : A → Bool) (xs : List A) (i : ℕ) (x y : A) → slice_get xs i ≡ Some x
      → p y ≡ p x → list_any p (slice_set xs i y) ≡ list_any p xs
  any-kept p [] i x y e same = refl
  any-kept p (z ∷ zs) zero x y e same = let is : z ≡ x = cc in ap (λ b. b || list_any p zs) (same ∙ ap p (sym is))
  any-kept p (z ∷ zs) (suc i) x y e same = ap (λ b. p z || b) (any-kept p zs i x y e same)

  -- what is found stands at a place
  there-cons : (p : A → Bool) (y : A) (ys : List A) (x : A) (b : Bool)
      → (find p ys ≡ Some x → (i : ℕ) × (slice_get ys i ≡ Some x)) → cond b (Some y)
      (find p ys) ≡ Some x → (i : ℕ) × (slice_get (y ∷ ys) i ≡ Some x)
  there-cons p y ys x true ih e = (0, e)
  there-cons p y ys x false ih e = let more = ih e in (suc more.0, more.1)

  pub find-there : (p : A → Bool) (xs : List A) (x : A) → find p xs ≡ Some x
      → (i : ℕ) × (slice_get xs i ≡ Some x)
  find-there p [] x e = cc
  find-there p (y ∷ ys) x e = there-cons p y ys x (p y) (find-there p ys x) e

-- one element of a list is taken out
module _ {A : Type 0} where
  pub remove-set : (xs : List A) (i : ℕ) (y : A) → remove (slice_set xs i y) i ≡ remove xs i
  remove-set [] i y = refl
  remove-set (z ∷ zs) zero y = refl
  remove-set (z ∷ zs) (suc i) y = ap (λ ws. z ∷ ws) (remove-set zs i y)

  pub all-removed : (P : A → Type 0) (xs : List A) (i : ℕ) → AllByRecursion P xs
      → AllByRecursion P (remove xs i)
  all-removed P [] zero all = tt
  all-removed P [] (suc i) all = tt
  all-removed P (z ∷ zs) zero all = all.1
  all-removed P (z ∷ zs) (suc i) all = (all.0, all-removed P zs i all.1)

  pub sum-removed : (g : A → ℕ) (xs : List A) (i : ℕ) → sum_by g (remove xs i) ≤ sum_by g xs
  sum-removed g [] zero = omega arith
  sum-removed g [] (suc i) = omega arith
  sum-removed g (z ∷ zs) zero = omega (arith, sum_by-cons g z zs)
  sum-removed g (z ∷ zs) (suc i) =
      omega (arith, sum_by-cons g z zs, sum_by-cons g z (remove zs i), sum-removed g zs i)

  pub sum-less : (g : A → ℕ) (xs : List A) (i : ℕ) (x : A) → slice_get xs i ≡ Some x
      → sum_by g (remove xs i) + g x ≡ sum_by g xs
  sum-less g [] i x e = cc
  sum-less g (z ∷ zs) zero x e =
      let same : z ≡ x = cc in omega (arith, sum_by-cons g z zs, ap g same)
  sum-less g (z ∷ zs) (suc i) x e =
      omega (arith, sum_by-cons g z zs, sum_by-cons g z (remove zs i), sum-less g zs i x e)

  pub any-removed : (p : A → Bool) (xs : List A) (i : ℕ) (x : A) → slice_get xs i ≡ Some x
      → p x ≡ false → list_any p (remove xs i) ≡ list_any p xs
  any-removed p [] i x e none = cc
  any-removed p (z ∷ zs) zero x e none =
      let same : z ≡ x = cc in
      let no : p z ≡ false = ap p same ∙ none in rw no refl
  any-removed p (z ∷ zs) (suc i) x e none = ap (λ b. p z || b) (any-removed p zs i x e none)

pub map-removed : {A B : Type 0} (f : A → B) (xs : List A) (i : ℕ)
    → map f (remove xs i) ≡ remove (map f xs) i
map-removed f [] zero = refl
map-removed f [] (suc i) = refl
map-removed f (z ∷ zs) zero = refl
map-removed f (z ∷ zs) (suc i) = ap (λ ws. f z ∷ ws) (map-removed f zs i)
