-- Lists whose elements change, and the lists of what is read from them.
use Rattle.std.proofs.Common.{◌≡◌, ℕ, zero, suc, Bool, true, false, List, [], ◌∷◌, ◌++◌, map}
use Rattle.std.proofs.Common.{Option, Some}
use Rattle.std.proofs.Common.{slice_get, refl, sym, ap, ◌∙◌}
use Rattle.std.specs.List.{slice_set}
use Rattle.rpc_base.specs.Tables.{at_first}

module _ {A B : Type 0} (f : A → B) where
  kept-by : (p : A → Bool) (change : A → A) (x : A) (xs : List A) (b : Bool) → f (change x) ≡ f x
      → map f (at_first p change xs) ≡ map f xs
      → map f (Rattle.std.proofs.Common.cond b (change x ∷ xs) (x ∷ at_first p change xs))
      ≡ f x ∷ map f xs
  kept-by p change x xs true e ih = ap (λ y. y ∷ map f xs) e
  kept-by p change x xs false e ih = ap (λ ys. f x ∷ ys) ih

  pub map-kept : (p : A → Bool) (change : A → A) (xs : List A) → ((x : A) → f (change x) ≡ f x)
      → map f (at_first p change xs) ≡ map f xs
  map-kept p change [] e = refl
  map-kept p change (x ∷ xs) e = kept-by p change x xs (p x) (e x) (map-kept p change xs e)

  pub map-set : (xs : List A) (i : ℕ) (y : A) → map f (slice_set xs i y) ≡ slice_set (map f xs) i (f y)
  map-set [] i y = refl
  map-set (x ∷ xs) zero y = refl
  map-set (x ∷ xs) (suc i) y = ap (λ ys. f x ∷ ys) (map-set xs i y)

  pub set-same : (xs : List A) (i : ℕ) (x y : A) → slice_get xs i ≡ Some x → f y ≡ f x
      → map f (slice_set xs i y) ≡ map f xs
  set-same [] i x y is e = refl
  set-same (z ∷ zs) zero x y is e = let same : z ≡ x = cc in ap (λ (t : B). t ∷ map f zs) (e ∙ ap f (sym same))
  set-same (z ∷ zs) (suc i) x y is e = ap (λ ys. f z ∷ ys) (set-same zs i x y is e)

  pub map-add : (xs : List A) (y : A) → map f (xs ++ y ∷ []) ≡ map f xs ++ f y ∷ []
  map-add [] y = refl
  map-add (x ∷ xs) y = ap (λ ys. f x ∷ ys) (map-add xs y)

  -- what an element of the image is of
  pub record Origin (xs : List A) (i : ℕ) (y : B) : Type 0 where
    pub item : A
    pub is_there : slice_get xs i ≡ Some item
    pub same : f item ≡ y

  pub map-origin : (xs : List A) (i : ℕ) (y : B) → slice_get (map f xs) i ≡ Some y → Origin xs i y
  map-origin [] i y is = cc
  map-origin (z ∷ zs) zero y is = record { item = z; is_there = refl; same = cc }
  map-origin (z ∷ zs) (suc i) y is = let o = map-origin zs i y is in record { item = o.item; is_there = o.is_there; same = o.same }
