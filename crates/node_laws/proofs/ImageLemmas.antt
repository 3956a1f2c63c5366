-- Tables and their images: where the first element that passes changes or leaves, so does its image.
use Rattle.std.proofs.Common.{◌≡◌, Bool, true, false, ◌||◌, cond, Some, List, [], ◌∷◌, refl, sym, ap}
use Rattle.std.specs.Prelude.{map}
use Rattle.std.specs.List.{find, list_any}
use Rattle.rpc_base.specs.Tables.{at_first, without_first}

-- a table and its image
module _ {A B : Type 0} (v : A → B) (p : A → Bool) (q : B → Bool) (same : (x : A) → q (v x) ≡ p x) where
  any-cons : (x : A) (b c : Bool) → q (v x) ≡ p x → b ≡ c → (q (v x) || b) ≡ (p x || c)
  any-cons x b c e h = rw (e, h) refl

  pub any-map : (xs : List A) → list_any q (map v xs) ≡ list_any p xs
  any-map [] = refl
  any-map (y ∷ ys) = any-cons y (list_any q (map v ys)) (list_any p ys) (same y) (any-map ys)

  module _ (f : A → A) (g : B → B) where
    map-changed-cons : (y x : A) (ys : List A) (b : Bool) → v (f x) ≡ g (v x)
        → (find p ys ≡ Some x → at_first q g (map v ys) ≡ map v (at_first p f ys))
        → cond b (Some y) (find p ys) ≡ Some x
        → cond b (g (v y) ∷ map v ys) (v y ∷ at_first q g (map v ys))
        ≡ map v (cond b (f y ∷ ys) (y ∷ at_first p f ys))
    map-changed-cons y x ys true h ih e =
        let equal : y ≡ x = cc in rw equal (ap (λ z. z ∷ map v ys) (sym h))
    map-changed-cons y x ys false h ih e = ap (λ zs. v y ∷ zs) (ih e)

    -- where the change of the element that is found is that of its image
    pub map-changed : (xs : List A) (x : A) → find p xs ≡ Some x → v (f x) ≡ g (v x)
        → at_first q g (map v xs) ≡ map v (at_first p f xs)
    map-changed [] x e h = refl
    map-changed (y ∷ ys) x e h = rw (same y) (map-changed-cons y x ys (p y) h (λ k. map-changed ys x k h) e)

    map-each-cons : (y : A) (ys : List A) (b : Bool) → v (f y) ≡ g (v y)
        → at_first q g (map v ys) ≡ map v (at_first p f ys)
        → cond b (g (v y) ∷ map v ys) (v y ∷ at_first q g (map v ys))
        ≡ map v (cond b (f y ∷ ys) (y ∷ at_first p f ys))
    map-each-cons y ys true h ih = ap (λ z. z ∷ map v ys) (sym h)
    map-each-cons y ys false h ih = ap (λ zs. v y ∷ zs) ih

    pub map-each : (xs : List A) → ((x : A) → v (f x) ≡ g (v x)) → at_first q g (map v xs) ≡ map v (at_first p f xs)
    map-each [] h = refl
    map-each (y ∷ ys) h = rw (same y) (map-each-cons y ys (p y) (h y) (map-each ys h))

  map-left-cons : (y : A) (ys : List A) (b : Bool)
      → without_first q (map v ys) ≡ map v (without_first p ys)
      → cond b (map v ys) (v y ∷ without_first q (map v ys))
      ≡ map v (cond b ys (y ∷ without_first p ys))
  map-left-cons y ys true ih = refl
  map-left-cons y ys false ih = ap (λ zs. v y ∷ zs) ih

  pub map-left : (xs : List A) → without_first q (map v xs) ≡ map v (without_first p xs)
  map-left [] = refl
  map-left (y ∷ ys) = rw (same y) (map-left-cons y ys (p y) (map-left ys))

-- a change that the image doesn't show
module _ {A B : Type 0} (v : A → B) (p : A → Bool) (f : A → A) (same : (x : A) → v (f x) ≡ v x) where
  hidden-cons : (y : A) (ys : List A) (b : Bool) → v (f y) ≡ v y
      → map v (at_first p f ys) ≡ map v ys
      → map v (cond b (f y ∷ ys) (y ∷ at_first p f ys)) ≡ map v (y ∷ ys)
  hidden-cons y ys true h ih = ap (λ z. z ∷ map v ys) h
  hidden-cons y ys false h ih = ap (λ zs. v y ∷ zs) ih

  pub map-hidden : (xs : List A) → map v (at_first p f xs) ≡ map v xs
  map-hidden [] = refl
  map-hidden (y ∷ ys) = hidden-cons y ys (p y) (same y) (map-hidden ys)
