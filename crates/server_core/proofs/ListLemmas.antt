-- What is found of what is shown.
use Rattle.std.proofs.Common.{◌≡◌, Bool, true, false, cond, Some, List, [], ◌∷◌, refl}
use Rattle.std.specs.Prelude.{map, option_map}
use Rattle.std.specs.List.{find}

module _ {A B : Type 0} (g : A → B) (p : B → Bool) (q : A → Bool) (same : (x : A) → p (g x) ≡ q x) where
  found-cons : (x : A) (xs : List A) (b : Bool) → find p (map g xs) ≡ option_map g (find q xs)
      → cond b (Some (g x)) (find p (map g xs)) ≡ option_map g (cond b (Some x) (find q xs))
  found-cons x xs true ih = refl
  found-cons x xs false ih = ih

  pub found-shown : (xs : List A) → find p (map g xs) ≡ option_map g (find q xs)
  found-shown [] = refl
  found-shown (x ∷ xs) = rw (same x) (found-cons x xs (q x) (found-shown xs))
