-- Lists of requests in which one is changed, begins or goes.
use Rattle.std.proofs.Common.{◌≡◌, Bool, true, false, ◌||◌, cond, Some, None, List, [], ◌∷◌, refl}
use Rattle.std.specs.Prelude.{map, option_map}
use Rattle.std.specs.List.{find, list_any}
use Rattle.rpc_base.specs.Tables.{at_first, without_first}

-- one element of a list is changed
module _ {A : Type 0} (p : A → Bool) where
  changed-cons : (f : A → A) (x : A) (xs : List A) (b : Bool) → p x ≡ b → p (f x) ≡ p x
      → find p (at_first p f xs) ≡ option_map f (find p xs)
      → find p (cond b (f x ∷ xs) (x ∷ at_first p f xs))
      ≡ option_map f (cond b (Some x) (find p xs))
  changed-cons f x xs true t same ih = rw (same, t) refl
  changed-cons f x xs false t same ih = rw t ih

  pub found-changed : (f : A → A) (xs : List A) → ((x : A) → p (f x) ≡ p x)
      → find p (at_first p f xs) ≡ option_map f (find p xs)
  found-changed f [] same = refl
  found-changed f (x ∷ xs) same = changed-cons f x xs (p x) refl (same x) (found-changed f xs same)

  -- nothing is changed where none passes
  kept-cons : (f : A → A) (x : A) (xs : List A) (b : Bool)
      → (find p xs ≡ None → at_first p f xs ≡ xs) → cond b (Some x) (find p xs) ≡ None
      → cond b (f x ∷ xs) (x ∷ at_first p f xs) ≡ x ∷ xs
  kept-cons f x xs true ih e = cc
  kept-cons f x xs false ih e = rw (ih e) refl

  pub none-changed : (f : A → A) (xs : List A) → find p xs ≡ None → at_first p f xs ≡ xs
  none-changed f [] e = refl
  none-changed f (x ∷ xs) e = kept-cons f x xs (p x) (none-changed f xs) e

  -- none is found where one was taken out of those in which none was
  without-cons : (t : A → Bool) (x : A) (xs : List A) (b c : Bool) → p x ≡ b
      → (find p xs ≡ None → find p (without_first t xs) ≡ None) → cond b (Some x) (find p xs) ≡ None
      → find p (cond c xs (x ∷ without_first t xs)) ≡ None
  without-cons t x xs true c u ih e = cc
  without-cons t x xs false true u ih e = e
  without-cons t x xs false false u ih e = rw u (ih e)

  pub none-without : (t : A → Bool) (xs : List A) → find p xs ≡ None → find p (without_first t xs) ≡ None
  none-without t [] e = refl
  none-without t (x ∷ xs) e = without-cons t x xs (p x) (t x) refl (none-without t xs) e

  -- what is found is found yet, where one that another test finds is taken out
  rest-cons : (t : A → Bool) (x : A) (xs : List A) (b c : Bool) → p x ≡ b → t x ≡ c
      → (p x ≡ true → t x ≡ false) → find p (without_first t xs) ≡ find p xs
      → find p (cond c xs (x ∷ without_first t xs)) ≡ cond b (Some x) (find p xs)
  rest-cons t x xs true true u w apart ih = let no : t x ≡ false = apart u in cc
  rest-cons t x xs false true u w apart ih = refl
  rest-cons t x xs true false u w apart ih = rw u refl
  rest-cons t x xs false false u w apart ih = rw u ih

  pub found-without : (t : A → Bool) (xs : List A) → ((x : A) → p x ≡ true → t x ≡ false)
      → find p (without_first t xs) ≡ find p xs
  found-without t [] apart = refl
  found-without t (x ∷ xs) apart = rest-cons t x xs (p x) (t x) refl refl (apart x) (found-without t xs apart)

  -- and where one that another test finds is changed
  other-cons : (q : A → Bool) (f : A → A) (x : A) (xs : List A) (b : Bool) → q x ≡ b → p (f x) ≡ p x
      → (p x ≡ true → q x ≡ false) → find p (at_first q f xs) ≡ find p xs
      → find p (cond b (f x ∷ xs) (x ∷ at_first q f xs)) ≡ find p (x ∷ xs)
  other-cons q f x xs true u same apart ih = other-true (p x) refl
    where
      other-true : (c : Bool) → p x ≡ c → find p (f x ∷ xs) ≡ find p (x ∷ xs)
      other-true true w = let no : q x ≡ false = apart w in cc
      other-true false w = rw (same, w) refl
  other-cons q f x xs false u same apart ih = rw ih refl

  pub found-other : (q : A → Bool) (f : A → A) (xs : List A) → ((x : A) → p (f x) ≡ p x)
      → ((x : A) → p x ≡ true → q x ≡ false) → find p (at_first q f xs) ≡ find p xs
  found-other q f [] same apart = refl
  found-other q f (x ∷ xs) same apart =
      other-cons q f x xs (q x) refl (same x) (apart x) (found-other q f xs same apart)

  -- what is found passes
  any-cons : (x y : A) (xs : List A) (b : Bool) → (find p xs ≡ Some y → list_any p xs ≡ true)
      → cond b (Some x) (find p xs) ≡ Some y → (b || list_any p xs) ≡ true
  any-cons x y xs true ih e = refl
  any-cons x y xs false ih e = ih e

  pub found-any : (xs : List A) (y : A) → find p xs ≡ Some y → list_any p xs ≡ true
  found-any [] y e = cc
  found-any (x ∷ xs) y e = any-cons x y xs (p x) (found-any xs y) e

  no-cons : (x : A) (xs : List A) (b : Bool) → (find p xs ≡ None → list_any p xs ≡ false)
      → cond b (Some x) (find p xs) ≡ None → (b || list_any p xs) ≡ false
  no-cons x xs true ih e = cc
  no-cons x xs false ih e = ih e

  passes-cons : (x y : A) (xs : List A) (b : Bool) → p x ≡ b → (find p xs ≡ Some y → p y ≡ true)
      → cond b (Some x) (find p xs) ≡ Some y → p y ≡ true
  passes-cons x y xs true t ih e = let same : x ≡ y = cc in rw same at t
  passes-cons x y xs false t ih e = ih e

  pub found-passes : (xs : List A) (y : A) → find p xs ≡ Some y → p y ≡ true
  found-passes [] y e = cc
  found-passes (x ∷ xs) y e = passes-cons x y xs (p x) refl (found-passes xs y) e

-- what is found of what is shown
module _ {A B : Type 0} (g : A → B) (p : B → Bool) (q : A → Bool) (same : (x : A) → p (g x) ≡ q x) where
  shown-cons : (x : A) (xs : List A) (b : Bool) → find p (map g xs) ≡ option_map g (find q xs)
      → cond b (Some (g x)) (find p (map g xs)) ≡ option_map g (cond b (Some x) (find q xs))
  shown-cons x xs true ih = refl
  shown-cons x xs false ih = ih

  pub found-shown : (xs : List A) → find p (map g xs) ≡ option_map g (find q xs)
  found-shown [] = refl
  found-shown (x ∷ xs) = rw (same x) (shown-cons x xs (q x) (found-shown xs))
