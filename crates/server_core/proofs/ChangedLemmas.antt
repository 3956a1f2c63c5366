-- Lists in which the element that a test finds is changed or taken out, and what is shown of them.
use Rattle.std.proofs.Common.{◌≡◌, ◌≤◌, Bool, true, false, ◌||◌, cond, Some, None, List, [], ◌∷◌}
use Rattle.std.proofs.Common.{◌++◌, refl, ap, arith}
use Rattle.std.specs.Prelude.{count_by, map}
use Rattle.std.specs.List.{find, list_any}
use Rattle.rpc_base.specs.Tables.{at_first, without_first}
use Rattle.rpc_base.proofs.FirstLemmas.{counted-cons}
use Rattle.rpc_base.proofs.BasicLemmas.{or-false}

module _ {A : Type 0} (p : A → Bool) where
  -- what is counted of the rest
  own-cons : (y : A) (ys : List A) (b : Bool) → p y ≡ b → count_by p (y ∷ ys) ≤ 1
      → (count_by p ys ≤ 1 → count_by p (without_first p ys) ≡ 0)
      → count_by p (cond b ys (y ∷ without_first p ys)) ≡ 0
  own-cons y ys true t few ih = omega (arith, counted-cons p y ys true t, few)
  own-cons y ys false t few ih =
      omega (
        arith,
        counted-cons p y (without_first p ys) false t,
        ih (omega (arith, counted-cons p y ys false t, few)),
      )

  pub count-own-without : (xs : List A) → count_by p xs ≤ 1 → count_by p (without_first p xs) ≡ 0
  count-own-without [] few = refl
  count-own-without (y ∷ ys) few = own-cons y ys (p y) refl few (count-own-without ys)

  less-cons : (q : A → Bool) (y : A) (ys : List A) (b : Bool)
      → count_by q (without_first p ys) ≤ count_by q ys
      → count_by q (cond b ys (y ∷ without_first p ys)) ≤ count_by q (y ∷ ys)
  less-cons q y ys true ih = omega (arith, counted-cons q y ys (q y) refl)
  less-cons q y ys false ih =
      omega (
        arith,
        counted-cons q y ys (q y) refl,
        counted-cons q y (without_first p ys) (q y) refl,
        ih,
      )

  pub count-without-less : (q : A → Bool) (xs : List A) → count_by q (without_first p xs) ≤ count_by q xs
  count-without-less q [] = omega arith
  count-without-less q (y ∷ ys) = less-cons q y ys (p y) (count-without-less q ys)

  -- whether one passes
  none-cons : (y : A) (ys : List A) (b : Bool) → p y ≡ b
      → (find p ys ≡ None → list_any p ys ≡ false) → cond b (Some y) (find p ys) ≡ None
      → (b || list_any p ys) ≡ false
  none-cons y ys true t ih e = cc
  none-cons y ys false t ih e = ih e

  rest-cons : (t : A → Bool) (y : A) (ys : List A) (b : Bool) → p y ≡ false → list_any p ys ≡ false
      → list_any p (without_first t ys) ≡ false
      → list_any p (cond b ys (y ∷ without_first t ys)) ≡ false
  rest-cons t y ys true here rest ih = rest
  rest-cons t y ys false here rest ih = rw here ih

  pub any-without : (t : A → Bool) (xs : List A) → list_any p xs ≡ false → list_any p (without_first t xs) ≡ false
  any-without t [] e = refl
  any-without t (y ∷ ys) e =
      let parts = or-false (p y) (list_any p ys) e in
      rest-cons t y ys (t y) parts.0 parts.1 (any-without t ys parts.1)

  -- a change of the last
  pub at_first-last : (f : A → A) (y : A) (xs : List A) → list_any p xs ≡ false → p y ≡ true
      → at_first p f (xs ++ y ∷ []) ≡ xs ++ f y ∷ []
  at_first-last f y [] e t = rw t refl
  at_first-last f y (x ∷ xs) e t =
      let parts = or-false (p x) (list_any p xs) e in
      rw parts.0 (ap (λ zs. x ∷ zs) (at_first-last f y xs parts.1 t))

  -- two changes of one element
  twice-cons : (f g : A → A) (y : A) (ys : List A) (b : Bool) → p y ≡ b → p (f y) ≡ p y
      → at_first p g (at_first p f ys) ≡ at_first p (λ x. g (f x)) ys
      → at_first p g (cond b (f y ∷ ys) (y ∷ at_first p f ys))
      ≡ cond b (g (f y) ∷ ys) (y ∷ at_first p (λ x. g (f x)) ys)
  twice-cons f g y ys true t same ih = rw (same, t) refl
  twice-cons f g y ys false t same ih = rw t (ap (λ zs. y ∷ zs) ih)

  pub at_first-twice : (f g : A → A) (xs : List A) → ((x : A) → p (f x) ≡ p x)
      → at_first p g (at_first p f xs) ≡ at_first p (λ x. g (f x)) xs
  at_first-twice f g [] same = refl
  at_first-twice f g (y ∷ ys) same = twice-cons f g y ys (p y) refl (same y) (at_first-twice f g ys same)

  -- two changes that agree where the element is found
  agree-cons : (f g : A → A) (x y : A) (ys : List A) (b : Bool) → f x ≡ g x
      → (find p ys ≡ Some x → at_first p f ys ≡ at_first p g ys)
      → cond b (Some y) (find p ys) ≡ Some x
      → cond b (f y ∷ ys) (y ∷ at_first p f ys) ≡ cond b (g y ∷ ys) (y ∷ at_first p g ys)
  agree-cons f g x y ys true same ih e = let is : y ≡ x = cc in rw (is, same) refl
  agree-cons f g x y ys false same ih e = ap (λ zs. y ∷ zs) (ih e)

  pub at_first-agree : (f g : A → A) (x : A) (xs : List A) → f x ≡ g x → find p xs ≡ Some x
      → at_first p f xs ≡ at_first p g xs
  at_first-agree f g x [] same e = cc
  at_first-agree f g x (y ∷ ys) same e = agree-cons f g x y ys (p y) same (at_first-agree f g x ys same) e

-- what is shown of a list in which one element was changed or taken out
module _ {A B : Type 0} (g : A → B) (test : A → Bool) (t : B → Bool) (tests : (x : A) → t (g x) ≡ test x) where
  gone-cons : (y : A) (ys : List A) (b : Bool)
      → map g (without_first test ys) ≡ without_first t (map g ys)
      → map g (cond b ys (y ∷ without_first test ys))
      ≡ cond b (map g ys) (g y ∷ without_first t (map g ys))
  gone-cons y ys true ih = refl
  gone-cons y ys false ih = ap (λ zs. g y ∷ zs) ih

  pub map-without : (xs : List A) → map g (without_first test xs) ≡ without_first t (map g xs)
  map-without [] = refl
  map-without (y ∷ ys) = rw (tests y) (gone-cons y ys (test y) (map-without ys))

  module _ (h : A → B) (q d : A) (change : B → B) (new : h d ≡ change (g q)) where
    back-cons : (y : A) (ys : List A) (b : Bool)
        → (find test ys ≡ Some q → map h (without_first test ys) ≡ map g (without_first test ys)
        → map h (at_first test (λ x. d) ys) ≡ at_first t change (map g ys))
        → cond b (Some y) (find test ys) ≡ Some q
        → map h (cond b ys (y ∷ without_first test ys))
        ≡ map g (cond b ys (y ∷ without_first test ys))
        → map h (cond b (d ∷ ys) (y ∷ at_first test (λ x. d) ys))
        ≡ cond b (change (g y) ∷ map g ys) (g y ∷ at_first t change (map g ys))
    back-cons y ys true ih e same = let is : y ≡ q = cc in rw (is, new, same) refl
    back-cons y ys false ih e same =
        let first : h y ≡ g y = cc in
        let later : map h (without_first test ys) ≡ map g (without_first test ys) = cc in
        rw (first, ih e later) refl

    pub map-back : (xs : List A) → find test xs ≡ Some q
        → map h (without_first test xs) ≡ map g (without_first test xs)
        → map h (at_first test (λ x. d) xs) ≡ at_first t change (map g xs)
    map-back [] e same = cc
    map-back (y ∷ ys) e same = rw (tests y) (back-cons y ys (test y) (map-back ys) e same)

-- what stays
module _ {A : Type 0} (p : A → Bool) where
  stays-cons : (y : A) (ys : List A) (b : Bool) → (find p ys ≡ None → without_first p ys ≡ ys)
      → cond b (Some y) (find p ys) ≡ None → cond b ys (y ∷ without_first p ys) ≡ y ∷ ys
  stays-cons y ys true ih e = cc
  stays-cons y ys false ih e = ap (λ zs. y ∷ zs) (ih e)

  pub without-none : (xs : List A) → find p xs ≡ None → without_first p xs ≡ xs
  without-none [] e = refl
  without-none (y ∷ ys) e = stays-cons y ys (p y) (without-none ys) e

  self-cons : (c y : A) (ys : List A) (b : Bool)
      → (find p ys ≡ Some c → at_first p (λ x. c) ys ≡ ys) → cond b (Some y) (find p ys) ≡ Some c
      → cond b (c ∷ ys) (y ∷ at_first p (λ x. c) ys) ≡ y ∷ ys
  self-cons c y ys true ih e = let same : y ≡ c = cc in rw same refl
  self-cons c y ys false ih e = ap (λ zs. y ∷ zs) (ih e)

  pub self-first : (c : A) (ys : List A) → find p ys ≡ Some c → at_first p (λ x. c) ys ≡ ys
  self-first c [] e = cc
  self-first c (y ∷ ys) e = self-cons c y ys (p y) (self-first c ys) e

  missing-cons : (y : A) (ys : List A) (b : Bool) → p y ≡ b → (count_by p ys ≡ 0 → find p ys ≡ None)
      → count_by p (y ∷ ys) ≡ 0 → cond b (Some y) (find p ys) ≡ None
  missing-cons y ys true t ih e = absurd (omega (arith, counted-cons p y ys true t, e))
  missing-cons y ys false t ih e = ih (omega (arith, counted-cons p y ys false t, e))

  pub none-counted : (xs : List A) → count_by p xs ≡ 0 → find p xs ≡ None
  none-counted [] e = refl
  none-counted (y ∷ ys) e = missing-cons y ys (p y) refl (none-counted ys) e

-- what is shown of a list, by what is shown of one element and of the rest
module _ {A B : Type 0} (g h : A → B) (test : A → Bool) (q : A) (new : h q ≡ g q) where
  whole-cons : (y : A) (ys : List A) (b : Bool)
      → (find test ys ≡ Some q → map h (without_first test ys) ≡ map g (without_first test ys)
      → map h ys ≡ map g ys) → cond b (Some y) (find test ys) ≡ Some q
      → map h (cond b ys (y ∷ without_first test ys))
      ≡ map g (cond b ys (y ∷ without_first test ys)) → map h (y ∷ ys) ≡ map g (y ∷ ys)
  whole-cons y ys true ih e same = let is : y ≡ q = cc in rw (is, new, same) refl
  whole-cons y ys false ih e same =
      let first : h y ≡ g y = cc in
      let later : map h (without_first test ys) ≡ map g (without_first test ys) = cc in
      rw (first, ih e later) refl

  pub map-whole : (xs : List A) → find test xs ≡ Some q
      → map h (without_first test xs) ≡ map g (without_first test xs) → map h xs ≡ map g xs
  map-whole [] e same = cc
  map-whole (y ∷ ys) e same = whole-cons y ys (test y) (map-whole ys) e same

-- what is put in the place of an element is found there
module _ {A : Type 0} (p : A → Bool) (d : A) (passes : p d ≡ true) where
  put-cons : (q y : A) (ys : List A) (b : Bool) → p y ≡ b
      → (find p ys ≡ Some q → find p (at_first p (λ x. d) ys) ≡ Some d)
      → cond b (Some y) (find p ys) ≡ Some q
      → find p (cond b (d ∷ ys) (y ∷ at_first p (λ x. d) ys)) ≡ Some d
  put-cons q y ys true t ih e = rw passes refl
  put-cons q y ys false t ih e = rw t (ih e)

  pub found-put : (q : A) (xs : List A) → find p xs ≡ Some q → find p (at_first p (λ x. d) xs) ≡ Some d
  found-put q [] e = cc
  found-put q (y ∷ ys) e = put-cons q y ys (p y) refl (found-put q ys) e
