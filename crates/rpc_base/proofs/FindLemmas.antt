-- What is found of those that pass a test, where the first that passes another changes, leaves or is added.
use Rattle.std.proofs.Common.{◌≡◌, ℕ, zero, suc, ◌≤◌, Bool, true, false, ◌||◌, cond, Option, Some}
use Rattle.std.proofs.Common.{None, List, [], ◌∷◌, ◌++◌, refl, sym, ap, ◌∙◌, arith}
use Rattle.std.specs.Prelude.{count_by, option_map, slice_get}
use Rattle.std.specs.List.{AllByRecursion, find, list_any}
use Rattle.rpc_base.specs.Tables.{at_first, without_first}
use Rattle.rpc_base.proofs.FirstLemmas.{counted-cons, own-later}

-- a number of what is found, where a change doesn't make it more
module _ {A : Type 0} (m : Option A → ℕ) (p : A → Bool) (f : A → A) (q : A → Bool)
    (same : (x : A) → q (f x) ≡ q x) where
  here-le : (b : Bool) (x y : A) (o : Option A) → m (Some x) ≤ m (Some y)
      → m (cond b (Some x) o) ≤ m (cond b (Some y) o)
  here-le true x y o h = h
  here-le false x y o h = omega arith

  later-le : (b : Bool) (y : A) (o r : Option A) → m o ≤ m r → m (cond b (Some y) o) ≤ m (cond b (Some y) r)
  later-le true y o r h = omega arith
  later-le false y o r h = h

  changed-cons : (y : A) (ys : List A) (b : Bool) → q (f y) ≡ q y
      → ((x : A) → cond b (Some y) (find p ys) ≡ Some x → m (Some (f x)) ≤ m (Some x))
      → (((x : A) → find p ys ≡ Some x → m (Some (f x)) ≤ m (Some x))
      → m (find q (at_first p f ys)) ≤ m (find q ys))
      → m (find q (cond b (f y ∷ ys) (y ∷ at_first p f ys))) ≤ m (find q (y ∷ ys))
  changed-cons y ys true e h ih = rw e (here-le (q y) (f y) y (find q ys) (h y refl))
  changed-cons y ys false e h ih = later-le (q y) y (find q (at_first p f ys)) (find q ys) (ih h)

  pub changed-le : (xs : List A) → ((x : A) → find p xs ≡ Some x → m (Some (f x)) ≤ m (Some x))
      → m (find q (at_first p f xs)) ≤ m (find q xs)
  changed-le [] h = omega arith
  changed-le (y ∷ ys) h = changed-cons y ys (p y) (same y) h (λ g. changed-le ys g)

-- one more at the end
module _ {A : Type 0} (q : A → Bool) where
  push-by : (y z : A) (ys : List A) (b : Bool) → (find q ys ≡ None → find q (ys ++ z ∷ []) ≡ Some z)
      → cond b (Some y) (find q ys) ≡ None → cond b (Some y) (find q (ys ++ z ∷ [])) ≡ Some z
  push-by y z ys true ih e = cc
  push-by y z ys false ih e = ih e

  pub push-found : (xs : List A) (z : A) → find q xs ≡ None → q z ≡ true → find q (xs ++ z ∷ []) ≡ Some z
  push-found [] z e t = rw t refl
  push-found (y ∷ ys) z e t = push-by y z ys (q y) (λ g. push-found ys z g t) e

  pub push-other : (xs : List A) (z : A) → q z ≡ false → find q (xs ++ z ∷ []) ≡ find q xs
  push-other [] z t = rw t refl
  push-other (y ∷ ys) z t = ap (λ o. cond (q y) (Some y) o) (push-other ys z t)

  pub push-kept-by : (y x : A) (o r : Option A) (b : Bool) → (o ≡ Some x → r ≡ Some x)
      → cond b (Some y) o ≡ Some x → cond b (Some y) r ≡ Some x
  push-kept-by y x o r true ih e = e
  push-kept-by y x o r false ih e = ih e

  -- what was found before is found still
  pub push-kept : (xs : List A) (x z : A) → find q xs ≡ Some x → find q (xs ++ z ∷ []) ≡ Some x
  push-kept [] x z e = cc
  push-kept (y ∷ ys) x z e = push-kept-by y x (find q ys) (find q (ys ++ z ∷ [])) (q y) (push-kept ys x z) e

-- one that passes is taken out
module _ {A : Type 0} (p : A → Bool) where
  skip-by : (q : A → Bool) (y : A) (ys : List A) (b : Bool) → p y ≡ b → (p y ≡ true → q y ≡ false)
      → find q (without_first p ys) ≡ find q ys
      → find q (cond b ys (y ∷ without_first p ys)) ≡ find q (y ∷ ys)
  skip-by q y ys true t none ih = rw (none t) refl
  skip-by q y ys false t none ih = ap (λ o. cond (q y) (Some y) o) ih

  -- a test that it fails
  pub skip-found : (q : A → Bool) (xs : List A) → ((x : A) → p x ≡ true → q x ≡ false)
      → find q (without_first p xs) ≡ find q xs
  skip-found q [] none = refl
  skip-found q (y ∷ ys) none = skip-by q y ys (p y) refl (none y) (skip-found q ys none)

  out-by : (y : A) (ys : List A) (b : Bool) → p y ≡ b → count_by p (y ∷ ys) ≤ 1
      → (count_by p ys ≤ 1 → count_by p (without_first p ys) ≤ 0)
      → count_by p (cond b ys (y ∷ without_first p ys)) ≤ 0
  out-by y ys true t few ih = omega (arith, few, counted-cons p y ys true t)
  out-by y ys false t few ih =
      let rest : count_by p ys ≤ 1 = omega (arith, few, counted-cons p y ys false t) in
      omega (arith, ih rest, counted-cons p y (without_first p ys) false t)

  -- where at most one passed, none is left
  pub count-out : (xs : List A) → count_by p xs ≤ 1 → count_by p (without_first p xs) ≤ 0
  count-out [] few = omega arith
  count-out (y ∷ ys) few = out-by y ys (p y) refl few (count-out ys)

  none-by : (y : A) (ys : List A) (b : Bool) → p y ≡ b → count_by p (y ∷ ys) ≤ 0
      → (count_by p ys ≤ 0 → find p ys ≡ None) → cond b (Some y) (find p ys) ≡ None
  none-by y ys true t few ih = absurd (omega (arith, few, counted-cons p y ys true t))
  none-by y ys false t few ih = ih (omega (arith, few, counted-cons p y ys false t))

  -- none is found where none is counted
  pub none-found : (xs : List A) → count_by p xs ≤ 0 → find p xs ≡ None
  none-found [] few = refl
  none-found (y ∷ ys) few = none-by y ys (p y) refl few (none-found ys)

  missing-by : (y : A) (o : Option A) (b c : Bool) → (c ≡ false → o ≡ None) → (b || c) ≡ false
      → cond b (Some y) o ≡ None
  missing-by y o true c ih e = cc
  missing-by y o false c ih e = ih e

  pub none-missing : (xs : List A) → list_any p xs ≡ false → find p xs ≡ None
  none-missing [] e = refl
  none-missing (y ∷ ys) e = missing-by y (find p ys) (p y) (list_any p ys) (none-missing ys) e

  no-pass-by : (y : A) (o : Option A) (b c : Bool) → (o ≡ None → c ≡ false)
      → cond b (Some y) o ≡ None → (b || c) ≡ false
  no-pass-by y o true c ih e = cc
  no-pass-by y o false c ih e = ih e

  pub missing-none : (xs : List A) → find p xs ≡ None → list_any p xs ≡ false
  missing-none [] e = refl
  missing-none (y ∷ ys) e = no-pass-by y (find p ys) (p y) (list_any p ys) (missing-none ys) e

-- what holds of the element that is found, where the first that passes another test changes
module _ {A : Type 0} (M : Option A → Type 0) (p : A → Bool) (f : A → A) (q : A → Bool)
    (same : (x : A) → q (f x) ≡ q x) where
  here-holds : (b : Bool) (y : A) (o : Option A) → q y ≡ b
      → (q y ≡ true → M (Some y) → M (Some (f y))) → M (cond b (Some y) o)
      → M (cond b (Some (f y)) o)
  here-holds true y o t h m = h t m
  here-holds false y o t h m = m

  later-holds : (b : Bool) (y : A) (o r : Option A) → (M o → M r) → M (cond b (Some y) o) → M (cond b (Some y) r)
  later-holds true y o r h m = m
  later-holds false y o r h m = h m

  keeps-by : (y : A) (ys : List A) (b : Bool) → q (f y) ≡ q y
      → ((x : A) → cond b (Some y) (find p ys) ≡ Some x → q x ≡ true → M (Some x) → M (Some (f x)))
      → (((x : A) → find p ys ≡ Some x → q x ≡ true → M (Some x) → M (Some (f x))) → M (find q ys)
      → M (find q (at_first p f ys))) → M (find q (y ∷ ys))
      → M (find q (cond b (f y ∷ ys) (y ∷ at_first p f ys)))
  keeps-by y ys true e h ih m = rw e (here-holds (q y) y (find q ys) refl (h y refl) m)
  keeps-by y ys false e h ih m = later-holds (q y) y (find q ys) (find q (at_first p f ys)) (ih h) m

  pub changed-holds : (xs : List A)
      → ((x : A) → find p xs ≡ Some x → q x ≡ true → M (Some x) → M (Some (f x))) → M (find q xs)
      → M (find q (at_first p f xs))
  changed-holds [] h m = m
  changed-holds (y ∷ ys) h m = keeps-by y ys (p y) (same y) h (λ g. changed-holds ys g) m

-- an element that another test doesn't pass
module _ {A : Type 0} (p q : A → Bool) (x : A) where
  this-by : (y : A) (ys : List A) (b : Bool) → q x ≡ false
      → (find p ys ≡ Some x → find q (without_first p ys) ≡ find q ys)
      → cond b (Some y) (find p ys) ≡ Some x
      → find q (cond b ys (y ∷ without_first p ys)) ≡ find q (y ∷ ys)
  this-by y ys true t ih e =
      let same : y ≡ x = cc in let fails : q y ≡ false = ap q same ∙ t in rw fails refl
  this-by y ys false t ih e = ap (λ o. cond (q y) (Some y) o) (ih e)

  -- it is taken out
  pub this-out : (xs : List A) → q x ≡ false → find p xs ≡ Some x → find q (without_first p xs) ≡ find q xs
  this-out [] t e = refl
  this-out (y ∷ ys) t e = this-by y ys (p y) t (this-out ys t) e

  new-by : (f : A → A) (y : A) (ys : List A) (b : Bool) → q x ≡ false → q (f x) ≡ false
      → (find p ys ≡ Some x → find q (at_first p f ys) ≡ find q ys)
      → cond b (Some y) (find p ys) ≡ Some x
      → find q (cond b (f y ∷ ys) (y ∷ at_first p f ys)) ≡ find q (y ∷ ys)
  new-by f y ys true t n ih e = let same : y ≡ x = cc in rw (same, n, t) refl
  new-by f y ys false t n ih e = ap (λ o. cond (q y) (Some y) o) (ih e)

  -- it is changed, to one that doesn't pass either
  pub this-changed : (f : A → A) (xs : List A) → q x ≡ false → q (f x) ≡ false → find p xs ≡ Some x
      → find q (at_first p f xs) ≡ find q xs
  this-changed f [] t n e = refl
  this-changed f (y ∷ ys) t n e = new-by f y ys (p y) t n (this-changed f ys t n) e

-- the one that is found is changed
module _ {A : Type 0} (p : A → Bool) (f : A → A) (same : (x : A) → p (f x) ≡ p x) where
  mapped-by : (y : A) (ys : List A) (b : Bool) → p (f y) ≡ b
      → find p (at_first p f ys) ≡ option_map f (find p ys)
      → find p (cond b (f y ∷ ys) (y ∷ at_first p f ys))
      ≡ option_map f (cond b (Some y) (find p ys))
  mapped-by y ys true t ih = rw t refl
  mapped-by y ys false t ih = let fails : p y ≡ false = sym (same y) ∙ t in rw fails ih

  pub mapped-found : (xs : List A) → find p (at_first p f xs) ≡ option_map f (find p xs)
  mapped-found [] = refl
  mapped-found (y ∷ ys) = mapped-by y ys (p y) (same y) (mapped-found ys)

-- what passes another test is found as before
module _ {A : Type 0} (p q : A → Bool) (f : A → A) (same : (x : A) → q (f x) ≡ q x)
    (apart : (x : A) → p x ≡ true → q x ≡ false) where
  unchanged-by : (y : A) (ys : List A) (b : Bool) → p y ≡ b → find q (at_first p f ys) ≡ find q ys
      → find q (cond b (f y ∷ ys) (y ∷ at_first p f ys)) ≡ find q (y ∷ ys)
  unchanged-by y ys true t ih = rw (same y, apart y t) refl
  unchanged-by y ys false t ih = ap (λ o. cond (q y) (Some y) o) ih

  pub unchanged-found : (xs : List A) → find q (at_first p f xs) ≡ find q xs
  unchanged-found [] = refl
  unchanged-found (y ∷ ys) = unchanged-by y ys (p y) refl (unchanged-found ys)

-- an element at a place, where at most one passes
module _ {A : Type 0} (q : A → Bool) where
  at-counted : (xs : List A) (j : ℕ) (c : A) → slice_get xs j ≡ Some c → q c ≡ true → 1 ≤ count_by q xs
  at-counted [] j c e t = cc
  at-counted (y ∷ ys) zero c e t =
      let same : y ≡ c = cc in
      let own : q y ≡ true = ap q same ∙ t in
      omega (arith, counted-cons q y ys true own)
  at-counted (y ∷ ys) (suc j) c e t = omega (arith, at-counted ys j c e t, counted-cons q y ys (q y) refl)

  pub at-found : (xs : List A) (j : ℕ) (c : A) → count_by q xs ≤ 1 → slice_get xs j ≡ Some c
      → q c ≡ true → find q xs ≡ Some c
  at-found [] j c few e t = cc
  at-found (y ∷ ys) zero c few e t =
      let same : y ≡ c = cc in let own : q y ≡ true = ap q same ∙ t in rw own (ap Some same)
  at-found (y ∷ ys) (suc j) c few e t =
      own-later q q y c ys (q y) refl (at-counted ys j c e t) few (λ h. at-found ys j c h e t)

-- a claim about each element of which no one passes a test
module _ {A : Type 0} (p : A → Bool) (P Q : A → Type 0) where
  none-passes-by : (y : A) (ys : List A) (b c : Bool) → p y ≡ b → (b || c) ≡ false → (p y ≡ false) × (c ≡ false)
  none-passes-by y ys true c t e = cc
  none-passes-by y ys false c t e = (t, e)

  pub all-unpassed : (xs : List A) → list_any p xs ≡ false → ((x : A) → p x ≡ false → P x → Q x)
      → AllByRecursion P xs → AllByRecursion Q xs
  all-unpassed [] e step all = tt
  all-unpassed (y ∷ ys) e step all =
      let parts = none-passes-by y ys (p y) (list_any p ys) refl e in
      (step y parts.0 all.0, all-unpassed ys parts.1 step all.1)
