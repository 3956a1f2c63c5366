-- Tables kept as lists: sums, tests and claims over them where the first element that passes changes or
-- leaves.
use Rattle.std.proofs.Common.{◌≡◌, ℕ, ◌+◌, ◌≤◌, Bool, true, false, ◌||◌, cond, Option, Some, None}
use Rattle.std.proofs.Common.{List, [], ◌∷◌, ◌++◌, refl, ap, ◌∙◌, arith}
use Rattle.std.specs.Prelude.{count_by, sum_by}
use Rattle.std.specs.List.{AllByRecursion, find, list_any}
use Rattle.std.proofs.lemmas.List.Sums.{sum_by-cons}
use Rattle.rpc_base.specs.Tables.{at_first, without_first}
use Rattle.rpc_base.proofs.TakingLemmas.{find-passes}

-- the element that is found
module _ {A : Type 0} (p : A → Bool) where
  holds-cons : (P : A → Type 0) (y x : A) (o : Option A) (b : Bool) → P y → (o ≡ Some x → P x)
      → cond b (Some y) o ≡ Some x → P x
  holds-cons P y x o true here there e = let same : y ≡ x = cc in rw same at here
  holds-cons P y x o false here there e = there e

  pub found-holds : (P : A → Type 0) (xs : List A) (x : A) → AllByRecursion P xs → find p xs ≡ Some x → P x
  found-holds P [] x all e = cc
  found-holds P (y ∷ ys) x all e = holds-cons P y x (find p ys) (p y) all.0 (found-holds P ys x all.1) e

  le-cons : (g : A → ℕ) (y x : A) (ys : List A) (b : Bool)
      → (find p ys ≡ Some x → g x ≤ sum_by g ys) → cond b (Some y) (find p ys) ≡ Some x
      → g x ≤ sum_by g (y ∷ ys)
  le-cons g y x ys true ih e =
      let same : g y ≡ g x = ap g (some-same y x e) in omega (arith, sum_by-cons g y ys)
    where
      some-same : (a b : A) → Some a ≡ Some b → a ≡ b
      some-same a b h = cc
  le-cons g y x ys false ih e = omega (arith, sum_by-cons g y ys, ih e)

  -- a sum has the part of each
  pub found-le : (g : A → ℕ) (xs : List A) (x : A) → find p xs ≡ Some x → g x ≤ sum_by g xs
  found-le g [] x e = cc
  found-le g (y ∷ ys) x e = le-cons g y x ys (p y) (found-le g ys x) e

  pub counted-cons : (y : A) (ys : List A) (b : Bool) → p y ≡ b → count_by p (y ∷ ys) ≡ cond b 1 0 + count_by p ys
  counted-cons y ys b t = sum_by-cons (λ x. cond (p x) 1 0) y ys ∙ ap (λ c. cond c 1 0 + count_by p ys) t

  any-counted-cons : (b any : Bool) (n m : ℕ) → cond any 1 0 ≤ m → n ≡ cond b 1 0 + m → cond (b || any) 1 0 ≤ n
  any-counted-cons true any n m h e = omega arith
  any-counted-cons false any n m h e = omega arith

  -- one that passes is counted
  pub any-counted : (xs : List A) → cond (list_any p xs) 1 0 ≤ count_by p xs
  any-counted [] = omega arith
  any-counted (y ∷ ys) =
      any-counted-cons (p y) (list_any p ys) (count_by p (y ∷ ys)) (count_by p ys) (any-counted ys)
      (counted-cons y ys (p y) refl)

  none-counted-cons : (y : A) (ys : List A) (b : Bool) → p y ≡ b
      → (list_any p ys ≡ false → count_by p ys ≡ 0) → (b || list_any p ys) ≡ false
      → count_by p (y ∷ ys) ≡ 0
  none-counted-cons y ys true t ih e = cc
  none-counted-cons y ys false t ih e = omega (arith, counted-cons y ys false t, ih e)

  pub none-counted : (xs : List A) → list_any p xs ≡ false → count_by p xs ≡ 0
  none-counted [] e = refl
  none-counted (y ∷ ys) e = none-counted-cons y ys (p y) refl (none-counted ys) e

  counted-none-cons : (y : A) (ys : List A) (b : Bool) → p y ≡ b → count_by p (y ∷ ys) ≡ 0
      → (count_by p ys ≡ 0 → list_any p ys ≡ false) → (b || list_any p ys) ≡ false
  counted-none-cons y ys true t none ih = absurd (omega (arith, counted-cons y ys true t, none))
  counted-none-cons y ys false t none ih = ih (omega (arith, counted-cons y ys false t, none))

  pub counted-none : (xs : List A) → count_by p xs ≡ 0 → list_any p xs ≡ false
  counted-none [] none = refl
  counted-none (y ∷ ys) none = counted-none-cons y ys (p y) refl none (counted-none ys)

  pub all-fail : (xs : List A) → AllByRecursion (λ x. p x ≡ false) xs → count_by p xs ≡ 0
  all-fail [] all = refl
  all-fail (y ∷ ys) all = omega (arith, counted-cons y ys false all.0, all-fail ys all.1)

  found-any-cons : (y x : A) (ys : List A) (b : Bool) → (find p ys ≡ Some x → list_any p ys ≡ true)
      → cond b (Some y) (find p ys) ≡ Some x → (b || list_any p ys) ≡ true
  found-any-cons y x ys true ih e = refl
  found-any-cons y x ys false ih e = ih e

  pub found-any : (xs : List A) (x : A) → find p xs ≡ Some x → list_any p xs ≡ true
  found-any [] x e = cc
  found-any (y ∷ ys) x e = found-any-cons y x ys (p y) (found-any ys x) e

-- an element that one test finds and another passes
module _ {A : Type 0} (p q : A → Bool) where
  some-cons : (y c : A) (ys : List A) (b : Bool) → q c ≡ true
      → (find p ys ≡ Some c → 1 ≤ count_by q ys) → cond b (Some y) (find p ys) ≡ Some c
      → 1 ≤ count_by q (y ∷ ys)
  some-cons y c ys true t ih e =
      let same : y ≡ c = cc in
      let first : q y ≡ true = ap q same ∙ t in
      omega (arith, counted-cons q y ys true first)
  some-cons y c ys false t ih e = omega (arith, ih e, counted-cons q y ys (q y) refl)

  pub some-counted : (xs : List A) (c : A) → find p xs ≡ Some c → q c ≡ true → 1 ≤ count_by q xs
  some-counted [] c e t = cc
  some-counted (y ∷ ys) c e t = some-cons y c ys (p y) t (λ g. some-counted ys c g t) e

  pub own-later : (y c : A) (ys : List A) (b : Bool) → q y ≡ b → 1 ≤ count_by q ys
      → count_by q (y ∷ ys) ≤ 1 → (count_by q ys ≤ 1 → find q ys ≡ Some c)
      → cond b (Some y) (find q ys) ≡ Some c
  own-later y c ys true t some few ih = absurd (omega (arith, counted-cons q y ys true t))
  own-later y c ys false t some few ih = ih (omega (arith, counted-cons q y ys false t))

  own-cons : (y c : A) (ys : List A) (b : Bool) → q c ≡ true → count_by q (y ∷ ys) ≤ 1
      → (count_by q ys ≤ 1 → find p ys ≡ Some c → find q ys ≡ Some c)
      → cond b (Some y) (find p ys) ≡ Some c → find q (y ∷ ys) ≡ Some c
  own-cons y c ys true t few ih e =
      let same : y ≡ c = cc in
      let first : q y ≡ true = ap q same ∙ t in
      rw first (ap Some same)
  own-cons y c ys false t few ih e = own-later y c ys (q y) refl (some-counted ys c e t) few (λ h. ih h e)

  -- where at most one passes, it is the one that is found
  pub found-own : (xs : List A) (c : A) → count_by q xs ≤ 1 → find p xs ≡ Some c → q c ≡ true → find q xs ≡ Some c
  found-own [] c few e t = cc
  found-own (y ∷ ys) c few e t = own-cons y c ys (p y) t few (λ h g. found-own ys c h g t) e

-- fewer pass a test that implies another
module _ {A : Type 0} (p q : A → Bool) (implies : (x : A) → p x ≡ true → q x ≡ true) where
  fewer-cons : (y : A) (ys : List A) (b : Bool) → p y ≡ b → count_by p ys ≤ count_by q ys
      → count_by p (y ∷ ys) ≤ count_by q (y ∷ ys)
  fewer-cons y ys true t ih = omega (arith, counted-cons p y ys true t, counted-cons q y ys true (implies y t))
  fewer-cons y ys false t ih = omega (arith, counted-cons p y ys false t, counted-cons q y ys (q y) refl)

  pub count-fewer : (xs : List A) → count_by p xs ≤ count_by q xs
  count-fewer [] = omega arith
  count-fewer (y ∷ ys) = fewer-cons y ys (p y) refl (count-fewer ys)

-- what holds of all, with one more
pub all-push : {A : Type 0} (P : A → Type 0) (xs : List A) (x : A) → AllByRecursion P xs → P x
    → AllByRecursion P (xs ++ x ∷ [])
all-push P [] x all one = (one, tt)
all-push P (y ∷ ys) x all one = (all.0, all-push P ys x all.1 one)

pub all-both : {A : Type 0} (P : A → Type 0) (xs ys : List A) → AllByRecursion P xs
    → AllByRecursion P ys → AllByRecursion P (xs ++ ys)
all-both P [] ys first second = second
all-both P (x ∷ xs) ys first second = (first.0, all-both P xs ys first.1 second)

pub all-each : {A : Type 0} (P Q : A → Type 0) (xs : List A) → ((x : A) → P x → Q x)
    → AllByRecursion P xs → AllByRecursion Q xs
all-each P Q [] step all = tt
all-each P Q (y ∷ ys) step all = (step y all.0, all-each P Q ys step all.1)

-- the first element that passes is changed
module _ {A : Type 0} (p : A → Bool) (f : A → A) where
  kept-cons : (P : A → Type 0) (y : A) (ys : List A) (b : Bool) → p y ≡ b
      → (P y → p y ≡ true → P (f y)) → P y → AllByRecursion P ys
      → AllByRecursion P (at_first p f ys)
      → AllByRecursion P (cond b (f y ∷ ys) (y ∷ at_first p f ys))
  kept-cons P y ys true t step here rest after = (step here t, rest)
  kept-cons P y ys false t step here rest after = (here, after)

  -- a claim that the change keeps
  pub all-kept : (P : A → Type 0) (xs : List A) → ((x : A) → P x → p x ≡ true → P (f x))
      → AllByRecursion P xs → AllByRecursion P (at_first p f xs)
  all-kept P [] step all = tt
  all-kept P (y ∷ ys) step all = kept-cons P y ys (p y) refl (step y) all.0 all.1 (all-kept P ys step all.1)

  changed-cons : (P : A → Type 0) (y x : A) (ys : List A) (b : Bool) → (P x → P (f x)) → P y
      → AllByRecursion P ys → (find p ys ≡ Some x → AllByRecursion P (at_first p f ys))
      → cond b (Some y) (find p ys) ≡ Some x
      → AllByRecursion P (cond b (f y ∷ ys) (y ∷ at_first p f ys))
  changed-cons P y x ys true step here rest after e =
      let same : x ≡ y = cc in let new : P y → P (f y) = rw same at step in (new here, rest)
  changed-cons P y x ys false step here rest after e = (here, after e)

  -- a claim that the change of the element that is found keeps
  pub all-changed : (P : A → Type 0) (xs : List A) (x : A) → find p xs ≡ Some x → (P x → P (f x))
      → AllByRecursion P xs → AllByRecursion P (at_first p f xs)
  all-changed P [] x e step all = tt
  all-changed P (y ∷ ys) x e step all =
      changed-cons P y x ys (p y) step all.0 all.1 (λ g. all-changed P ys x g step all.1) e

  first-cons : (P : A → Type 0) (y : A) (ys : List A) (b : Bool)
      → ((x : A) → cond b (Some y) (find p ys) ≡ Some x → P x → P (f x)) → P y → AllByRecursion P ys
      → (((x : A) → find p ys ≡ Some x → P x → P (f x)) → AllByRecursion P (at_first p f ys))
      → AllByRecursion P (cond b (f y ∷ ys) (y ∷ at_first p f ys))
  first-cons P y ys true step here rest after = (step y refl here, rest)
  first-cons P y ys false step here rest after = (here, after step)

  -- the same, whether one is found or not
  pub all-first : (P : A → Type 0) (xs : List A) → ((x : A) → find p xs ≡ Some x → P x → P (f x))
      → AllByRecursion P xs → AllByRecursion P (at_first p f xs)
  all-first P [] step all = tt
  all-first P (y ∷ ys) step all =
      first-cons P y ys (p y) step all.0 all.1 (λ h. all-first P ys h all.1)

  sum-changed-cons : (g : A → ℕ) (y x : A) (ys : List A) (b : Bool)
      → (find p ys ≡ Some x → sum_by g (at_first p f ys) + g x ≡ sum_by g ys + g (f x))
      → cond b (Some y) (find p ys) ≡ Some x
      → sum_by g (cond b (f y ∷ ys) (y ∷ at_first p f ys)) + g x ≡ sum_by g (y ∷ ys) + g (f x)
  sum-changed-cons g y x ys true ih e =
      let same : y ≡ x = cc in
      let old : g y ≡ g x = ap g same in
      let new : g (f y) ≡ g (f x) = ap (λ z. g (f z)) same in
      omega (arith, sum_by-cons g (f y) ys, sum_by-cons g y ys)
  sum-changed-cons g y x ys false ih e =
      omega (arith, ih e, sum_by-cons g y (at_first p f ys), sum_by-cons g y ys)

  pub sum-changed : (g : A → ℕ) (xs : List A) (x : A) → find p xs ≡ Some x
      → sum_by g (at_first p f xs) + g x ≡ sum_by g xs + g (f x)
  sum-changed g [] x e = cc
  sum-changed g (y ∷ ys) x e = sum-changed-cons g y x ys (p y) (sum-changed g ys x) e

  sum-grown-cons : (g : A → ℕ) (d : ℕ) (y : A) (ys : List A) (b : Bool) → g (f y) ≤ g y + d
      → sum_by g (at_first p f ys) ≤ sum_by g ys + d
      → sum_by g (cond b (f y ∷ ys) (y ∷ at_first p f ys)) ≤ sum_by g (y ∷ ys) + d
  sum-grown-cons g d y ys true h ih = omega (arith, sum_by-cons g (f y) ys, sum_by-cons g y ys)
  sum-grown-cons g d y ys false h ih = omega (arith, sum_by-cons g y (at_first p f ys), sum_by-cons g y ys)

  -- a sum grows by no more than the change of one
  pub sum-grown : (g : A → ℕ) (d : ℕ) (xs : List A) → ((x : A) → g (f x) ≤ g x + d)
      → sum_by g (at_first p f xs) ≤ sum_by g xs + d
  sum-grown g d [] h = omega arith
  sum-grown g d (y ∷ ys) h = sum-grown-cons g d y ys (p y) (h y) (sum-grown g d ys h)

  same-cons : (y : A) (ys : List A) (b : Bool) → (find p ys ≡ None → at_first p f ys ≡ ys)
      → cond b (Some y) (find p ys) ≡ None → cond b (f y ∷ ys) (y ∷ at_first p f ys) ≡ y ∷ ys
  same-cons y ys true ih e = cc
  same-cons y ys false ih e = ap (λ zs. y ∷ zs) (ih e)

  pub missing-same : (xs : List A) → find p xs ≡ None → at_first p f xs ≡ xs
  missing-same [] e = refl
  missing-same (y ∷ ys) e = same-cons y ys (p y) (missing-same ys) e

  -- the changed element is found where it was
  module _ (q : A → Bool) (c : A) where
    found-later : (y : A) (ys : List A) (b : Bool) → p c ≡ true → p y ≡ false
        → (find q ys ≡ Some c → find q (at_first p f ys) ≡ Some (f c))
        → cond b (Some y) (find q ys) ≡ Some c
        → cond b (Some y) (find q (at_first p f ys)) ≡ Some (f c)
    found-later y ys true t n ih e =
        let same : y ≡ c = cc in
        let passes : p y ≡ true = ap p same ∙ t in
        cc
    found-later y ys false t n ih e = ih e

    found-cons : (y : A) (ys : List A) (b : Bool) → p y ≡ b → q (f c) ≡ true
        → (find p ys ≡ Some c → find q ys ≡ Some c → find q (at_first p f ys) ≡ Some (f c))
        → cond b (Some y) (find p ys) ≡ Some c → find q (y ∷ ys) ≡ Some c
        → find q (cond b (f y ∷ ys) (y ∷ at_first p f ys)) ≡ Some (f c)
    found-cons y ys true t passes ih e g = let same : y ≡ c = cc in rw (same, passes) refl
    found-cons y ys false t passes ih e g =
        found-later y ys (q y) (find-passes p ys c e) t (λ k. ih e k) g

    pub found-changed : (xs : List A) → q (f c) ≡ true → find p xs ≡ Some c → find q xs ≡ Some c
        → find q (at_first p f xs) ≡ Some (f c)
    found-changed [] passes e g = cc
    found-changed (y ∷ ys) passes e g = found-cons y ys (p y) refl passes (found-changed ys passes) e g

-- the first element that passes is taken out
module _ {A : Type 0} (p : A → Bool) where
  left-cons : (P : A → Type 0) (y : A) (ys : List A) (b : Bool) → P y → AllByRecursion P ys
      → AllByRecursion P (without_first p ys)
      → AllByRecursion P (cond b ys (y ∷ without_first p ys))
  left-cons P y ys true here rest after = rest
  left-cons P y ys false here rest after = (here, after)

  pub all-left : (P : A → Type 0) (xs : List A) → AllByRecursion P xs → AllByRecursion P (without_first p xs)
  all-left P [] all = tt
  all-left P (y ∷ ys) all = left-cons P y ys (p y) all.0 all.1 (all-left P ys all.1)

  sum-left-cons : (g : A → ℕ) (y x : A) (ys : List A) (b : Bool)
      → (find p ys ≡ Some x → sum_by g (without_first p ys) + g x ≡ sum_by g ys)
      → cond b (Some y) (find p ys) ≡ Some x
      → sum_by g (cond b ys (y ∷ without_first p ys)) + g x ≡ sum_by g (y ∷ ys)
  sum-left-cons g y x ys true ih e =
      let same : y ≡ x = cc in let old : g y ≡ g x = ap g same in omega (arith, sum_by-cons g y ys)
  sum-left-cons g y x ys false ih e =
      omega (arith, ih e, sum_by-cons g y (without_first p ys), sum_by-cons g y ys)

  pub sum-left : (g : A → ℕ) (xs : List A) (x : A) → find p xs ≡ Some x
      → sum_by g (without_first p xs) + g x ≡ sum_by g xs
  sum-left g [] x e = cc
  sum-left g (y ∷ ys) x e = sum-left-cons g y x ys (p y) (sum-left g ys x) e

  sum-fewer-cons : (g : A → ℕ) (y : A) (ys : List A) (b : Bool)
      → sum_by g (without_first p ys) ≤ sum_by g ys
      → sum_by g (cond b ys (y ∷ without_first p ys)) ≤ sum_by g (y ∷ ys)
  sum-fewer-cons g y ys true ih = omega (arith, sum_by-cons g y ys)
  sum-fewer-cons g y ys false ih = omega (arith, sum_by-cons g y (without_first p ys), sum_by-cons g y ys)

  pub sum-fewer : (g : A → ℕ) (xs : List A) → sum_by g (without_first p xs) ≤ sum_by g xs
  sum-fewer g [] = omega arith
  sum-fewer g (y ∷ ys) = sum-fewer-cons g y ys (p y) (sum-fewer g ys)
