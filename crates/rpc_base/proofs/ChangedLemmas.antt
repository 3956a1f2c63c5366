-- Lists in which the element that a test finds is changed or taken out.
use Rattle.std.proofs.Common.{◌≡◌, ℕ, ◌+◌, ◌≤◌, Bool, true, false, cond, Some, None, List, [], ◌∷◌}
use Rattle.std.proofs.Common.{length, refl, ap, ◌∙◌, arith}
use Rattle.std.specs.Prelude.{count_by, sum_by}
use Rattle.std.specs.List.{AllByRecursion, find}
use Rattle.std.proofs.lemmas.List.Sums.{sum_by-cons}
use Rattle.rpc_base.specs.Tables.{at_first, without_first}
use Rattle.rpc_base.proofs.FirstLemmas.{counted-cons}

module _ {A : Type 0} (p : A → Bool) (c : A) where
  -- it is replaced by what a change makes of it
  replaced-cons : (f : A → A) (y : A) (ys : List A) (b : Bool)
      → (find p ys ≡ Some c → at_first p (λ x. f c) ys ≡ at_first p f ys)
      → cond b (Some y) (find p ys) ≡ Some c
      → cond b (f c ∷ ys) (y ∷ at_first p (λ x. f c) ys) ≡ cond b (f y ∷ ys) (y ∷ at_first p f ys)
  replaced-cons f y ys true ih e = let same : y ≡ c = cc in rw same refl
  replaced-cons f y ys false ih e = ap (λ zs. y ∷ zs) (ih e)

  pub same-change : (f : A → A) (xs : List A) → find p xs ≡ Some c → at_first p (λ x. f c) xs ≡ at_first p f xs
  same-change f [] e = cc
  same-change f (y ∷ ys) e = replaced-cons f y ys (p y) (same-change f ys) e

  -- what holds of all, where one is changed
  all-cons : (P : A → Type 0) (f : A → A) (y : A) (ys : List A) (b : Bool) → P y
      → AllByRecursion P ys → P (f c) → (find p ys ≡ Some c → AllByRecursion P (at_first p f ys))
      → cond b (Some y) (find p ys) ≡ Some c
      → AllByRecursion P (cond b (f y ∷ ys) (y ∷ at_first p f ys))
  all-cons P f y ys true here rest new ih e = let same : y ≡ c = cc in rw same (new, rest)
  all-cons P f y ys false here rest new ih e = (here, ih e)

  pub all-changed : (P : A → Type 0) (f : A → A) (xs : List A) → AllByRecursion P xs → P (f c)
      → find p xs ≡ Some c → AllByRecursion P (at_first p f xs)
  all-changed P f [] all new e = cc
  all-changed P f (y ∷ ys) all new e =
      all-cons P f y ys (p y) all.0 all.1 new (all-changed P f ys all.1 new) e

  -- a sum, where one is changed
  sum-cons : (g : A → ℕ) (f : A → A) (y : A) (ys : List A) (b : Bool)
      → (find p ys ≡ Some c → sum_by g (at_first p f ys) + g c ≡ sum_by g ys + g (f c))
      → cond b (Some y) (find p ys) ≡ Some c
      → sum_by g (cond b (f y ∷ ys) (y ∷ at_first p f ys)) + g c ≡ sum_by g (y ∷ ys) + g (f c)
  sum-cons g f y ys true ih e =
      let same : y ≡ c = cc in
      omega (arith, sum_by-cons g (f y) ys, sum_by-cons g y ys, ap g same, ap (λ x. g (f x)) same)
  sum-cons g f y ys false ih e = omega (arith, sum_by-cons g y (at_first p f ys), sum_by-cons g y ys, ih e)

  pub sum-changed : (g : A → ℕ) (f : A → A) (xs : List A) → find p xs ≡ Some c
      → sum_by g (at_first p f xs) + g c ≡ sum_by g xs + g (f c)
  sum-changed g f [] e = cc
  sum-changed g f (y ∷ ys) e = sum-cons g f y ys (p y) (sum-changed g f ys) e

  -- one less
  fewer-cons : (y : A) (ys : List A) (b : Bool)
      → (find p ys ≡ Some c → length (without_first p ys) + 1 ≡ length ys)
      → cond b (Some y) (find p ys) ≡ Some c
      → length (cond b ys (y ∷ without_first p ys)) + 1 ≡ length (y ∷ ys)
  fewer-cons y ys true ih e = omega arith
  fewer-cons y ys false ih e = omega (arith, ih e)

  pub length-without : (xs : List A) → find p xs ≡ Some c → length (without_first p xs) + 1 ≡ length xs
  length-without [] e = cc
  length-without (y ∷ ys) e = fewer-cons y ys (p y) (length-without ys) e

  less-cons : (g : A → ℕ) (y : A) (ys : List A) (b : Bool)
      → (find p ys ≡ Some c → sum_by g (without_first p ys) + g c ≡ sum_by g ys)
      → cond b (Some y) (find p ys) ≡ Some c
      → sum_by g (cond b ys (y ∷ without_first p ys)) + g c ≡ sum_by g (y ∷ ys)
  less-cons g y ys true ih e = let same : y ≡ c = cc in omega (arith, sum_by-cons g y ys, ap g same)
  less-cons g y ys false ih e = omega (arith, sum_by-cons g y ys, sum_by-cons g y (without_first p ys), ih e)

  pub sum-without : (g : A → ℕ) (xs : List A) → find p xs ≡ Some c → sum_by g (without_first p xs) + g c ≡ sum_by g xs
  sum-without g [] e = cc
  sum-without g (y ∷ ys) e = less-cons g y ys (p y) (sum-without g ys) e

  -- what another test finds
  module _ (q : A → Bool) where
    apart-cons : (y : A) (ys : List A) (b : Bool) → q c ≡ false
        → (find p ys ≡ Some c → find q (without_first p ys) ≡ find q ys)
        → cond b (Some y) (find p ys) ≡ Some c
        → find q (cond b ys (y ∷ without_first p ys)) ≡ cond (q y) (Some y) (find q ys)
    apart-cons y ys true t ih e = let same : y ≡ c = cc in rw (same, t) refl
    apart-cons y ys false t ih e = ap (λ o. cond (q y) (Some y) o) (ih e)

    pub other-without : (xs : List A) → q c ≡ false → find p xs ≡ Some c → find q (without_first p xs) ≡ find q xs
    other-without [] t e = cc
    other-without (y ∷ ys) t e = apart-cons y ys (p y) t (other-without ys t) e

    -- another test that finds the same takes out the same
    alike-cons : (y : A) (ys : List A) (a b : Bool) → p y ≡ a → q y ≡ b → p c ≡ true → q c ≡ true
        → (find p ys ≡ Some c → find q ys ≡ Some c → without_first p ys ≡ without_first q ys)
        → cond a (Some y) (find p ys) ≡ Some c → cond b (Some y) (find q ys) ≡ Some c
        → cond a ys (y ∷ without_first p ys) ≡ cond b ys (y ∷ without_first q ys)
    alike-cons y ys true true t u pc qc ih e g = refl
    alike-cons y ys true false t u pc qc ih e g =
        let same : y ≡ c = cc in let h : q y ≡ true = ap q same ∙ qc in cc
    alike-cons y ys false true t u pc qc ih e g =
        let same : y ≡ c = cc in let h : p y ≡ true = ap p same ∙ pc in cc
    alike-cons y ys false false t u pc qc ih e g = ap (λ zs. y ∷ zs) (ih e g)

    pub same-without : (xs : List A) → p c ≡ true → q c ≡ true → find p xs ≡ Some c
        → find q xs ≡ Some c → without_first p xs ≡ without_first q xs
    same-without [] pc qc e g = refl
    same-without (y ∷ ys) pc qc e g = alike-cons y ys (p y) (q y) refl refl pc qc (same-without ys pc qc) e g

    -- where at most one passes, none is left
    none-cons : (y : A) (ys : List A) (b : Bool) → q y ≡ b → (count_by q ys ≡ 0 → find q ys ≡ None)
        → count_by q (y ∷ ys) ≡ 0 → cond b (Some y) (find q ys) ≡ None
    none-cons y ys true t ih e = absurd (omega (arith, counted-cons q y ys true t, e))
    none-cons y ys false t ih e = ih (omega (arith, counted-cons q y ys false t, e))

    pub none-counted : (xs : List A) → count_by q xs ≡ 0 → find q xs ≡ None
    none-counted [] e = refl
    none-counted (y ∷ ys) e = none-cons y ys (q y) refl (none-counted ys) e

    pub own-without : (xs : List A) → count_by q xs ≤ 1 → q c ≡ true → find p xs ≡ Some c
        → find q (without_first p xs) ≡ None
    own-without xs few t e =
        let sum = sum-without (λ x. cond (q x) 1 0) xs e in
        let one : cond {A = ℕ} (q c) 1 0 ≡ 1 = ap (λ b. cond {A = ℕ} b 1 0) t in
        none-counted (without_first p xs) (omega (arith, sum, one, few))

-- two tests that find one element change that one
module _ {A : Type 0} (p q : A → Bool) (f : A → A) (c : A) where
  same-later : (x : A) (xs : List A) (b : Bool) → p x ≡ true → x ≡ c → q x ≡ b → q c ≡ true
      → f x ∷ xs ≡ cond b (f x ∷ xs) (x ∷ at_first q f xs)
  same-later x xs true t is u passes = refl
  same-later x xs false t is u passes = let clash : q x ≡ true = ap q is ∙ passes in cc

  other-later : (x : A) (xs : List A) (b : Bool) → q x ≡ b → p x ≡ false → p c ≡ true
      → (find q xs ≡ Some c → at_first p f xs ≡ at_first q f xs)
      → cond b (Some x) (find q xs) ≡ Some c
      → x ∷ at_first p f xs ≡ cond b (f x ∷ xs) (x ∷ at_first q f xs)
  other-later x xs true u t passes ih e =
      let is : x ≡ c = cc in
      let clash : p x ≡ true = ap p is ∙ passes in cc
  other-later x xs false u t passes ih e = ap (λ ys. x ∷ ys) (ih e)

  same-cons : (x : A) (xs : List A) (b : Bool) → p x ≡ b → p c ≡ true → q c ≡ true
      → (find p xs ≡ Some c → find q xs ≡ Some c → at_first p f xs ≡ at_first q f xs)
      → cond b (Some x) (find p xs) ≡ Some c → cond (q x) (Some x) (find q xs) ≡ Some c
      → cond b (f x ∷ xs) (x ∷ at_first p f xs) ≡ cond (q x) (f x ∷ xs) (x ∷ at_first q f xs)
  same-cons x xs true t mine yours ih e g = let is : x ≡ c = cc in same-later x xs (q x) t is refl yours
  same-cons x xs false t mine yours ih e g = other-later x xs (q x) refl t mine (ih e) g

  pub same-first : (xs : List A) → p c ≡ true → q c ≡ true → find p xs ≡ Some c → find q xs ≡ Some c
      → at_first p f xs ≡ at_first q f xs
  same-first [] mine yours e g = refl
  same-first (x ∷ xs) mine yours e g = same-cons x xs (p x) refl mine yours (same-first xs mine yours) e g
