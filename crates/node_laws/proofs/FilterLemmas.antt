-- Those that pass a test, where the first that passes another changes, leaves or is added.
use Rattle.std.proofs.Common.{◌≡◌, ℕ, ◌≤◌, Bool, true, false, cond, Some, List, [], ◌∷◌, ◌++◌, refl}
use Rattle.std.proofs.Common.{sym, ap, ◌∙◌, arith}
use Rattle.std.specs.Prelude.{count_by, sum_by, map}
use Rattle.std.specs.List.{filter, find}
use Rattle.std.proofs.lemmas.List.Sums.{sum_by-cons}
use Rattle.rpc_base.specs.Tables.{at_first, without_first}
use Rattle.rpc_base.proofs.FirstLemmas.{counted-cons}
use Rattle.rpc_base.proofs.TakingLemmas.{find-passes}

module _ {A : Type 0} (p : A → Bool) where
  -- one more at the end
  push-by : (y : A) (xs ys : List A) (b : Bool) → filter p xs ++ ys ≡ filter p (xs ++ ys)
      → cond b (y ∷ filter p xs) (filter p xs) ++ ys
      ≡ cond b (y ∷ filter p (xs ++ ys)) (filter p (xs ++ ys))
  push-by y xs ys true e = ap (λ zs. y ∷ zs) e
  push-by y xs ys false e = e

  kept-tail : (xs : List A) (y : A) → p y ≡ true → filter p xs ++ y ∷ [] ≡ filter p (xs ++ y ∷ [])
  kept-tail [] y t = rw t refl
  kept-tail (x ∷ xs) y t = push-by x xs (y ∷ []) (p x) (kept-tail xs y t)

  pub filter-push : (xs : List A) (y : A) → p y ≡ true → filter p (xs ++ y ∷ []) ≡ filter p xs ++ y ∷ []
  filter-push xs y t = sym (kept-tail xs y t)

  skip-by : (y : A) (xs ys : List A) (b : Bool) → filter p (xs ++ ys) ≡ filter p xs
      → cond b (y ∷ filter p (xs ++ ys)) (filter p (xs ++ ys))
      ≡ cond b (y ∷ filter p xs) (filter p xs)
  skip-by y xs ys true e = ap (λ zs. y ∷ zs) e
  skip-by y xs ys false e = e

  pub filter-skip : (xs : List A) (y : A) → p y ≡ false → filter p (xs ++ y ∷ []) ≡ filter p xs
  filter-skip [] y t = rw t refl
  filter-skip (x ∷ xs) y t = skip-by x xs (y ∷ []) (p x) (filter-skip xs y t)

  -- a sum over those that pass
  sum-by : (g : A → ℕ) (y : A) (ys : List A) (b : Bool) → p y ≡ b
      → sum_by (λ x. cond (p x) (g x) 0) ys ≡ sum_by g (filter p ys)
      → sum_by (λ x. cond (p x) (g x) 0) (y ∷ ys)
      ≡ sum_by g (cond b (y ∷ filter p ys) (filter p ys))
  sum-by g y ys true t ih =
      let here : cond (p y) (g y) 0 ≡ g y = rw t refl in
      omega (arith, ih, here, sum_by-cons (λ x. cond (p x) (g x) 0) y ys, sum_by-cons g y (filter p ys))
  sum-by g y ys false t ih =
      let here : cond (p y) (g y) 0 ≡ 0 = rw t refl in
      omega (arith, ih, here, sum_by-cons (λ x. cond (p x) (g x) 0) y ys)

  pub sum-filter : (g : A → ℕ) (xs : List A) → sum_by (λ x. cond (p x) (g x) 0) xs ≡ sum_by g (filter p xs)
  sum-filter g [] = refl
  sum-filter g (y ∷ ys) = sum-by g y ys (p y) refl (sum-filter g ys)

module _ {A : Type 0} (p q : A → Bool) where
  fewer-by : (y : A) (ys : List A) (b : Bool) → count_by q (filter p ys) ≤ count_by q ys
      → count_by q (cond b (y ∷ filter p ys) (filter p ys)) ≤ count_by q (y ∷ ys)
  fewer-by y ys true h = omega (arith, h, counted-cons q y (filter p ys) (q y) refl, counted-cons q y ys (q y) refl)
  fewer-by y ys false h = omega (arith, h, counted-cons q y ys (q y) refl)

  filter-fewer : (xs : List A) → count_by q (filter p xs) ≤ count_by q xs
  filter-fewer [] = omega arith
  filter-fewer (y ∷ ys) = fewer-by y ys (p y) (filter-fewer ys)

  some-by : (y b : A) (ys : List A) (t : Bool) → q y ≡ t → (find q ys ≡ Some b → 1 ≤ count_by q ys)
      → cond t (Some y) (find q ys) ≡ Some b → 1 ≤ count_by q (y ∷ ys)
  some-by y b ys true t ih e = omega (arith, counted-cons q y ys true t)
  some-by y b ys false t ih e = omega (arith, ih e, counted-cons q y ys false t)

  found-some : (xs : List A) (b : A) → find q xs ≡ Some b → 1 ≤ count_by q xs
  found-some [] b e = cc
  found-some (y ∷ ys) b e = some-by y b ys (q y) refl (found-some ys b) e

  here-by : (y b : A) (ys zs : List A) (t : Bool) → q y ≡ t
      → (find q zs ≡ Some b → find q ys ≡ Some b) → cond t (Some y) (find q zs) ≡ Some b
      → cond t (Some y) (find q ys) ≡ Some b
  here-by y b ys zs true t ih e = e
  here-by y b ys zs false t ih e = ih e

  there-by : (y b : A) (ys : List A) (t : Bool) → q y ≡ t → count_by q (y ∷ ys) ≤ 1
      → 1 ≤ count_by q (filter p ys) → find q ys ≡ Some b → cond t (Some y) (find q ys) ≡ Some b
  there-by y b ys true t few some e = absurd (omega (arith, few, some, filter-fewer ys, counted-cons q y ys true t))
  there-by y b ys false t few some e = e

  whole-by : (y b : A) (ys : List A) (t : Bool) → p y ≡ t → count_by q (y ∷ ys) ≤ 1
      → (find q (filter p ys) ≡ Some b → find q ys ≡ Some b)
      → find q (cond t (y ∷ filter p ys) (filter p ys)) ≡ Some b → find q (y ∷ ys) ≡ Some b
  whole-by y b ys true t few ih e = here-by y b ys (filter p ys) (q y) refl ih e
  whole-by y b ys false t few ih e = there-by y b ys (q y) refl few (found-some (filter p ys) b e) (ih e)

  -- where at most one passes, it is found among all as among some
  pub found-whole : (xs : List A) (b : A) → count_by q xs ≤ 1 → find q (filter p xs) ≡ Some b → find q xs ≡ Some b
  found-whole [] b few e = e
  found-whole (y ∷ ys) b few e =
      whole-by y b ys (p y) refl few (λ h. found-whole ys b (omega (arith, few, counted-cons q y ys (q y) refl)) h) e

  -- a test that implies another finds the same among those that pass the other
  same-by : (y : A) (ys : List A) (t : Bool) → p y ≡ t → (q y ≡ true → p y ≡ true)
      → find q (filter p ys) ≡ find q ys
      → find q (cond t (y ∷ filter p ys) (filter p ys)) ≡ find q (y ∷ ys)
  same-by y ys true t h ih = ap (λ o. cond (q y) (Some y) o) ih
  same-by y ys false t h ih = rw (none (q y) refl) ih
    where
      none : (b : Bool) → q y ≡ b → q y ≡ false
      none true e = let both = h e in cc
      none false e = e

  pub find-filter : (xs : List A) → ((x : A) → q x ≡ true → p x ≡ true) → find q (filter p xs) ≡ find q xs
  find-filter [] h = refl
  find-filter (y ∷ ys) h = same-by y ys (p y) refl (h y) (find-filter ys h)

  module _ (g : A → A) (b : A) where
    -- the first that passes changes, and passes the test before and after
    own-skip : (y : A) (ys : List A) (t : Bool) → q y ≡ false
        → filter p (at_first q g ys) ≡ at_first q g (filter p ys)
        → cond t (y ∷ filter p (at_first q g ys)) (filter p (at_first q g ys))
        ≡ at_first q g (cond t (y ∷ filter p ys) (filter p ys))
    own-skip y ys true n ih = rw n (ap (λ zs. y ∷ zs) ih)
    own-skip y ys false n ih = ih

    own-by : (y : A) (ys : List A) (t : Bool) → q y ≡ t → p b ≡ true → p (g b) ≡ true
        → (find q ys ≡ Some b → filter p (at_first q g ys) ≡ at_first q g (filter p ys))
        → cond t (Some y) (find q ys) ≡ Some b
        → filter p (cond t (g y ∷ ys) (y ∷ at_first q g ys)) ≡ at_first q g (filter p (y ∷ ys))
    own-by y ys true t old new ih e =
        let same : b ≡ y = cc in
        let before : p y ≡ true = ap p (sym same) ∙ old in
        let after : p (g y) ≡ true = ap (λ z. p (g z)) (sym same) ∙ new in
        rw (before, after, t) refl
    own-by y ys false t old new ih e = own-skip y ys (p y) t (ih e)

    pub filter-own : (xs : List A) → p b ≡ true → p (g b) ≡ true → find q xs ≡ Some b
        → filter p (at_first q g xs) ≡ at_first q g (filter p xs)
    filter-own [] old new e = refl
    filter-own (y ∷ ys) old new e = own-by y ys (q y) refl old new (filter-own ys old new) e

    -- and fails it before and after
    other-skip : (y : A) (xs ys : List A) (t : Bool) → xs ≡ ys → cond t (y ∷ xs) xs ≡ cond t (y ∷ ys) ys
    other-skip y xs ys true e = ap (λ zs. y ∷ zs) e
    other-skip y xs ys false e = e

    other-by : (y : A) (ys : List A) (t : Bool) → p b ≡ false → p (g b) ≡ false
        → (find q ys ≡ Some b → filter p (at_first q g ys) ≡ filter p ys)
        → cond t (Some y) (find q ys) ≡ Some b
        → filter p (cond t (g y ∷ ys) (y ∷ at_first q g ys)) ≡ filter p (y ∷ ys)
    other-by y ys true old new ih e =
        let same : b ≡ y = cc in
        let before : p y ≡ false = ap p (sym same) ∙ old in
        let after : p (g y) ≡ false = ap (λ z. p (g z)) (sym same) ∙ new in
        rw (before, after) refl
    other-by y ys false old new ih e = other-skip y (filter p (at_first q g ys)) (filter p ys) (p y) (ih e)

    pub filter-other : (xs : List A) → p b ≡ false → p (g b) ≡ false → find q xs ≡ Some b
        → filter p (at_first q g xs) ≡ filter p xs
    filter-other [] old new e = refl
    filter-other (y ∷ ys) old new e = other-by y ys (q y) old new (filter-other ys old new) e

  module _ (b : A) where
    -- the first that passes leaves
    out-skip : (y : A) (ys : List A) (t : Bool) → q y ≡ false
        → filter p (without_first q ys) ≡ without_first q (filter p ys)
        → cond t (y ∷ filter p (without_first q ys)) (filter p (without_first q ys))
        ≡ without_first q (cond t (y ∷ filter p ys) (filter p ys))
    out-skip y ys true n ih = rw n (ap (λ zs. y ∷ zs) ih)
    out-skip y ys false n ih = ih

    out-by : (y : A) (ys : List A) (t : Bool) → q y ≡ t → p b ≡ true
        → (find q ys ≡ Some b → filter p (without_first q ys) ≡ without_first q (filter p ys))
        → cond t (Some y) (find q ys) ≡ Some b
        → filter p (cond t ys (y ∷ without_first q ys)) ≡ without_first q (filter p (y ∷ ys))
    out-by y ys true t old ih e =
        let same : b ≡ y = cc in let before : p y ≡ true = ap p (sym same) ∙ old in rw (before, t) refl
    out-by y ys false t old ih e = out-skip y ys (p y) t (ih e)

    pub filter-out : (xs : List A) → p b ≡ true → find q xs ≡ Some b
        → filter p (without_first q xs) ≡ without_first q (filter p xs)
    filter-out [] old e = refl
    filter-out (y ∷ ys) old e = out-by y ys (q y) refl old (filter-out ys old) e

    stay-skip : (y : A) (xs ys : List A) (t : Bool) → xs ≡ ys → cond t (y ∷ xs) xs ≡ cond t (y ∷ ys) ys
    stay-skip y xs ys true e = ap (λ zs. y ∷ zs) e
    stay-skip y xs ys false e = e

    stay-by : (y : A) (ys : List A) (t : Bool) → p b ≡ false
        → (find q ys ≡ Some b → filter p (without_first q ys) ≡ filter p ys)
        → cond t (Some y) (find q ys) ≡ Some b
        → filter p (cond t ys (y ∷ without_first q ys)) ≡ filter p (y ∷ ys)
    stay-by y ys true old ih e =
        let same : b ≡ y = cc in let before : p y ≡ false = ap p (sym same) ∙ old in rw before refl
    stay-by y ys false old ih e = stay-skip y (filter p (without_first q ys)) (filter p ys) (p y) (ih e)

    pub filter-stay : (xs : List A) → p b ≡ false → find q xs ≡ Some b → filter p (without_first q xs) ≡ filter p xs
    filter-stay [] old e = refl
    filter-stay (y ∷ ys) old e = stay-by y ys (q y) old (filter-stay ys old) e

-- what is found in the image
module _ {A B : Type 0} (v : A → B) (p : A → Bool) (q : B → Bool) (same : (x : A) → q (v x) ≡ p x) where
  image-by : (y x : A) (ys : List A) (t : Bool)
      → (find p ys ≡ Some x → find q (map v ys) ≡ Some (v x)) → cond t (Some y) (find p ys) ≡ Some x
      → cond t (Some (v y)) (find q (map v ys)) ≡ Some (v x)
  image-by y x ys true ih e = let equal : y ≡ x = cc in ap (λ z. Some (v z)) equal
  image-by y x ys false ih e = ih e

  pub image-found : (xs : List A) (x : A) → find p xs ≡ Some x → find q (map v xs) ≡ Some (v x)
  image-found [] x e = cc
  image-found (y ∷ ys) x e = rw (same y) (image-by y x ys (p y) (image-found ys x) e)

-- two tests that find the same element change the same one
module _ {A : Type 0} (p q : A → Bool) (f : A → A) (x : A) where
  both-by : (y : A) (ys : List A) (b c : Bool) → p y ≡ b → q y ≡ c → p x ≡ true → q x ≡ true
      → (find p ys ≡ Some x → find q ys ≡ Some x → at_first p f ys ≡ at_first q f ys)
      → cond b (Some y) (find p ys) ≡ Some x → cond c (Some y) (find q ys) ≡ Some x
      → cond b (f y ∷ ys) (y ∷ at_first p f ys) ≡ cond c (f y ∷ ys) (y ∷ at_first q f ys)
  both-by y ys true true s t old new ih e h = refl
  both-by y ys true false s t old new ih e h =
      let same : y ≡ x = cc in let passes : q y ≡ true = ap q same ∙ new in cc
  both-by y ys false true s t old new ih e h =
      let same : y ≡ x = cc in let passes : p y ≡ true = ap p same ∙ old in cc
  both-by y ys false false s t old new ih e h = ap (λ zs. y ∷ zs) (ih e h)

  pub changed-same : (xs : List A) → find p xs ≡ Some x → find q xs ≡ Some x → at_first p f xs ≡ at_first q f xs
  changed-same [] e h = refl
  changed-same (y ∷ ys) e h =
      both-by y ys (p y) (q y) refl refl (find-passes p (y ∷ ys) x e) (find-passes q (y ∷ ys) x h)
      (changed-same ys) e h
