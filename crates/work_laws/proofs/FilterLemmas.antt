-- Filters of lists, what is counted of them, and lists without one element.
use Rattle.std.proofs.Common.{◌≡◌, ℕ, zero, suc, ◌+◌, ◌≤◌, Bool, true, false, not, ◌&&◌, ◌||◌, cond}
use Rattle.std.proofs.Common.{Some, List, [], ◌∷◌, map, slice_get, refl, ap, ◌∙◌, arith}
use Rattle.std.specs.Prelude.{count_by}
use Rattle.std.specs.List.{filter, list_any, remove, AllByRecursion}
use Rattle.rpc_base.specs.Tables.{without_first}
use Rattle.rpc_base.proofs.FirstLemmas.{counted-cons}

module _ {A : Type 0} where
  pub filter-same : (p q : A → Bool) → ((x : A) → p x ≡ q x) → (xs : List A) → filter p xs ≡ filter q xs
  filter-same p q e [] = refl
  filter-same p q e (x ∷ xs) = rw (e x) (ap (λ ys. cond (q x) (x ∷ ys) ys) (filter-same p q e xs))

  pub keep-all : (xs : List A) → filter (λ x. true) xs ≡ xs
  keep-all [] = refl
  keep-all (x ∷ xs) = ap (λ ys. x ∷ ys) (keep-all xs)

  twice-by : (p q : A → Bool) (x : A) (ys zs : List A) (b : Bool) → filter p ys ≡ zs
      → filter p (cond b (x ∷ ys) ys) ≡ cond (b && p x) (x ∷ zs) zs
  twice-by p q x ys zs true e = ap (λ ws. cond (p x) (x ∷ ws) ws) e
  twice-by p q x ys zs false e = e

  pub filter-twice : (p q : A → Bool) (xs : List A) → filter p (filter q xs) ≡ filter (λ x. q x && p x) xs
  filter-twice p q [] = refl
  filter-twice p q (x ∷ xs) = twice-by p q x (filter q xs) _ (q x) (filter-twice p q xs)

  pub filter-none : (p : A → Bool) → ((x : A) → p x ≡ false) → (xs : List A) → filter p xs ≡ []
  filter-none p fails [] = refl
  filter-none p fails (x ∷ xs) = rw (fails x) (filter-none p fails xs)

  pub filter-all : (p : A → Bool) (xs : List A) → AllByRecursion (λ x. p x ≡ true) xs → filter p xs ≡ xs
  filter-all p [] h = refl
  filter-all p (x ∷ xs) h = rw h.0 (ap (λ ys. x ∷ ys) (filter-all p xs h.1))

  none-by : (q : A → Bool) (x : A) (xs : List A) (b : Bool) → q x ≡ b → count_by q (x ∷ xs) ≡ 0
      → (count_by q xs ≡ 0 → filter (λ y. not (q y)) xs ≡ xs)
      → cond (not b) (x ∷ filter (λ y. not (q y)) xs) (filter (λ y. not (q y)) xs) ≡ x ∷ xs
  none-by q x xs true e none ih = absurd (omega (arith, counted-cons q x xs true e, none))
  none-by q x xs false e none ih = ap (λ ys. x ∷ ys) (ih (omega (arith, counted-cons q x xs false e, none)))

  -- where none passes, all stay
  pub none-filtered : (q : A → Bool) (xs : List A) → count_by q xs ≡ 0 → filter (λ x. not (q x)) xs ≡ xs
  none-filtered q [] none = refl
  none-filtered q (x ∷ xs) none = none-by q x xs (q x) refl none (none-filtered q xs)

  first-by : (q : A → Bool) (x : A) (xs : List A) (b : Bool) → q x ≡ b → count_by q (x ∷ xs) ≤ 1
      → (count_by q xs ≤ 1 → without_first q xs ≡ filter (λ y. not (q y)) xs)
      → cond b xs (x ∷ without_first q xs)
      ≡ cond (not b) (x ∷ filter (λ y. not (q y)) xs) (filter (λ y. not (q y)) xs)
  first-by q x xs true e few ih =
      let none : filter (λ y. not (q y)) xs ≡ xs =
      none-filtered q xs (omega (arith, counted-cons q x xs true e, few)) in
      rw none refl
  first-by q x xs false e few ih = ap (λ ys. x ∷ ys) (ih (omega (arith, counted-cons q x xs false e, few)))

  -- where one passes at most, to take out the first is to take out all
  pub first-filtered : (q : A → Bool) (xs : List A) → count_by q xs ≤ 1
      → without_first q xs ≡ filter (λ x. not (q x)) xs
  first-filtered q [] few = refl
  first-filtered q (x ∷ xs) few = first-by q x xs (q x) refl few (first-filtered q xs)

  pub at-counted : (q : A → Bool) (xs : List A) (j : ℕ) (x : A) → slice_get xs j ≡ Some x
      → q x ≡ true → 1 ≤ count_by q xs
  at-counted q [] j x at e = cc
  at-counted q (y ∷ ys) zero x at e =
      let same : y ≡ x = cc in
      omega (arith, counted-cons q y ys true (ap q same ∙ e))
  at-counted q (y ∷ ys) (suc j) x at e =
      omega (arith, counted-cons q y ys (q y) refl, at-counted q ys j x at e)

  removed-by : (q : A → Bool) (y : A) (ys : List A) (j : ℕ) (b : Bool) → q y ≡ b
      → count_by q (y ∷ ys) ≤ 1 → 1 ≤ count_by q ys
      → (count_by q ys ≤ 1 → remove ys j ≡ filter (λ z. not (q z)) ys)
      → y ∷ remove ys j ≡ cond (not b) (y ∷ filter (λ z. not (q z)) ys) (filter (λ z. not (q z)) ys)
  removed-by q y ys j true e few some ih = absurd (omega (arith, counted-cons q y ys true e, few, some))
  removed-by q y ys j false e few some ih =
      ap (λ zs. y ∷ zs) (ih (omega (arith, counted-cons q y ys false e, few)))

  -- the one that passes is taken out by its place
  pub removed-filtered : (q : A → Bool) (xs : List A) (j : ℕ) (x : A) → count_by q xs ≤ 1
      → slice_get xs j ≡ Some x → q x ≡ true → remove xs j ≡ filter (λ y. not (q y)) xs
  removed-filtered q [] j x few at e = cc
  removed-filtered q (y ∷ ys) zero x few at e =
      let same : y ≡ x = cc in
      let passes : q y ≡ true = ap q same ∙ e in
      let none : filter (λ z. not (q z)) ys ≡ ys =
      none-filtered q ys (omega (arith, counted-cons q y ys true passes, few)) in
      rw (passes, none) refl
  removed-filtered q (y ∷ ys) (suc j) x few at e =
      removed-by q y ys j (q y) refl few (at-counted q ys j x at e)
      (λ less. removed-filtered q ys j x less at e)

  fewer-by : (q p : A → Bool) (x : A) (xs : List A) (b : Bool)
      → count_by q (filter p xs) ≤ count_by q xs
      → count_by q (cond b (x ∷ filter p xs) (filter p xs)) ≤ count_by q (x ∷ xs)
  fewer-by q p x xs true ih =
      omega (arith, counted-cons q x (filter p xs) (q x) refl, counted-cons q x xs (q x) refl, ih)
  fewer-by q p x xs false ih = omega (arith, counted-cons q x xs (q x) refl, ih)

  pub filter-fewer : (q p : A → Bool) (xs : List A) → count_by q (filter p xs) ≤ count_by q xs
  filter-fewer q p [] = omega arith
  filter-fewer q p (x ∷ xs) = fewer-by q p x xs (p x) (filter-fewer q p xs)

  unpassed-by : (q p : A → Bool) (x : A) (xs : List A) (b c : Bool) → p x ≡ b → q x ≡ c
      → (q x ≡ true → p x ≡ false) → count_by q (filter p xs) ≡ 0
      → count_by q (cond b (x ∷ filter p xs) (filter p xs)) ≡ 0
  unpassed-by q p x xs true true e h fails ih = let no = fails h in cc
  unpassed-by q p x xs true false e h fails ih = omega (arith, counted-cons q x (filter p xs) false h, ih)
  unpassed-by q p x xs false c e h fails ih = ih

  -- none is counted that doesn't pass
  pub unpassed-counted : (q p : A → Bool) (xs : List A) → ((x : A) → q x ≡ true → p x ≡ false)
      → count_by q (filter p xs) ≡ 0
  unpassed-counted q p [] fails = refl
  unpassed-counted q p (x ∷ xs) fails =
      unpassed-by q p x xs (p x) (q x) refl refl (fails x) (unpassed-counted q p xs fails)

  -- what is counted is what was there and what was taken out
  pub remove-counted : (q : A → Bool) (xs : List A) (j : ℕ) (x : A) → slice_get xs j ≡ Some x
      → count_by q (remove xs j) + cond (q x) 1 0 ≡ count_by q xs
  remove-counted q [] j x at = cc
  remove-counted q (y ∷ ys) zero x at =
      let same : y ≡ x = cc in
      let one : cond {A = ℕ} (q y) 1 0 ≡ cond (q x) 1 0 = ap (λ z. cond {A = ℕ} (q z) 1 0) same in
      omega (arith, counted-cons q y ys (q y) refl, one)
  remove-counted q (y ∷ ys) (suc j) x at =
      omega (
        arith,
        counted-cons q y ys (q y) refl,
        counted-cons q y (remove ys j) (q y) refl,
        remove-counted q ys j x at,
      )

  -- where none passes, none is taken out
  stay-by : (q : A → Bool) (x : A) (xs : List A) (b : Bool) → (b || list_any q xs) ≡ false
      → (list_any q xs ≡ false → without_first q xs ≡ xs) → cond b xs (x ∷ without_first q xs) ≡ x ∷ xs
  stay-by q x xs true none ih = cc
  stay-by q x xs false none ih = ap (λ ys. x ∷ ys) (ih none)

  pub none-first : (q : A → Bool) (xs : List A) → list_any q xs ≡ false → without_first q xs ≡ xs
  none-first q [] none = refl
  none-first q (x ∷ xs) none = stay-by q x xs (q x) none (none-first q xs)

  -- the first that passes one test passes another
  out-by : (p q : A → Bool) (x : A) (xs : List A) (b c : Bool) → q x ≡ b → p x ≡ c
      → (q x ≡ true → p x ≡ true)
      → filter p (without_first q xs) ≡ without_first q (filter p xs)
      → filter p (cond b xs (x ∷ without_first q xs)) ≡ without_first q (cond c (x ∷ filter p xs) (filter p xs))
  out-by p q x xs true true e h implies ih = rw e refl
  out-by p q x xs true false e h implies ih = let yes = implies e in cc
  out-by p q x xs false true e h implies ih = rw (e, h) (ap (λ ys. x ∷ ys) ih)
  out-by p q x xs false false e h implies ih = rw h ih

  pub filter-out : (p q : A → Bool) → ((x : A) → q x ≡ true → p x ≡ true) → (xs : List A)
      → filter p (without_first q xs) ≡ without_first q (filter p xs)
  filter-out p q implies [] = refl
  filter-out p q implies (x ∷ xs) =
      out-by p q x xs (q x) (p x) refl refl (implies x) (filter-out p q implies xs)

  -- whether one passes both tests
  any-by : (p q : A → Bool) (x : A) (xs : List A) (b : Bool)
      → list_any (λ y. p y && q y) xs ≡ list_any q (filter p xs)
      → ((b && q x) || list_any (λ y. p y && q y) xs) ≡ list_any q (cond b (x ∷ filter p xs) (filter p xs))
  any-by p q x xs true ih = ap (λ (c : Bool). q x || c) ih
  any-by p q x xs false ih = ih

  pub any-filtered : (p q : A → Bool) (xs : List A)
      → list_any (λ x. p x && q x) xs ≡ list_any q (filter p xs)
  any-filtered p q [] = refl
  any-filtered p q (x ∷ xs) = any-by p q x xs (p x) (any-filtered p q xs)

  -- a claim of all that are counted
  pub all-counted : (test : A → A → Bool) → ((x : A) → test x x ≡ true) → (P : A → Type 0)
      → (xs : List A) → ((x : A) → 1 ≤ count_by (test x) xs → P x) → AllByRecursion P xs
  all-counted test own P [] h = tt
  all-counted test own P (x ∷ xs) h = (
    h x (omega (arith, counted-cons (test x) x xs true (own x))),
    all-counted test own P xs
        (λ y some. h y (omega (arith, counted-cons (test y) x xs (test y x) refl, some))),
  )

module _ {A B : Type 0} (f : A → B) where
  pub map-counted : (q : B → Bool) (xs : List A) → count_by q (map f xs) ≡ count_by (λ x. q (f x)) xs
  map-counted q [] = refl
  map-counted q (x ∷ xs) =
      omega (
        arith,
        counted-cons q (f x) (map f xs) (q (f x)) refl,
        counted-cons (λ y. q (f y)) x xs (q (f x)) refl,
        map-counted q xs,
      )

  pub map-any : (q : B → Bool) (xs : List A) → list_any q (map f xs) ≡ list_any (λ x. q (f x)) xs
  map-any q [] = refl
  map-any q (x ∷ xs) = ap (λ (c : Bool). q (f x) || c) (map-any q xs)

  map-by : (p : B → Bool) (x : A) (xs : List A) (b : Bool)
      → map f (filter (λ y. p (f y)) xs) ≡ filter p (map f xs)
      → map f (cond b (x ∷ filter (λ y. p (f y)) xs) (filter (λ y. p (f y)) xs))
      ≡ cond b (f x ∷ filter p (map f xs)) (filter p (map f xs))
  map-by p x xs true ih = ap (λ ys. f x ∷ ys) ih
  map-by p x xs false ih = ih

  pub map-filtered : (p : B → Bool) (xs : List A) → map f (filter (λ x. p (f x)) xs) ≡ filter p (map f xs)
  map-filtered p [] = refl
  map-filtered p (x ∷ xs) = map-by p x xs (p (f x)) (map-filtered p xs)

  pub map-removed : (xs : List A) (j : ℕ) → map f (remove xs j) ≡ remove (map f xs) j
  map-removed [] zero = refl
  map-removed [] (suc j) = refl
  map-removed (x ∷ xs) zero = refl
  map-removed (x ∷ xs) (suc j) = ap (λ ys. f x ∷ ys) (map-removed xs j)

  first-map-by : (q : B → Bool) (x : A) (xs : List A) (b : Bool)
      → map f (without_first (λ y. q (f y)) xs) ≡ without_first q (map f xs)
      → map f (cond b xs (x ∷ without_first (λ y. q (f y)) xs))
      ≡ cond b (map f xs) (f x ∷ without_first q (map f xs))
  first-map-by q x xs true ih = refl
  first-map-by q x xs false ih = ap (λ ys. f x ∷ ys) ih

  pub map-first : (q : B → Bool) (xs : List A)
      → map f (without_first (λ x. q (f x)) xs) ≡ without_first q (map f xs)
  map-first q [] = refl
  map-first q (x ∷ xs) = first-map-by q x xs (q (f x)) (map-first q xs)
