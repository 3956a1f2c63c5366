-- The element of least number of a list that was mapped, and of two lists in a row.
use Rattle.std.proofs.Common.{◌≡◌, ℕ, ◌≤◌, ◌<◌, Bool, true, false, ◌&&◌, cond, leb, Option}
use Rattle.std.proofs.Common.{Some, None, List, [], ◌∷◌, ◌++◌, refl, sym, ap, ◌∙◌, arith}
use Rattle.std.specs.Prelude.{◌==◌, is_some, map, option_map}
use Rattle.std.specs.List.{find}
use Rattle.std.proofs.lemmas.Bool.{eqb-true, leb-true, leb-false}
use Rattle.rpc_base.specs.Least.{bearer, least, least_number, smaller, without_bearer, without_least}
use Rattle.rpc_base.specs.Tables.{without_first}
use Rattle.rpc_base.proofs.LeastLemmas.{least-found, lesser}

-- of a list that was mapped
module _ {A B : Type 0} (f : A → B) (passes : B → Bool) (number : B → ℕ) where
  abbrev passing : A → Bool
  passing x = passes (f x)

  abbrev numbered : A → ℕ
  numbered x = number (f x)

  pub number-map : (xs : List A)
      → least_number passes number (map f xs) ≡ least_number passing numbered xs
  number-map [] = refl
  number-map (x ∷ xs) = rw (number-map xs) refl

  found-cons : (n : ℕ) (x : A) (xs : List A) (b : Bool)
      → find (λ y. passes y && number y == n) (map f xs)
      ≡ option_map f (find (λ y. passing y && numbered y == n) xs)
      → cond b (Some (f x)) (find (λ y. passes y && number y == n) (map f xs))
      ≡ option_map f (cond b (Some x) (find (λ y. passing y && numbered y == n) xs))
  found-cons n x xs true ih = refl
  found-cons n x xs false ih = ih

  found-map : (n : ℕ) (xs : List A) → find (λ y. passes y && number y == n) (map f xs)
      ≡ option_map f (find (λ y. passing y && numbered y == n) xs)
  found-map n [] = refl
  found-map n (x ∷ xs) = found-cons n x xs (passing x && numbered x == n) (found-map n xs)

  left-cons : (n : ℕ) (x : A) (xs : List A) (b : Bool)
      → without_first (λ y. passes y && number y == n) (map f xs)
      ≡ map f (without_first (λ y. passing y && numbered y == n) xs)
      → cond b (map f xs)
      (f x ∷ without_first (λ y. passes y && number y == n) (map f xs))
      ≡ map f (cond b xs (x ∷ without_first (λ y. passing y && numbered y == n) xs))
  left-cons n x xs true ih = refl
  left-cons n x xs false ih = ap (λ ys. f x ∷ ys) ih

  left-map : (n : ℕ) (xs : List A) → without_first (λ y. passes y && number y == n) (map f xs)
      ≡ map f (without_first (λ y. passing y && numbered y == n) xs)
  left-map n [] = refl
  left-map n (x ∷ xs) = left-cons n x xs (passing x && numbered x == n) (left-map n xs)

  least-by : (xs : List A) (o : Option ℕ) → bearer passes number (map f xs) o
      ≡ option_map f (bearer passing numbered xs o)
  least-by xs None = refl
  least-by xs (Some n) = found-map n xs

  pub least-map : (xs : List A)
      → least passes number (map f xs) ≡ option_map f (least passing numbered xs)
  least-map xs = ap (bearer passes number (map f xs)) (number-map xs)
      ∙ least-by xs (least_number passing numbered xs)

  without-by : (xs : List A) (o : Option ℕ) → without_bearer passes number (map f xs) o
      ≡ map f (without_bearer passing numbered xs o)
  without-by xs None = refl
  without-by xs (Some n) = left-map n xs

  pub without-map : (xs : List A)
      → without_least passes number (map f xs) ≡ map f (without_least passing numbered xs)
  without-map xs = ap (without_bearer passes number (map f xs)) (number-map xs)
      ∙ without-by xs (least_number passing numbered xs)

-- of two lists in a row
smaller-twice : (k n : ℕ) (o : Option ℕ)
    → smaller k (Some (smaller n o)) ≡ smaller (smaller k (Some n)) o
smaller-twice k n None = refl
smaller-twice k n (Some m) = by (leb k n) (leb n m) (leb k m) refl refl refl
  where
    by : (a b c : Bool) → leb k n ≡ a → leb n m ≡ b → leb k m ≡ c
        → smaller k (Some (cond b n m)) ≡ smaller (cond a k n) (Some m)
    by true true true s t u = rw (s, u) refl
    by true true false s t u = absurd (omega (arith, leb-true k n s, leb-true n m t, leb-false k m u))
    by true false c s t u = refl
    by false true c s t u = rw (s, t) refl
    by false false true s t u =
        absurd (omega (arith, leb-false k n s, leb-false n m t, leb-true k m u))
    by false false false s t u = rw (u, t) refl

module _ {A : Type 0} (passes : A → Bool) (number : A → ℕ) where
  abbrev bears : ℕ → A → Bool
  bears n x = passes x && number x == n

  abbrev number_in : List A → Option ℕ
  number_in xs = least_number passes number xs

  append-cons : (x : A) (xs ys : List A) (b : Bool)
      → number_in (xs ++ ys) ≡ lesser (number_in xs) (number_in ys)
      → cond b (Some (smaller (number x) (number_in (xs ++ ys)))) (number_in (xs ++ ys))
      ≡ lesser (cond b (Some (smaller (number x) (number_in xs))) (number_in xs)) (number_in ys)
  append-cons x xs ys false ih = ih
  append-cons x xs ys true ih = ap (λ o. Some (smaller (number x) o)) ih ∙ by (number_in xs)
    where
      by : (o : Option ℕ) → Some (smaller (number x) (lesser o (number_in ys)))
          ≡ Some (smaller (smaller (number x) o) (number_in ys))
      by None = refl
      by (Some n) = ap Some (smaller-twice (number x) n (number_in ys))

  pub number-append : (xs ys : List A)
      → number_in (xs ++ ys) ≡ lesser (number_in xs) (number_in ys)
  number-append [] ys = refl
  number-append (x ∷ xs) ys = append-cons x xs ys (passes x) (number-append xs ys)

  -- the first that passes stands in the first list, or in the second
  module _ (p : A → Bool) where
    pub first-here : (xs ys : List A) → is_some (find p xs) ≡ true
        → (find p (xs ++ ys) ≡ find p xs)
        × (without_first p (xs ++ ys) ≡ without_first p xs ++ ys)
    first-here [] ys found = cc
    first-here (x ∷ xs) ys found = by (p x) found (first-here xs ys)
      where
        by : (b : Bool) → is_some (cond b (Some x) (find p xs)) ≡ true
            → (is_some (find p xs) ≡ true → (find p (xs ++ ys) ≡ find p xs)
            × (without_first p (xs ++ ys) ≡ without_first p xs ++ ys))
            → (cond b (Some x) (find p (xs ++ ys)) ≡ cond b (Some x) (find p xs))
            × (cond b (xs ++ ys) (x ∷ without_first p (xs ++ ys))
            ≡ cond b xs (x ∷ without_first p xs) ++ ys)
        by true h ih = (refl, refl)
        by false h ih = ((ih h).0, ap (λ zs. x ∷ zs) (ih h).1)

    pub first-there : (xs ys : List A) → find p xs ≡ None → (find p (xs ++ ys) ≡ find p ys)
        × (without_first p (xs ++ ys) ≡ xs ++ without_first p ys)
    first-there [] ys none = (refl, refl)
    first-there (x ∷ xs) ys none = by (p x) none (first-there xs ys)
      where
        by : (b : Bool) → cond b (Some x) (find p xs) ≡ None
            → (find p xs ≡ None → (find p (xs ++ ys) ≡ find p ys)
            × (without_first p (xs ++ ys) ≡ xs ++ without_first p ys))
            → (cond b (Some x) (find p (xs ++ ys)) ≡ find p ys)
            × (cond b (xs ++ ys) (x ∷ without_first p (xs ++ ys)) ≡ x ∷ (xs ++ without_first p ys))
        by true h ih = cc
        by false h ih = ((ih h).0, ap (λ zs. x ∷ zs) (ih h).1)

  -- what has a number has none below the least
  unborne : (m : ℕ) (xs : List A) → ((n : ℕ) → number_in xs ≡ Some n → m < n)
      → find (bears m) xs ≡ None
  unborne m [] above = refl
  unborne m (x ∷ xs) above = by (passes x) (number x == m) refl refl (λ all. unborne m xs all)
    where
      rest-above : (b : Bool) → passes x ≡ b → (n : ℕ) → number_in xs ≡ Some n → m < n
      rest-above false t n e = above n (rw t e)
      rest-above true t n e =
          let here = above (smaller (number x) (Some n)) (rw (t, e) refl) in
          let most = smaller-most (leb (number x) n) refl in
          omega (arith, here, most)
        where
          smaller-most : (c : Bool) → leb (number x) n ≡ c → cond c (number x) n ≤ n
          smaller-most true u = leb-true (number x) n u
          smaller-most false u = omega arith

      here-above : passes x ≡ true → m < smaller (number x) (number_in xs)
      here-above t = above (smaller (number x) (number_in xs)) (rw t refl)

      own-above : (o : Option ℕ) → m < smaller (number x) o → m < number x
      own-above None h = h
      own-above (Some k) h = lower (leb (number x) k) refl h
        where
          lower : (c : Bool) → leb (number x) k ≡ c → m < cond c (number x) k → m < number x
          lower true u l = l
          lower false u l = omega (arith, leb-false (number x) k u, l)

      by : (a b : Bool) → passes x ≡ a → (number x == m) ≡ b
          → (((n : ℕ) → number_in xs ≡ Some n → m < n) → find (bears m) xs ≡ None)
          → cond (a && b) (Some x) (find (bears m) xs) ≡ None
      by true true t u ih =
          let same = eqb-true (number x) m u in
          absurd (omega (arith, own-above (number_in xs) (here-above t), same))
      by true false t u ih = ih (rest-above true t)
      by false b t u ih = ih (rest-above false t)

  -- the least of both stands in the first list, where its own is no greater
  pub record IsReadyFirst (xs ys : List A) : Type 0 where
    pub least_is : least passes number (xs ++ ys) ≡ least passes number xs
    pub left : without_least passes number (xs ++ ys) ≡ without_least passes number xs ++ ys

  pub record IsPacedFirst (xs ys : List A) : Type 0 where
    pub least_is : least passes number (xs ++ ys) ≡ least passes number ys
    pub left : without_least passes number (xs ++ ys) ≡ xs ++ without_least passes number ys

  ready-by : (xs ys : List A) (n : ℕ) → number_in xs ≡ Some n → number_in (xs ++ ys) ≡ Some n
      → IsReadyFirst xs ys
  ready-by xs ys n own all =
      let here = first-here (bears n) xs ys (least-found passes number n xs own) in
      record { least_is = rw (all, own) here.0; left = rw (all, own) here.1 }

  ready-none : (xs ys : List A) → number_in xs ≡ None → number_in (xs ++ ys) ≡ None
      → IsReadyFirst xs ys
  ready-none xs ys own all = record { least_is = rw (all, own) refl; left = rw (all, own) refl }

  paced-by : (xs ys : List A) (m : ℕ) → number_in ys ≡ Some m → number_in (xs ++ ys) ≡ Some m
      → ((n : ℕ) → number_in xs ≡ Some n → m < n) → IsPacedFirst xs ys
  paced-by xs ys m own all above =
      let there = first-there (bears m) xs ys (unborne m xs above) in
      record { least_is = rw (all, own) there.0; left = rw (all, own) there.1 }

  pub ready-alone : (xs ys : List A) (o : Option ℕ) → number_in xs ≡ o → number_in ys ≡ None
      → IsReadyFirst xs ys
  ready-alone xs ys None own none = ready-none xs ys own (number-append xs ys ∙ rw (own, none) refl)
  ready-alone xs ys (Some n) own none =
      ready-by xs ys n own (number-append xs ys ∙ rw (own, none) refl)

  pub ready-least : (xs ys : List A) (n m : ℕ) → number_in xs ≡ Some n → number_in ys ≡ Some m
      → leb n m ≡ true → IsReadyFirst xs ys
  ready-least xs ys n m own other t =
      ready-by xs ys n own (number-append xs ys ∙ rw (own, other, t) refl)

  pub paced-alone : (xs ys : List A) (m : ℕ) → number_in xs ≡ None → number_in ys ≡ Some m
      → IsPacedFirst xs ys
  paced-alone xs ys m none own =
      paced-by xs ys m own (number-append xs ys ∙ rw (none, own) refl) (λ n e. none-some n e)
    where
      none-some : (n : ℕ) → number_in xs ≡ Some n → m < n
      none-some n e = let no = sym none ∙ e in cc

  pub paced-least : (xs ys : List A) (n m : ℕ) → number_in xs ≡ Some n → number_in ys ≡ Some m
      → leb n m ≡ false → IsPacedFirst xs ys
  paced-least xs ys n m other own t =
      paced-by xs ys m own (number-append xs ys ∙ rw (other, own, t) refl) (λ k e. below k e)
    where
      below : (k : ℕ) → number_in xs ≡ Some k → m < k
      below k e =
          let is : Some n ≡ Some k = sym other ∙ e in
          let same : n ≡ k = cc in
          let less = leb-false n m t in
          omega (arith, less, same)
