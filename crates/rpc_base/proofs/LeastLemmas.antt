-- Laws of "the element of least number among those that pass, nearest to the front".
use Rattle.std.proofs.Common.{◌≡◌, ℕ, ◌+◌, ◌≤◌, Bool, true, false, not, ◌&&◌, ◌||◌, cond, Option}
use Rattle.std.proofs.Common.{Some, None, List, [], ◌∷◌, length, refl, sym, ◌∙◌, ap, arith, eqb}
use Rattle.std.proofs.Common.{leb}
use Rattle.std.specs.Prelude.{◌==◌, ◌↔◌, ⊤, is_some, IfSome, IfNone, IsNone}
use Rattle.std.specs.List.{find, list_any, filter, Contains, AllByRecursion}
use Rattle.std.proofs.lemmas.Bool.{and_parts, eqb-true, eqb-false, leb-true, leb-false}
use Rattle.rpc_base.specs.Least.{smaller, least_number, bearer, without_bearer, least, without_least}
use Rattle.rpc_base.specs.Taking.{TakenOut}
use Rattle.rpc_base.proofs.TakingLemmas.{first-taken, find-passes, find-contains, filter-without_first, taken-fewer}

-- the lesser of two numbers that may be there
abbrev pub lesser : Option ℕ → Option ℕ → Option ℕ
lesser None m = m
lesser (Some n) m = Some (smaller n m)

module _ {A : Type 0} (passes : A → Bool) (number : A → ℕ) where
  -- a least number is there exactly where an element passes
  none-cons : (b : Bool) (m : ℕ) (ys : List A)
      → cond b (Some m) (least_number passes number ys) ≡ None
      → (least_number passes number ys ≡ None → list_any passes ys ≡ false)
      → (b || list_any passes ys) ≡ false
  none-cons true m ys h ih = cc
  none-cons false m ys h ih = ih h

  pub none-passes : (xs : List A) → least_number passes number xs ≡ None → list_any passes xs ≡ false
  none-passes [] h = refl
  none-passes (y ∷ ys) h =
      none-cons (passes y) (smaller (number y) (least_number passes number ys)) ys h
      (none-passes ys)

  one-cons : (n : ℕ) (b : Bool) (m : ℕ) (ys : List A)
      → cond b (Some m) (least_number passes number ys) ≡ Some n
      → (least_number passes number ys ≡ Some n → list_any passes ys ≡ true)
      → (b || list_any passes ys) ≡ true
  one-cons n true m ys h ih = refl
  one-cons n false m ys h ih = ih h

  pub one-passes : (n : ℕ) (xs : List A) → least_number passes number xs ≡ Some n → list_any passes xs ≡ true
  one-passes n [] h = cc
  one-passes n (y ∷ ys) h =
      one-cons n (passes y) (smaller (number y) (least_number passes number ys)) ys h
      (one-passes n ys)

  -- an element has it
  abbrev bears : ℕ → A → Bool
  bears n x = passes x && number x == n

  smaller-other : (m : ℕ) (r : Option ℕ) (n : ℕ) → smaller m r ≡ n → eqb m n ≡ false → r ≡ Some n
  smaller-other m None n h f = absurd (eqb-false m n f h)
  smaller-other m (Some k) n h f = other (leb m k) h
    where
      other : (b : Bool) → cond b m k ≡ n → Some k ≡ Some n
      other true e = absurd (eqb-false m n f e)
      other false e = ap Some e

  found-here : (c : Bool) (y : A) (r : Option A) → (c ≡ false → is_some r ≡ true) → is_some (cond c (Some y) r) ≡ true
  found-here true y r later = refl
  found-here false y r later = later refl

  found-cons : (n : ℕ) (b : Bool) (y : A) (ys : List A)
      → cond b (Some (smaller (number y) (least_number passes number ys)))
      (least_number passes number ys) ≡ Some n
      → (least_number passes number ys ≡ Some n → is_some (find (bears n) ys) ≡ true)
      → is_some (cond (b && number y == n) (Some y) (find (bears n) ys)) ≡ true
  found-cons n true y ys h ih =
      let same : smaller (number y) (least_number passes number ys) ≡ n = cc in
      found-here (number y == n) y (find (bears n) ys)
      (λ f. ih (smaller-other (number y) (least_number passes number ys) n same f))
  found-cons n false y ys h ih = ih h

  pub least-found : (n : ℕ) (xs : List A) → least_number passes number xs ≡ Some n
      → is_some (find (bears n) xs) ≡ true
  least-found n [] h = cc
  least-found n (y ∷ ys) h = found-cons n (passes y) y ys h (least-found n ys)

  held-here : (b : Bool) (y : A) (r : Option A) (c : Bool) → (is_some r ≡ true → c ≡ true)
      → is_some (cond b (Some y) r) ≡ true → (b || c) ≡ true
  held-here true y r c ih h = refl
  held-here false y r c ih h = ih h

  found-held : (n : ℕ) (xs : List A) → is_some (find (bears n) xs) ≡ true → list_any (bears n) xs ≡ true
  found-held n [] h = cc
  found-held n (y ∷ ys) h = held-here (bears n y) y (find (bears n) ys) (list_any (bears n) ys) (found-held n ys) h

  -- no element that passes has a lower number
  abbrev Above : ℕ → Option ℕ → Type 0
  Above n None = ⊤
  Above n (Some m) = n ≤ m

  abbrev NoneLower : ℕ → List A → Type 0
  NoneLower n xs = AllByRecursion (λ x. passes x ≡ true → n ≤ number x) xs

  above-parts : (n m : ℕ) (r : Option ℕ) → n ≤ smaller m r → (n ≤ m) × Above n r
  above-parts n m None h = (h, tt)
  above-parts n m (Some k) h = by (leb m k) refl h
    where
      by : (b : Bool) → leb m k ≡ b → n ≤ cond b m k → (n ≤ m) × (n ≤ k)
      by true t l = let le = leb-true m k t in (l, omega arith)
      by false t l = let lt = leb-false m k t in (omega arith, l)

  lower-cons : (n : ℕ) (y : A) (ys : List A) (b : Bool) → passes y ≡ b
      → Above n (cond b (Some (smaller (number y) (least_number passes number ys)))
      (least_number passes number ys)) → (Above n (least_number passes number ys) → NoneLower n ys)
      → NoneLower n (y ∷ ys)
  lower-cons n y ys true t h ih = let parts = above-parts n (number y) (least_number passes number ys) h in (λ _. parts.0, ih parts.1)
  lower-cons n y ys false t h ih = (λ p. absurd (false-true (sym t ∙ p)), ih h)
    where
      false-true : false ≡ true → ⊥
      false-true e = cc

  none-lower : (n : ℕ) (xs : List A) → Above n (least_number passes number xs) → NoneLower n xs
  none-lower n [] h = tt
  none-lower n (y ∷ ys) h = lower-cons n y ys (passes y) refl h (none-lower n ys)

  -- all that is known of the number
  pub number-none : (xs : List A) (r : Option ℕ) → r ≡ least_number passes number xs
      → IsNone r ↔ (list_any passes xs ≡ false)
  number-none xs None h = (λ _. none-passes xs (sym h), λ _. refl)
  number-none xs (Some n) h = let any = one-passes n xs (sym h) in (λ f. cc, λ f. cc)

  pub number-held : (xs : List A) (r : Option ℕ) → r ≡ least_number passes number xs
      → IfSome r (λ n. list_any (λ x. passes x && number x == n) xs ≡ true)
  number-held xs None h = tt
  number-held xs (Some n) h = found-held n xs (least-found n xs (sym h))

  pub number-lowest : (xs : List A) (r : Option ℕ) → r ≡ least_number passes number xs
      → IfSome r (λ n. AllByRecursion (λ x. passes x ≡ true → n ≤ number x) xs)
  number-lowest xs None h = tt
  number-lowest xs (Some n) h =
      let reached : n ≤ n = omega arith in
      let above : Above n (least_number passes number xs) = rw (← h) reached in
      none-lower n xs above

  -- all that is known of the element
  pub record LeastOut (e : A) (old new : List A) : Type 0 where
    pub own : passes e ≡ true
    pub listed : Contains old e
    pub lowest : AllByRecursion (λ x. passes x ≡ true → number e ≤ number x) old
    pub taken : TakenOut (bears (number e)) e old new

  least-out-by : (xs : List A) (e : A) (r : Option ℕ) → least_number passes number xs ≡ r
      → bearer passes number xs r ≡ Some e → LeastOut e xs (without_bearer passes number xs r)
  least-out-by xs e None t h = cc
  least-out-by xs e (Some n) t h =
      let parts = and_parts (passes e) (number e == n) (find-passes (bears n) xs e h) in
      let same : number e ≡ n = eqb-true (number e) n parts.1 in
      let reached : n ≤ n = omega arith in
      let above : Above n (least_number passes number xs) = rw t reached in
      record {
        own = parts.0;
        listed = find-contains (bears n) xs e h;
        lowest = rw same (none-lower n xs above);
        taken = rw same (first-taken (bears n) xs e h);
      }

  pub least-out : (xs : List A) (r : Option A) → r ≡ least passes number xs
      → IfSome r (λ e. LeastOut e xs (without_least passes number xs))
  least-out xs None h = tt
  least-out xs (Some e) h = least-out-by xs e (least_number passes number xs) refl (sym h)

  -- none exactly where none passes, and then the list stays
  none-by : (xs : List A) (r : Option ℕ) → least_number passes number xs ≡ r
      → IsNone (bearer passes number xs r) ↔ (list_any passes xs ≡ false)
  none-by xs None t = (λ _. none-passes xs t, λ _. refl)
  none-by xs (Some n) t =
      let found = least-found n xs t in
      let any = one-passes n xs t in
      (λ h. cc, λ h. cc)

  pub least-none : (xs : List A) → IsNone (least passes number xs) ↔ (list_any passes xs ≡ false)
  least-none xs = none-by xs (least_number passes number xs) refl

  same-by : (xs : List A) (r : Option ℕ) → least_number passes number xs ≡ r
      → bearer passes number xs r ≡ None → without_bearer passes number xs r ≡ xs
  same-by xs None t h = refl
  same-by xs (Some n) t h = let found = least-found n xs t in cc

  pub least-same : (xs : List A) (r : Option A) → r ≡ least passes number xs
      → IfNone r (without_least passes number xs ≡ xs)
  least-same xs None h = same-by xs (least_number passes number xs) refl (sym h)
  least-same xs (Some e) h = tt

  -- those that don't pass stay as they stood
  others-by : (xs : List A) (r : Option ℕ)
      → filter (λ x. not (passes x)) (without_bearer passes number xs r)
      ≡ filter (λ x. not (passes x)) xs
  others-by xs None = refl
  others-by xs (Some n) =
      filter-without_first (bears n) (λ x. not (passes x)) xs
      (λ x t. rw ((and_parts (passes x) (number x == n) t).0) refl)

  pub least-others : (xs : List A)
      → filter (λ x. not (passes x)) (without_least passes number xs)
      ≡ filter (λ x. not (passes x)) xs
  least-others xs = others-by xs (least_number passes number xs)

-- a fact of the element, if there is one, for each clause
module _ {A : Type 0} (passes : A → Bool) (number : A → ℕ) (old new : List A) where
  pub out-listed : (r : Option A) → IfSome r (λ e. LeastOut passes number e old new)
      → IfSome r (λ e. Contains old e × (passes e ≡ true))
  out-listed None h = tt
  out-listed (Some e) h = (h.listed, h.own)

  pub out-lowest : (r : Option A) → IfSome r (λ e. LeastOut passes number e old new)
      → IfSome r (λ e. AllByRecursion (λ x. passes x ≡ true → number e ≤ number x) old)
  out-lowest None h = tt
  out-lowest (Some e) h = h.lowest

  pub out-taken : (r : Option A) → IfSome r (λ e. LeastOut passes number e old new)
      → IfSome r (λ e. TakenOut (λ x. passes x && number x == number e) e old new)
  out-taken None h = tt
  out-taken (Some e) h = h.taken

  pub out-fewer : (r : Option A) → IfSome r (λ e. LeastOut passes number e old new)
      → IfSome r (λ e. length new + 1 ≡ length old)
  out-fewer None h = tt
  out-fewer (Some e) h = taken-fewer (λ x. passes x && number x == number e) e old new h.taken
