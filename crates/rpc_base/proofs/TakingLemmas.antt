-- What the first element that passes is, and what a list is without it.
use Rattle.std.proofs.Common.{◌≡◌, ℕ, zero, suc, ◌+◌, ◌≤◌, Bool, true, false, cond, Some, List, []}
use Rattle.std.proofs.Common.{◌∷◌, length, refl, ap, arith}
use Rattle.std.specs.List.{find, filter, sum_by, Contains}
use Rattle.std.proofs.lemmas.List.{length-append}
use Rattle.std.proofs.lemmas.List.Sums.{sum_by-append, sum_by-cons}
use Rattle.rpc_base.specs.Tables.{without_first}
use Rattle.rpc_base.specs.Taking.{TakenOut}

-- the first that passes is taken out
first-taken-cons : {A : Type 0} (q : A → Bool) (y : A) (ys : List A) (e : A) (b : Bool) → q y ≡ b
    → cond b (Some y) (find q ys) ≡ Some e
    → (find q ys ≡ Some e → TakenOut q e ys (without_first q ys))
    → TakenOut q e (y ∷ ys) (cond b ys (y ∷ without_first q ys))
first-taken-cons q y ys e true t h ih =
    let same : y ≡ e = cc in
    record { before = []; after = ys; was = ap (λ z. z ∷ ys) same; left = refl; first = refl }
first-taken-cons q y ys e false t h ih =
    let rest : TakenOut q e ys (without_first q ys) = ih h in
    record {
      before = y ∷ rest.before;
      after = rest.after;
      was = ap (λ zs. y ∷ zs) rest.was;
      left = ap (λ zs. y ∷ zs) rest.left;
      first = rw t rest.first;
    }

pub first-taken : {A : Type 0} (q : A → Bool) (xs : List A) (e : A) → find q xs ≡ Some e
    → TakenOut q e xs (without_first q xs)
first-taken q [] e h = cc
first-taken q (y ∷ ys) e h = first-taken-cons q y ys e (q y) refl h (first-taken q ys e)

-- it passes, and the list has it
passes-cons : {A : Type 0} (q : A → Bool) (y : A) (ys : List A) (e : A) (b : Bool) → q y ≡ b
    → cond b (Some y) (find q ys) ≡ Some e → (find q ys ≡ Some e → q e ≡ true) → q e ≡ true
passes-cons q y ys e true t h ih = let same : y ≡ e = cc in rw same at t
passes-cons q y ys e false t h ih = ih h

pub find-passes : {A : Type 0} (q : A → Bool) (xs : List A) (e : A) → find q xs ≡ Some e → q e ≡ true
find-passes q [] e h = cc
find-passes q (y ∷ ys) e h = passes-cons q y ys e (q y) refl h (find-passes q ys e)

contains-cons : {A : Type 0} (q : A → Bool) (y : A) (ys : List A) (e : A) (b : Bool)
    → cond b (Some y) (find q ys) ≡ Some e → (find q ys ≡ Some e → Contains ys e)
    → Contains (y ∷ ys) e
contains-cons q y ys e true h ih = let same : y ≡ e = cc in (zero, omega arith, same)
contains-cons q y ys e false h ih = let rest : Contains ys e = ih h in (suc rest.0, omega arith, rest.2)

pub find-contains : {A : Type 0} (q : A → Bool) (xs : List A) (e : A) → find q xs ≡ Some e → Contains xs e
find-contains q [] e h = cc
find-contains q (y ∷ ys) e h = contains-cons q y ys e (q y) h (find-contains q ys e)

-- what doesn't pass stays
filter-cons : {A : Type 0} (q r : A → Bool) (y : A) (ys : List A) (b : Bool) → q y ≡ b
    → (q y ≡ true → r y ≡ false) → filter r (without_first q ys) ≡ filter r ys
    → filter r (cond b ys (y ∷ without_first q ys)) ≡ filter r (y ∷ ys)
filter-cons q r y ys true t fails ih = rw (fails t) refl
filter-cons q r y ys false t fails ih = ap (λ zs. cond (r y) (y ∷ zs) zs) ih

pub filter-without_first : {A : Type 0} (q r : A → Bool) (xs : List A)
    → ((x : A) → q x ≡ true → r x ≡ false) → filter r (without_first q xs) ≡ filter r xs
filter-without_first q r [] fails = refl
filter-without_first q r (y ∷ ys) fails =
    filter-cons q r y ys (q y) refl (fails y) (filter-without_first q r ys fails)

-- one less, also of those that pass a test
pub taken-fewer : {A : Type 0} (q : A → Bool) (e : A) (old new : List A) → TakenOut q e old new
    → length new + 1 ≡ length old
taken-fewer q e old new t =
    let was = ap length t.was in
    let left = ap length t.left in
    omega (arith, length-append t.before (e ∷ t.after), length-append t.before t.after)

pub taken-sum : {A : Type 0} (q : A → Bool) (f : A → ℕ) (e : A) (old new : List A)
    → TakenOut q e old new → sum_by f old ≡ f e + sum_by f new
taken-sum q f e old new t =
    let was = ap (λ xs. sum_by f xs) t.was in
    let left = ap (λ xs. sum_by f xs) t.left in
    omega (arith, sum_by-append f t.before (e ∷ t.after), sum_by-append f t.before t.after, sum_by-cons f e t.after)

-- the list grows no longer
shorter-cons : {A : Type 0} (y : A) (ys zs : List A) (b : Bool) → length zs ≤ length ys
    → length (cond b ys (y ∷ zs)) ≤ length (y ∷ ys)
shorter-cons y ys zs true h = omega arith
shorter-cons y ys zs false h = omega arith

pub without_first-le : {A : Type 0} (q : A → Bool) (xs : List A) → length (without_first q xs) ≤ length xs
without_first-le q [] = omega arith
without_first-le q (y ∷ ys) = shorter-cons y ys (without_first q ys) (q y) (without_first-le q ys)
