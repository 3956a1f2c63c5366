-- Changing the first element that passes, by the place at which it stands.
use Rattle.std.proofs.Common.{◌≡◌, ℕ, suc, ◌+◌, ◌<◌, ◌≤◌, Bool, true, false, not, ◌||◌, cond}
use Rattle.std.proofs.Common.{Some, None, List, [], ◌∷◌, length, get_or}
use Rattle.std.proofs.Common.{sym, ap, ◌∙◌, refl, arith}
use Rattle.std.specs.List.{slice_get, position, position_or_len, remove, find, list_any, slice_set}
use Rattle.std.proofs.lemmas.List.Folds.{find_at}
use Rattle.std.proofs.Math.Numerals.{one-add}
use Rattle.rpc_base.specs.Tables.{at_first, without_first}
use Rattle.rpc_base.proofs.BasicLemmas.{found-at, found-below, found-none}
use Rattle.std.proofs.lemmas.List.Sums.{passes_at_first}
use Rattle.std.proofs.lemmas.Option.{slice_get-get_or}

at_first-cons : {A : Type 0} (p : A → Bool) (f : A → A) (y : A) (ys : List A) (i : ℕ) (x : A)
    (b : Bool) → ((j : ℕ) → j ≡ position_or_len p ys → slice_get ys j ≡ Some x
    → at_first p f ys ≡ slice_set ys j (f x)) → i ≡ cond (not b) (1 + position_or_len p ys) 0
    → slice_get (y ∷ ys) i ≡ Some x
    → cond b (f y ∷ ys) (y ∷ at_first p f ys) ≡ slice_set (y ∷ ys) i (f x)
at_first-cons p f y ys i x true ih e h = let g = rw e at h in rw e (cc)
at_first-cons p f y ys i x false ih e h =
    let k : i ≡ suc (position_or_len p ys) = e ∙ one-add _ in
    let g = rw k at h in
    rw k (ap (λ zs. y ∷ zs) (ih _ refl g))

at_first-at : {A : Type 0} (p : A → Bool) (f : A → A) (xs : List A) (i : ℕ) (x : A)
    → i ≡ position_or_len p xs → slice_get xs i ≡ Some x → at_first p f xs ≡ slice_set xs i (f x)
at_first-at p f [] i x e h = cc
at_first-at p f (y ∷ ys) i x e h = at_first-cons p f y ys i x (p y) (λ j. at_first-at p f ys j x) e h

without_first-cons : {A : Type 0} (p : A → Bool) (y : A) (ys : List A) (i : ℕ) (b : Bool)
    → ((j : ℕ) → j ≡ position_or_len p ys → j < length ys → without_first p ys ≡ remove ys j)
    → i ≡ cond (not b) (1 + position_or_len p ys) 0 → i < length (y ∷ ys)
    → cond b ys (y ∷ without_first p ys) ≡ remove (y ∷ ys) i
without_first-cons p y ys i true ih e h = rw e refl
without_first-cons p y ys i false ih e h =
    let k : i ≡ suc (position_or_len p ys) = e ∙ one-add _ in
    let g : position_or_len p ys < length ys = omega arith in
    rw k (ap (λ zs. y ∷ zs) (ih _ refl g))

without_first-at : {A : Type 0} (p : A → Bool) (xs : List A) (i : ℕ) → i ≡ position_or_len p xs
    → i < length xs → without_first p xs ≡ remove xs i
without_first-at p [] i e h = absurd (omega arith)
without_first-at p (y ∷ ys) i e h = without_first-cons p y ys i (p y) (λ j. without_first-at p ys j) e h

-- none passes
missing-cons : {A : Type 0} (p : A → Bool) (y : A) (ys : List A) (b : Bool)
    → length (y ∷ ys) ≤ cond (not b) (1 + position_or_len p ys) 0 → (b ≡ false)
    × (length ys ≤ position_or_len p ys)
missing-cons p y ys true h = absurd (omega arith)
missing-cons p y ys false h = (refl, omega arith)

at_first-past : {A : Type 0} (p : A → Bool) (f : A → A) (xs : List A)
    → length xs ≤ position_or_len p xs → at_first p f xs ≡ xs
at_first-past p f [] h = refl
at_first-past p f (y ∷ ys) h =
    let m = missing-cons p y ys (p y) h in rw m.0 (ap (λ zs. y ∷ zs) (at_first-past p f ys m.1))

without_first-past : {A : Type 0} (p : A → Bool) (xs : List A) → length xs ≤ position_or_len p xs
    → without_first p xs ≡ xs
without_first-past p [] h = refl
without_first-past p (y ∷ ys) h =
    let m = missing-cons p y ys (p y) h in rw m.0 (ap (λ zs. y ∷ zs) (without_first-past p ys m.1))

find-past : {A : Type 0} (p : A → Bool) (xs : List A) → length xs ≤ position_or_len p xs → find p xs ≡ None
find-past p [] h = refl
find-past p (y ∷ ys) h = let m = missing-cons p y ys (p y) h in rw m.0 (find-past p ys m.1)

any-cons : {A : Type 0} (p : A → Bool) (y : A) (ys : List A) (b : Bool)
    → (position_or_len p ys < length ys → list_any p ys ≡ true)
    → cond (not b) (1 + position_or_len p ys) 0 < length (y ∷ ys) → (b || list_any p ys) ≡ true
any-cons p y ys true ih h = refl
any-cons p y ys false ih h = ih (omega arith)

any-at : {A : Type 0} (p : A → Bool) (xs : List A) → position_or_len p xs < length xs → list_any p xs ≡ true
any-at p [] h = absurd (omega arith)
any-at p (y ∷ ys) h = any-cons p y ys (p y) (any-at p ys) h

any-past : {A : Type 0} (p : A → Bool) (xs : List A) → length xs ≤ position_or_len p xs → list_any p xs ≡ false
any-past p [] h = refl
any-past p (y ∷ ys) h = let m = missing-cons p y ys (p y) h in rw m.0 (any-past p ys m.1)

-- what `position` tells
position-some : {A : Type 0} (p : A → Bool) (xs : List A) (i : ℕ) → position p xs ≡ Some i
    → (i ≡ position_or_len p xs) × (i < length xs)
position-some p xs i e = found-below (position_or_len p xs) (length xs) i _ refl e

position-none : {A : Type 0} (p : A → Bool) (xs : List A) → position p xs ≡ None → length xs ≤ position_or_len p xs
position-none p xs e = found-none (position_or_len p xs) (length xs) _ refl e

-- the first element that passes stands at its position, or there is none
pub at_first-found : {A : Type 0} (p : A → Bool) (f : A → A) (xs : List A) (i : ℕ) (x : A)
    → position p xs ≡ Some i → slice_get xs i ≡ Some x → at_first p f xs ≡ slice_set xs i (f x)
at_first-found p f xs i x e h = at_first-at p f xs i x (position-some p xs i e).0 h

pub at_first-missing : {A : Type 0} (p : A → Bool) (f : A → A) (xs : List A) → position p xs ≡ None
    → at_first p f xs ≡ xs
at_first-missing p f xs e = at_first-past p f xs (position-none p xs e)

pub without_first-found : {A : Type 0} (p : A → Bool) (xs : List A) (i : ℕ) → position p xs ≡ Some i
    → without_first p xs ≡ remove xs i
without_first-found p xs i e = let (same, within) = position-some p xs i e in without_first-at p xs i same within

pub without_first-missing : {A : Type 0} (p : A → Bool) (xs : List A) → position p xs ≡ None → without_first p xs ≡ xs
without_first-missing p xs e = without_first-past p xs (position-none p xs e)

pub find-found : {A : Type 0} (p : A → Bool) (xs : List A) (i : ℕ) → position p xs ≡ Some i
    → find p xs ≡ slice_get xs i
find-found p xs i e = find_at p xs ∙ ap (λ k. slice_get xs k) (sym (position-some p xs i e).0)

pub find-missing : {A : Type 0} (p : A → Bool) (xs : List A) → position p xs ≡ None → find p xs ≡ None
find-missing p xs e = find-past p xs (position-none p xs e)

pub any-found : {A : Type 0} (p : A → Bool) (xs : List A) (i : ℕ) → position p xs ≡ Some i → list_any p xs ≡ true
any-found p xs i e = let (same, within) = position-some p xs i e in any-at p xs (rw same at within)

pub any-missing : {A : Type 0} (p : A → Bool) (xs : List A) → position p xs ≡ None → list_any p xs ≡ false
any-missing p xs e = any-past p xs (position-none p xs e)

-- the element at a position that was found passes
pub position-at : {A : Type 0} (p : A → Bool) (xs : List A) (i : ℕ) (d : A) → position p xs ≡ Some i
    → (i < length xs) × (p (get_or xs i d) ≡ true)
position-at p xs i d e =
    let (same, within) = found-at (position_or_len p xs) (length xs) i _ refl e in
    (rw same within, rw same (passes_at_first p xs d within))

-- the first that passes is replaced, by its place
pub at_first-replaced : {A : Type 0} (p : A → Bool) (v : A) (xs : List A) (i : ℕ)
    → position p xs ≡ Some i → at_first p (λ x. v) xs ≡ slice_set xs i v
at_first-replaced p v xs i e =
    at_first-found p (λ x. v) xs i (get_or xs i v) e (slice_get-get_or xs i v (position-at p xs i v e).0)
