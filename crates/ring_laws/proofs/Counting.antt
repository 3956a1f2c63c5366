-- How many elements of a list pass a test, and what the elements add up to.
use Rattle.std.proofs.Common.{◌≡◌, ◌+◌, ◌≤◌, ℕ, zero, suc, Bool, true, false, cond, List, [], ◌∷◌}
use Rattle.std.proofs.Common.{◌++◌, length, take, drop, Option, Some, None, slice_get, refl, sym}
use Rattle.std.proofs.Common.{ap, ◌∙◌, subst, arith}
use Rattle.std.specs.Prelude.{◌||◌, option_to_list, sum_by}
use Rattle.std.specs.List.{find, remove, AllByRecursion}
use Rattle.std.proofs.lemmas.List.Sums.{sum_by-cons}
use Rattle.rpc_base.specs.Tables.{at_first, without_first}
use Rattle.rpc_base.specs.Totals.{total}

abbrev pub count : {A : Type 0} → (A → Bool) → List A → ℕ
count p [] = 0
count p (x ∷ xs) = cond (p x) 1 0 + count p xs

pub total-sum_by : {A : Type 0} (f : A → ℕ) (xs : List A) → sum_by f xs ≡ total f xs
total-sum_by f [] = refl
total-sum_by f (x ∷ xs) = sum_by-cons f x xs ∙ ap (λ n. f x + n) (total-sum_by f xs)

pub total-append : {A : Type 0} (f : A → ℕ) (xs ys : List A) → total f (xs ++ ys) ≡ total f xs + total f ys
total-append f [] ys = omega arith
total-append f (x ∷ xs) ys = omega (arith, total-append f xs ys)

module _ {A : Type 0} (p : A → Bool) where
  pub count-append : (xs ys : List A) → count p (xs ++ ys) ≡ count p xs + count p ys
  count-append [] ys = omega arith
  count-append (x ∷ xs) ys = omega (arith, count-append xs ys)

  pub count-add : (xs : List A) (y : A) → count p (xs ++ y ∷ []) ≡ count p xs + cond (p y) 1 0
  count-add [] y = omega arith
  count-add (x ∷ xs) y = omega (arith, count-add xs y)

  pub count-drop : (xs : List A) → count p (drop 1 xs) ≤ count p xs
  count-drop [] = omega arith
  count-drop (x ∷ xs) = omega arith

  less-by : (q : A → Bool) (x : A) (xs : List A) (b : Bool)
      → count p (without_first q xs) ≤ count p xs
      → count p (cond b xs (x ∷ without_first q xs)) ≤ cond (p x) 1 0 + count p xs
  less-by q x xs true ih = omega arith
  less-by q x xs false ih = omega arith

  pub count-less : (q : A → Bool) (xs : List A) → count p (without_first q xs) ≤ count p xs
  count-less q [] = omega arith
  count-less q (x ∷ xs) = less-by q x xs (q x) (count-less q xs)

  out-by : (q : A → Bool) (x : A) (xs : List A) (b : Bool)
      → count p (without_first q xs) + count p (option_to_list (find q xs)) ≡ count p xs
      → count p (cond b xs (x ∷ without_first q xs))
      + count p (option_to_list (cond b (Some x) (find q xs))) ≡ cond (p x) 1 0 + count p xs
  out-by q x xs true ih = omega arith
  out-by q x xs false ih = omega arith

  -- what is taken out, and the rest
  pub count-out : (q : A → Bool) (xs : List A)
      → count p (without_first q xs) + count p (option_to_list (find q xs)) ≡ count p xs
  count-out q [] = omega arith
  count-out q (x ∷ xs) = out-by q x xs (q x) (count-out q xs)

  pub count-found : (q : A → Bool) (xs : List A) (x : A) → find q xs ≡ Some x
      → count p (without_first q xs) + cond (p x) 1 0 ≡ count p xs
  count-found q xs x e =
      let out : count p (without_first q xs) + count p (option_to_list (Some x)) ≡ count p xs =
      subst (λ (o : Option A). count p (without_first q xs) + count p (option_to_list o)
      ≡ count p xs) e (count-out q xs) in
      omega arith

  pub count-take : (i : ℕ) (xs : List A) → count p (take i xs) + count p (drop i xs) ≡ count p xs
  count-take zero xs = omega arith
  count-take (suc i) [] = omega arith
  count-take (suc i) (x ∷ xs) = omega (arith, count-take i xs)

  -- an element is taken out by its place
  pub count-remove : (xs : List A) (i : ℕ)
      → count p (remove xs i) + count p (option_to_list (slice_get xs i)) ≡ count p xs
  count-remove [] zero = omega arith
  count-remove [] (suc i) = omega arith
  count-remove (x ∷ xs) zero = omega arith
  count-remove (x ∷ xs) (suc i) = omega (arith, count-remove xs i)

  pub count-none : (xs : List A) → ((x : A) → p x ≡ false) → count p xs ≡ 0
  count-none [] none = refl
  count-none (x ∷ xs) none = let one : cond {A = ℕ} (p x) 1 0 ≡ 0 = ap {B = ℕ} (λ (b : Bool). cond b 1 0) (none x) in omega (arith, count-none xs none)

-- the front is found where it passes
pub find-front : {A : Type 0} (q : A → Bool) (xs : List A) (x : A) → slice_get xs 0 ≡ Some x
    → q x ≡ true → find q xs ≡ Some x
find-front q [] x is t = cc
find-front q (y ∷ ys) x is t =
    let same : x ≡ y = cc in
    let passes : q y ≡ true = ap q (sym same) ∙ t in
    rw passes is

some-by : {A : Type 0} (q : A → Bool) (y : A) (ys : List A) (b : Bool)
    → ((z : A) × (find q ys ≡ Some z)) → (z : A) × (cond b (Some y) (find q ys) ≡ Some z)
some-by q y ys true ih = (y, refl)
some-by q y ys false ih = ih

-- one that passes is found, or another before it
pub find-some : {A : Type 0} (q : A → Bool) (xs : List A) (i : ℕ) (x : A) → slice_get xs i ≡ Some x
    → q x ≡ true → (z : A) × (find q xs ≡ Some z)
find-some q [] i x is t = cc
find-some q (y ∷ ys) zero x is t = (x, find-front q (y ∷ ys) x is t)
find-some q (y ∷ ys) (suc i) x is t = some-by q y ys (q y) (find-some q ys i x is t)

-- a number of what is found, 0 where nothing is
abbrev pub value : {A : Type 0} → (A → ℕ) → Option A → ℕ
value f None = 0
value f (Some x) = f x

value-cond : {A : Type 0} (f : A → ℕ) (x y : A) (o : Option A) (b : Bool) → f x ≡ f y
    → value f (cond b (Some x) o) ≡ value f (cond b (Some y) o)
value-cond f x y o true e = e
value-cond f x y o false e = refl

value-rest : {A : Type 0} (f : A → ℕ) (x : A) (o u : Option A) (b : Bool) → value f o ≡ value f u
    → value f (cond b (Some x) o) ≡ value f (cond b (Some x) u)
value-rest f x o u true e = refl
value-rest f x o u false e = e

value-step : {A : Type 0} (f : A → ℕ) (p q : A → Bool) (change : A → A) (x : A) (xs : List A)
    (a : Bool) → q (change x) ≡ q x → f (change x) ≡ f x
    → value f (find q (at_first p change xs)) ≡ value f (find q xs)
    → value f (find q (cond a (change x ∷ xs) (x ∷ at_first p change xs)))
    ≡ value f (cond (q x) (Some x) (find q xs))
value-step f p q change x xs true e g ih =
    ap (λ b. value f (cond b (Some (change x)) (find q xs))) e ∙ value-cond f (change x) x (find q xs) (q x) g
value-step f p q change x xs false e g ih = value-rest f x _ _ (q x) ih

-- a value that a change of one element keeps
pub value-kept : {A : Type 0} (f : A → ℕ) (p q : A → Bool) (change : A → A) (xs : List A)
    → ((x : A) → q (change x) ≡ q x) → ((x : A) → f (change x) ≡ f x)
    → value f (find q (at_first p change xs)) ≡ value f (find q xs)
value-kept f p q change [] k h = refl
value-kept f p q change (x ∷ xs) k h = value-step f p q change x xs (p x) (k x) (h x) (value-kept f p q change xs k h)

apart-by : {A : Type 0} (p q : A → Bool) (change : A → A) (x : A) (xs : List A) (a b : Bool)
    → p x ≡ a → q x ≡ b → (p x ≡ true → q x ≡ false) → q (change x) ≡ q x
    → find q (at_first p change xs) ≡ find q xs
    → find q (cond a (change x ∷ xs) (x ∷ at_first p change xs)) ≡ cond b (Some x) (find q xs)
apart-by p q change x xs true true e g apart k ih = let f = apart e in cc
apart-by p q change x xs true false e g apart k ih = let f : q (change x) ≡ false = k ∙ g in rw f refl
apart-by p q change x xs false true e g apart k ih = rw g refl
apart-by p q change x xs false false e g apart k ih = rw g ih

-- what another test finds
pub find-apart : {A : Type 0} (p q : A → Bool) (change : A → A) (xs : List A)
    → ((x : A) → p x ≡ true → q x ≡ false) → ((x : A) → q (change x) ≡ q x)
    → find q (at_first p change xs) ≡ find q xs
find-apart p q change [] apart k = refl
find-apart p q change (x ∷ xs) apart k =
    apart-by p q change x xs (p x) (q x) refl refl (apart x) (k x)
    (find-apart p q change xs apart k)

-- whether one of them passes
abbrev pub some_of : {A : Type 0} → (A → Bool) → List A → Bool
some_of p [] = false
some_of p (x ∷ xs) = p x || some_of p xs

counts-by : (b c : Bool) (n : ℕ) → (b || c) ≡ true → (c ≡ true → 1 ≤ n) → 1 ≤ cond b 1 0 + n
counts-by true c n e h = omega arith
counts-by false c n e h = let le = h e in omega arith

some-counts : {A : Type 0} (p : A → Bool) (xs : List A) → some_of p xs ≡ true → 1 ≤ total (λ x. cond (p x) 1 0) xs
some-counts p [] e = cc
some-counts p (x ∷ xs) e = counts-by (p x) (some_of p xs) (total (λ x. cond (p x) 1 0) xs) e (some-counts p xs)

total-plus : {A : Type 0} (f g : A → ℕ) (xs : List A) → total (λ x. f x + g x) xs ≡ total f xs + total g xs
total-plus f g [] = omega arith
total-plus f g (x ∷ xs) = omega (arith, total-plus f g xs)

pub total-le : {A : Type 0} (f g : A → ℕ) (xs : List A) → AllByRecursion (λ x. f x ≤ g x) xs → total f xs ≤ total g xs
total-le f g [] h = omega arith
total-le f g (x ∷ xs) h = let one = h.0 in omega (arith, total-le f g xs h.1)

-- a list each of whose elements is counted by one of some tests or of others is no longer than the counts
pub covered : {A B D : Type 0} (p : A → D → Bool) (q : B → D → Bool) (xs : List A) (ys : List B)
    (ds : List D) → AllByRecursion (λ d. (some_of (λ x. p x d) xs || some_of (λ y. q y d) ys)
    ≡ true) ds → length ds ≤ total (λ x. count (p x) ds) xs + total (λ y. count (q y) ds) ys
covered p q xs ys [] h = omega arith
covered p q xs ys (d ∷ ds) h =
    let rest = covered p q xs ys ds h.1 in
    let first : total (λ x. cond (p x d) 1 0 + count (p x) ds) xs
    ≡ total (λ x. cond (p x d) 1 0) xs + total (λ x. count (p x) ds) xs =
    total-plus (λ x. cond (p x d) 1 0) (λ x. count (p x) ds) xs in
    let second : total (λ y. cond (q y d) 1 0 + count (q y) ds) ys
    ≡ total (λ y. cond (q y d) 1 0) ys + total (λ y. count (q y) ds) ys =
    total-plus (λ y. cond (q y d) 1 0) (λ y. count (q y) ds) ys in
    let one = one-of (some_of (λ x. p x d) xs) (some_of (λ y. q y d) ys)
    (total (λ x. cond (p x d) 1 0) xs)
    (total (λ y. cond (q y d) 1 0) ys) h.0 (some-counts (λ x. p x d) xs)
    (some-counts (λ y. q y d) ys) in
    omega arith
  where
    one-of : (a b : Bool) (n m : ℕ) → (a || b) ≡ true → (a ≡ true → 1 ≤ n) → (b ≡ true → 1 ≤ m) → 1 ≤ n + m
    one-of true b n m e f g = let le = f refl in omega arith
    one-of false b n m e f g = let le = g e in omega arith
