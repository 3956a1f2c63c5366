-- What is found in a list of calls, before and after the first that passes a test is changed.
use Rattle.std.proofs.Common.{◌≡◌, ℕ, Bool, true, false, cond, Option, Some, None, List}
use Rattle.std.proofs.Common.{[], ◌∷◌, length, drop, refl, ap, arith}
use Rattle.std.specs.Prelude.{◌↔◌, ◌||◌, IsNone, count_by, sum_by, slice_get}
use Rattle.std.specs.List.{AllByRecursion, find, list_any}
use Rattle.std.proofs.lemmas.List.Sums.{sum_by-cons}
use Rattle.rpc_base.specs.Tables.{at_first}
use Rattle.rpc_base.proofs.FirstLemmas.{counted-cons}

module _ {A : Type 0} where
  pub all-rest : (P : A → Type 0) (xs : List A) → AllByRecursion P xs → AllByRecursion P (drop 1 xs)
  all-rest P [] all = tt
  all-rest P (y ∷ ys) all = all.1

  pub all-front : (P : A → Type 0) (xs : List A) (x : A) → AllByRecursion P xs → slice_get xs 0 ≡ Some x → P x
  all-front P [] x all e = cc
  all-front P (y ∷ ys) x all e = let same : y ≡ x = cc in rw same at all.0

-- the element that is found
module _ {A : Type 0} (p : A → Bool) where
  missing-cons : (y : A) (ys : List A) (b : Bool) → p y ≡ b → (find p ys ≡ None → count_by p ys ≡ 0)
      → cond b (Some y) (find p ys) ≡ None → count_by p (y ∷ ys) ≡ 0
  missing-cons y ys true t ih e = cc
  missing-cons y ys false t ih e = omega (arith, counted-cons p y ys false t, ih e)

  -- none is counted where none is found
  pub count-missing : (xs : List A) → find p xs ≡ None → count_by p xs ≡ 0
  count-missing [] e = refl
  count-missing (y ∷ ys) e = missing-cons y ys (p y) refl (count-missing ys) e

-- the first element that passes is changed
module _ {A : Type 0} (p : A → Bool) (f : A → A) where
  length-cons : (y : A) (ys : List A) (b : Bool) → length (at_first p f ys) ≡ length ys
      → length (cond b (f y ∷ ys) (y ∷ at_first p f ys)) ≡ length (y ∷ ys)
  length-cons y ys true ih = refl
  length-cons y ys false ih = omega arith

  pub length-at_first : (xs : List A) → length (at_first p f xs) ≡ length xs
  length-at_first [] = refl
  length-at_first (y ∷ ys) = length-cons y ys (p y) (length-at_first ys)

  sum-cons : (g : A → ℕ) (y : A) (ys : List A) (b : Bool) → g (f y) ≡ g y
      → sum_by g (at_first p f ys) ≡ sum_by g ys
      → sum_by g (cond b (f y ∷ ys) (y ∷ at_first p f ys)) ≡ sum_by g (y ∷ ys)
  sum-cons g y ys true same ih = omega (arith, sum_by-cons g (f y) ys, sum_by-cons g y ys)
  sum-cons g y ys false same ih = omega (arith, sum_by-cons g y (at_first p f ys), sum_by-cons g y ys)

  pub sum-at_first : (g : A → ℕ) (xs : List A) → ((x : A) → g (f x) ≡ g x) → sum_by g (at_first p f xs) ≡ sum_by g xs
  sum-at_first g [] same = refl
  sum-at_first g (y ∷ ys) same = sum-cons g y ys (p y) (same y) (sum-at_first g ys same)

  -- what is found of those that pass another test, as far as the change doesn't show
  module _ {B : Type 0} (h : Option A → B) (q : A → Bool) where
    here-same : (y : A) (o : Option A) (c : Bool) → h (Some (f y)) ≡ h (Some y)
        → h (cond c (Some (f y)) o) ≡ h (cond c (Some y) o)
    here-same y o true same = same
    here-same y o false same = refl

    later-same : (y : A) (o r : Option A) (c : Bool) → h o ≡ h r → h (cond c (Some y) o) ≡ h (cond c (Some y) r)
    later-same y o r true same = refl
    later-same y o r false same = same

    shows-cons : (y : A) (ys : List A) (b : Bool) → q (f y) ≡ q y → h (Some (f y)) ≡ h (Some y)
        → h (find q (at_first p f ys)) ≡ h (find q ys)
        → h (find q (cond b (f y ∷ ys) (y ∷ at_first p f ys))) ≡ h (find q (y ∷ ys))
    shows-cons y ys true t same ih = rw t (here-same y (find q ys) (q y) same)
    shows-cons y ys false t same ih = later-same y (find q (at_first p f ys)) (find q ys) (q y) ih

    pub shows-at_first : (xs : List A) → ((x : A) → q (f x) ≡ q x)
        → ((x : A) → h (Some (f x)) ≡ h (Some x)) → h (find q (at_first p f xs)) ≡ h (find q xs)
    shows-at_first [] t same = refl
    shows-at_first (y ∷ ys) t same = shows-cons y ys (p y) (t y) (same y) (shows-at_first ys t same)

  -- the changed element is found where it was, and each other one
  module _ (q : A → Bool) (c : A) where
    other-cons : (y : A) (ys : List A) (b : Bool) → q (f c) ≡ false → q c ≡ false
        → (find p ys ≡ Some c → find q (at_first p f ys) ≡ find q ys)
        → cond b (Some y) (find p ys) ≡ Some c
        → find q (cond b (f y ∷ ys) (y ∷ at_first p f ys)) ≡ find q (y ∷ ys)
    other-cons y ys true after was ih e = let same : y ≡ c = cc in rw (same, after, was) refl
    other-cons y ys false after was ih e = ap (λ o. cond (q y) (Some y) o) (ih e)

    pub found-other : (xs : List A) → q (f c) ≡ false → q c ≡ false → find p xs ≡ Some c
        → find q (at_first p f xs) ≡ find q xs
    found-other [] after was e = cc
    found-other (y ∷ ys) after was e = other-cons y ys (p y) after was (found-other ys after was) e

-- nothing is found exactly where none passes
module _ {A : Type 0} (p : A → Bool) where
  missing-any : (x : A) (o : Option A) (b any : Bool) → IsNone o ↔ (any ≡ false)
      → IsNone (cond b (Some x) o) ↔ ((b || any) ≡ false)
  missing-any x o true any same = (λ e. cc, λ e. cc)
  missing-any x o false any same = same

  pub none-found : (xs : List A) → IsNone (find p xs) ↔ (list_any p xs ≡ false)
  none-found [] = (λ e. refl, λ e. refl)
  none-found (x ∷ xs) = missing-any x (find p xs) (p x) (list_any p xs) (none-found xs)
