-- Jobs that wait, are worked, and come back.
use Rattle.std.proofs.Common.{◌≡◌, ℕ, zero, suc, List, [], ◌∷◌, ◌++◌, map, take, drop, refl, sym}
use Rattle.std.proofs.Common.{ap, ap₂, subst, slice_get, Some, ◌∙◌, append_assoc, IsPermutation}
use Rattle.std.specs.List.{AllByRecursion, remove}
use Rattle.std.proofs.lemmas.List.{map-append}
use Rattle.std.proofs.lemmas.List.Sorted.{IsPermutation-middle, IsPermutation-sym}
use Rattle.worker_board.specs.declared.Parcel.{Parcel}
use Rattle.worker_crew.specs.Local.{Local, Works, answered}
use Rattle.rpc_base.proofs.FirstLemmas.{all-both}

around : {A B : Type 0} (f : A → B) (x : A) (xs ys : List A) → map f (xs ++ x ∷ ys) ≡ map f xs ++ f x ∷ map f ys
around f x xs ys = map-append f xs (x ∷ ys)

-- one less
pub comes-out : {A B : Type 0} (f : A → B) (x : A) (xs ys : List A)
    → IsPermutation (map f (xs ++ x ∷ ys)) (f x ∷ map f (xs ++ ys))
comes-out f x xs ys =
    subst (λ l. IsPermutation l (f x ∷ map f (xs ++ ys))) (sym (around f x xs ys))
    (subst (λ l. IsPermutation (map f xs ++ f x ∷ map f ys) (f x ∷ l)) (sym (map-append f xs ys))
    (IsPermutation-middle (map f xs) (f x) (map f ys)))

-- one more in the middle
pub goes-in : {A B : Type 0} (f : A → B) (x : A) (xs ys zs : List A) → zs ≡ xs ++ x ∷ []
    → IsPermutation (f x ∷ map f (xs ++ ys)) (map f (zs ++ ys))
goes-in f x xs ys zs e =
    let back : IsPermutation (map f (xs ++ x ∷ ys)) (f x ∷ map f (xs ++ ys)) = comes-out f x xs ys in
    let same : zs ++ ys ≡ xs ++ x ∷ ys = ap (λ l. l ++ ys) e ∙ append_assoc xs (x ∷ []) ys in
    subst (λ l. IsPermutation (f x ∷ map f (xs ++ ys)) (map f l)) (sym same) (IsPermutation-sym _ _ back)

all-take : {A : Type 0} (P : A → Type 0) (n : ℕ) (xs : List A) → AllByRecursion P xs → AllByRecursion P (take n xs)
all-take P zero xs h = tt
all-take P (suc n) [] h = tt
all-take P (suc n) (x ∷ xs) h = (h.0, all-take P n xs h.1)

all-drop : {A : Type 0} (P : A → Type 0) (n : ℕ) (xs : List A) → AllByRecursion P xs → AllByRecursion P (drop n xs)
all-drop P zero xs h = h
all-drop P (suc n) [] h = tt
all-drop P (suc n) (x ∷ xs) h = all-drop P n xs h.1

pub all-without : {A : Type 0} (P : A → Type 0) (xs : List A) (i : ℕ) → AllByRecursion P xs
    → AllByRecursion P (remove xs i)
all-without P xs i h = all-both P (take i xs) (drop (suc i) xs) (all-take P i xs h) (all-drop P (suc i) xs h)

pub works : (answer : ℕ → List ℕ → List ℕ) (j limit given : ℕ)
    (waiting worked left done : List Parcel) (job back : Parcel) (old : Local)
    → record { limit = limit; given = given; waiting = waiting; worked = worked } ≡ old
    → slice_get waiting j ≡ Some job
    → left ≡ remove waiting j → done ≡ worked ++ back ∷ [] → back ≡ answered answer job
    → Works answer j job.session job.request old
    (record { limit = limit; given = given; waiting = left; worked = done })
works answer j limit given waiting worked left done job back old is at others pushed same =
    subst (λ s. Works answer j job.session job.request s
    (record { limit = limit; given = given; waiting = left; worked = done })) is
    (record {
      job = job;
      is_job = at;
      named = (refl, refl);
      left = ap₂ (λ w k. record { limit = limit; given = given; waiting = w; worked = k }) others
          (pushed ∙ ap (λ p. worked ++ p ∷ []) same);
    })
