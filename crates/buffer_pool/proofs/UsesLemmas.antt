-- The marks and the count of the empty places, as they are made and when one place changes.
use Rattle.std.proofs.Common.{◌≡◌, ◌≤◌, ◌<◌, ◌+◌, ◌∙◌, ◌^◌, ℕ, zero, suc, Bool, true, false, not}
use Rattle.std.proofs.Common.{cond, None, List, [], ◌∷◌, length, get_or, set, map}
use Rattle.std.proofs.Common.{replicate, position, count_by, refl, sym, ap, arith}
use mathlib.Core.Bool.{beq}
use Rattle.std.specs.List.{position_or_len}
use Rattle.std.proofs.lemmas.List.{length-map, length-set, length-replicate, map-set, set-get_or, get_or-map}
use Rattle.std.proofs.lemmas.List.Folds.{sum_by-replicate}
use Rattle.std.proofs.lemmas.List.Sums.{sum_by-cons, sum_by-set, count_by-le-length}
use Rattle.buffer_pool.specs.declared.usage.Use.{Use}
use Rattle.buffer_pool.specs.declared.usage.Use.TheVariants.{Empty}
use Rattle.buffer_pool.specs.Uses.{is_empty, CountsEmpty}
use Rattle.rpc_base.proofs.BasicLemmas.{found-none}

-- the first place of a list of marks is that of the list that they mark
first-map : {A : Type 0} (p : A → Bool) (xs : List A)
    → position_or_len (λ (b : Bool). b) (map p xs) ≡ position_or_len p xs
first-map p [] = refl
first-map p (x ∷ xs) = ap (λ n. cond (not (p x)) (1 + n) 0) (first-map p xs)

pub position-map : {A : Type 0} (p : A → Bool) (xs : List A) → position (λ (b : Bool). b) (map p xs) ≡ position p xs
position-map p xs = rw (first-map p xs, length-map xs p) refl

-- where there is no first place, none counts
count-step : (b : Bool) (n m k : ℕ) → suc m ≤ cond (not b) (1 + n) 0 → (m ≤ n → k ≡ 0) → cond b 1 0 + k ≡ 0
count-step true n m k h f = absurd (omega arith)
count-step false n m k h f = omega (arith, f (omega arith))

count-past : {A : Type 0} (p : A → Bool) (xs : List A) → length xs ≤ position_or_len p xs → count_by p xs ≡ 0
count-past p [] h = refl
count-past p (x ∷ xs) h =
    sum_by-cons (λ y. cond (p y) 1 0) x xs ∙ count-step (p x) (position_or_len p xs) (length xs)
    (count_by p xs) h (count-past p xs)

pub count-none : {A : Type 0} (p : A → Bool) (xs : List A) → position p xs ≡ None → count_by p xs ≡ 0
count-none p xs e = count-past p xs (found-none (position_or_len p xs) (length xs) _ refl e)

-- places as they are made
map-replicate : {A B : Type 0} (f : A → B) (n : ℕ) (x : A) → map f (replicate n x) ≡ replicate n (f x)
map-replicate f zero x = refl
map-replicate f (suc n) x = ap (λ ys. f x ∷ ys) (map-replicate f n x)

pub CountsEmpty-new : (n : ℕ) → n < 2 ^ 32 → CountsEmpty (replicate n Empty) (replicate n true) n
CountsEmpty-new n h = record {
  marks_are = sym (map-replicate is_empty n Empty);
  spare_is = omega (arith, sum_by-replicate (λ u. cond (is_empty u) 1 0) n Empty);
  few = omega (arith, length-replicate n Empty);
}

-- the count when one place changes
mark-at : (uses : List Use) (marks : List Bool) (p : ℕ) (d : Bool) → marks ≡ map is_empty uses
    → p < length uses → get_or marks p d ≡ is_empty (get_or uses p Empty)
mark-at uses marks p d e h = rw e (get_or-map is_empty uses p Empty d h)

room-by : (b : Bool) (after before n : ℕ) → after + cond b 1 0 ≡ before + 1 → b ≡ false → after ≤ n → before < n
room-by true after before n e f h = cc
room-by false after before n e f h = omega arith

kept-by : (b d : Bool) (after before : ℕ) → after + cond b 1 0 ≡ before + cond d 1 0 → b ≡ d → before ≡ after
kept-by true true after before e s = omega arith
kept-by false false after before e s = omega arith
kept-by true false after before e s = cc
kept-by false true after before e s = cc

pub count-room : (uses : List Use) (p : ℕ) → p < length uses
    → is_empty (get_or uses p Empty) ≡ false → count_by is_empty uses < length uses
count-room uses p h e =
    let changed : count_by is_empty (set uses p Empty) + cond (is_empty (get_or uses p Empty)) 1 0
    ≡ count_by is_empty uses + 1 =
    sum_by-set (λ u. cond (is_empty u) 1 0) uses p Empty Empty h in
    room-by (is_empty (get_or uses p Empty)) (count_by is_empty (set uses p Empty))
    (count_by is_empty uses) (length uses) changed e
    (omega (arith, count_by-le-length is_empty (set uses p Empty), length-set uses p Empty))

recounted : (was is : Bool) (more spare before after : ℕ) → (was ≡ is → ⊥)
    → after + cond was 1 0 ≡ before + cond is 1 0 → spare ≡ before → (is ≡ true → more ≡ spare + 1)
    → (is ≡ false → more + 1 ≡ spare) → more ≡ after
recounted true true more spare before after n e s up down = absurd (n refl)
recounted false false more spare before after n e s up down = absurd (n refl)
recounted true false more spare before after n e s up down = omega (arith, down refl)
recounted false true more spare before after n e s up down = omega (arith, up refl)

pub CountsEmpty-set : (uses : List Use) (marks marks' : List Bool) (spare spare' p : ℕ) (next : Use)
    (was is : Bool) → CountsEmpty uses marks spare → p < length uses
    → was ≡ is_empty (get_or uses p Empty) → is ≡ is_empty next → (was ≡ is → ⊥)
    → marks' ≡ set marks p is → (is ≡ true → spare' ≡ spare + 1) → (is ≡ false → spare' + 1 ≡ spare)
    → CountsEmpty (set uses p next) marks' spare'
CountsEmpty-set uses marks marks' spare spare' p next was is counts h w i n m up down =
    let changed : count_by is_empty (set uses p next) + cond (is_empty (get_or uses p Empty)) 1 0
    ≡ count_by is_empty uses + cond (is_empty next) 1 0 =
    sum_by-set (λ u. cond (is_empty u) 1 0) uses p next Empty h in
    let same : count_by is_empty (set uses p next) + cond was 1 0
    ≡ count_by is_empty uses + cond is 1 0 = rw (w, i) changed in
    record {
      marks_are = m ∙ ap (λ xs. set xs p is) counts.marks_are
          ∙ ap (λ b. set (map is_empty uses) p b) i ∙ sym (map-set is_empty uses p next);
      spare_is = recounted was is spare' spare (count_by is_empty uses)
          (count_by is_empty (set uses p next)) n same counts.spare_is up down;
      few = omega (arith, counts.few, length-set uses p next);
    }

pub CountsEmpty-same : (uses : List Use) (marks : List Bool) (spare p : ℕ) (next : Use)
    → CountsEmpty uses marks spare → p < length uses
    → is_empty (get_or uses p Empty) ≡ is_empty next → CountsEmpty (set uses p next) marks spare
CountsEmpty-same uses marks spare p next counts h e =
    let changed : count_by is_empty (set uses p next) + cond (is_empty (get_or uses p Empty)) 1 0
    ≡ count_by is_empty uses + cond (is_empty next) 1 0 =
    sum_by-set (λ u. cond (is_empty u) 1 0) uses p next Empty h in
    let kept : get_or (map is_empty uses) p false ≡ is_empty next = get_or-map is_empty uses p Empty false h ∙ e in
    record {
      marks_are = counts.marks_are ∙ sym (set-get_or (map is_empty uses) p false)
          ∙ ap (λ b. set (map is_empty uses) p b) kept ∙ sym (map-set is_empty uses p next);
      spare_is = counts.spare_is ∙ kept-by (is_empty (get_or uses p Empty)) (is_empty next)
          (count_by is_empty (set uses p next)) (count_by is_empty uses) changed e;
      few = omega (arith, counts.few, length-set uses p next);
    }

-- two marks that differ, and two that don't
pub marks_differ : (a b : Bool) → not (beq a b) ≡ true → a ≡ b → ⊥
marks_differ true true h e = cc
marks_differ false false h e = cc
marks_differ true false h e = cc
marks_differ false true h e = cc

pub marks_agree : (a b : Bool) → not (beq a b) ≡ false → a ≡ b
marks_agree true true h = refl
marks_agree false false h = refl
marks_agree true false h = cc
marks_agree false true h = cc

pub was_other : (a b : Bool) → not (beq a b) ≡ true → b ≡ true → a ≡ false
was_other true true h e = cc
was_other false true h e = refl
was_other true false h e = cc
was_other false false h e = refl
