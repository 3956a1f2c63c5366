-- Lists by due times, each the entries of one place round a cursor.
use Rattle.std.proofs.Common.{◌≡◌, ◌≢◌, ◌<◌, ◌≤◌, ℕ, zero, suc, ◌+◌, ◌%◌, ◌^◌, Bool, true, false, cond, leb, leb-true, leb-false}
use Rattle.std.proofs.Common.{Some, None, List, [], ◌∷◌, ◌++◌, length, refl, replicate, sym, ap, drop, set, subst, ◌∙◌, arith}
use Rattle.std.proofs.Math.Nat.{div-add-mod, mod-lt}
use mathlib.Core.Logic.{dite}
use native.Mathlib.Decide.{ℕ_discrete}
use Rattle.std.specs.Prelude.{slice_get, is_some, ◌==◌}
use Rattle.std.specs.List.{AllByRecursion, find, list_any}
use Rattle.std.proofs.lemmas.Bool.{eqb-true}
use Rattle.std.specs.List.Sorted.{IsNonDecreasingBy}
use Rattle.rpc_base.specs.Tables.{without_first}
use Rattle.rpc_base.specs.Least.{least, least_number}
use Rattle.rpc_base.proofs.LeastLemmas.{lesser}
use Rattle.rpc_base.proofs.FirstLemmas.{all-push, all-each}
use Rattle.packet_rings.specs.Values.{EntryValue}
use Rattle.pacing_wheel.specs.declared.pacer.Paced.{Paced}
use Rattle.pacing_wheel.specs.Wheel.{added, due_of, earlier, is_due, is_first, merged, number_of, put_before, together, AllStand, Covers, InOrder, StandsAt}
use Rattle.pacing_wheel.specs.Chains.{list_at, with_last}
use Rattle.pacing_wheel.proofs.WheelLemmas.{due-least, late-least}
use Rattle.pacing_wheel.proofs.MergeLemmas.{added-merged, first-first, length-merged, merged-added, merged-in-order}
use Rattle.pacing_wheel.proofs.MergeLemmas.{find-merged, least-both, ordered, second-first, take-first, take-second}

-- within one turn a place has one time
pub one-time : (c d e : ℕ) → Covers c d → Covers c e → d % 4096 ≡ e % 4096 → d ≡ e
one-time c d e cd ce same =
    omega (arith, div-add-mod d 4096, div-add-mod e 4096, same, cd.0, cd.1, ce.0, ce.1)

-- 1. a list has one time, so all are in order

list-in-order : (c i : ℕ) (l : List Paced) → AllByRecursion (StandsAt c i) l → InOrder l
list-in-order c i [] all = tt
list-in-order c i (p ∷ ps) all = (
  all-each (StandsAt c i) (λ q. p.due ≤ q.due) ps
      (λ q at. let e = one-time c p.due q.due all.0.0 at.0 (all.0.1 ∙ sym at.1) in omega (arith, e)) all.1,
  list-in-order c i ps all.1,
)

pub each-in-order : (c i : ℕ) (ls : List (List Paced)) → AllStand c i ls → AllByRecursion InOrder ls
each-in-order c i [] all = tt
each-in-order c i (l ∷ ls) all = (list-in-order c i l all.0, each-in-order c (suc i) ls all.1)

pub together-in-order : (ls : List (List Paced)) → AllByRecursion InOrder ls → InOrder (together ls)
together-in-order [] all = tt
together-in-order (l ∷ ls) all = merged-in-order l (together ls) all.0 (together-in-order ls all.1)

-- 2. what holds of each holds of all

all-put : (P : Paced → Type 0) (o : Paced) (xs : List Paced) → P o → AllByRecursion P xs
    → AllByRecursion P (put_before o xs)
all-put P o [] h all = (h, tt)
all-put P o (p ∷ ps) h all = by (all-put P o ps h all.1) (leb o.due p.due) refl
  where
    by : AllByRecursion P (put_before o ps) → (b : Bool) → leb o.due p.due ≡ b
        → AllByRecursion P (put_before o (p ∷ ps))
    by ih true t = rw t (h, all)
    by ih false t = rw t (all.0, ih)

all-merged : (P : Paced → Type 0) (os xs : List Paced) → AllByRecursion P os → AllByRecursion P xs
    → AllByRecursion P (merged os xs)
all-merged P [] xs all rest = rest
all-merged P (o ∷ os) xs all rest = all-put P o (merged os xs) all.0 (all-merged P os xs all.1 rest)

pub all-together : (P : Paced → Type 0) (c i : ℕ) (ls : List (List Paced))
    → ((j : ℕ) (p : Paced) → i ≤ j → StandsAt c j p → P p) → AllStand c i ls → AllByRecursion P (together ls)
all-together P c i [] h all = tt
all-together P c i (l ∷ ls) h all =
    all-merged P l (together ls) (all-each (StandsAt c i) P l (λ p at. h i p (omega arith) at) all.0)
    (all-together P c (suc i) ls (λ j p low at. h j p (omega (arith, low)) at) all.1)

-- 3. one more stands last in the list of its place

added-end : (due : ℕ) (e : EntryValue) (l : List Paced) → AllByRecursion (λ q. q.due ≤ due) l
    → l ++ record { due = due; entry = e } ∷ [] ≡ added due e l
added-end due e [] all = refl
added-end due e (p ∷ ps) all = by (added-end due e ps all.1) (leb p.due due) refl
  where
    by : ps ++ record { due = due; entry = e } ∷ [] ≡ added due e ps → (b : Bool) → leb p.due due ≡ b
        → (p ∷ ps) ++ record { due = due; entry = e } ∷ [] ≡ added due e (p ∷ ps)
    by ih true t = rw t (ap (λ l. p ∷ l) ih)
    by ih false t = absurd (omega (arith, leb-false p.due due t, all.0))

pub added-together : (c i k due : ℕ) (e : EntryValue) (ls : List (List Paced)) → AllStand c i ls
    → Covers c due → due % 4096 ≡ i + k → k < length ls
    → together (with_last k (record { due = due; entry = e }) ls) ≡ added due e (together ls)
added-together c i k due e [] all covers at h = absurd (omega (arith, h))
added-together c i zero due e (l ∷ ls) all covers at h =
    let same : AllByRecursion (λ q. q.due ≤ due) l =
    all-each (StandsAt c i) (λ q. q.due ≤ due) l
    (λ q s. let x = one-time c q.due due s.0 covers (omega (arith, s.1, at)) in omega (arith, x)) all.0 in
    ap (λ x. merged x (together ls)) (added-end due e l same)
    ∙ added-merged due e l (together ls) (list-in-order c i l all.0)
    (all-together (λ p. p.due ≢ due) c (suc i) ls
    (λ j p low s same. omega (arith, low, s.1, at, ap (λ n. n % 4096) same)) all.1)
added-together c i (suc k) due e (l ∷ ls) all covers at h =
    ap (merged l) (added-together c (suc i) k due e ls all.1 covers (omega (arith, at)) (omega (arith, h)))
    ∙ merged-added due e l (together ls)

pub stand-added : (c i k : ℕ) (p : Paced) (ls : List (List Paced)) → AllStand c i ls → StandsAt c (i + k) p
    → AllStand c i (with_last k p ls)
stand-added c i k p [] all h = tt
stand-added c i zero p (l ∷ ls) all h =
    (all-push (StandsAt c i) l p all.0 (h.0, omega (arith, h.1), h.2), all.1)
stand-added c i (suc k) p (l ∷ ls) all h =
    (all.0, stand-added c (suc i) k p ls all.1 (h.0, omega (arith, h.1), h.2))

pub last-length : (k : ℕ) (p : Paced) (ls : List (List Paced)) → length (with_last k p ls) ≡ length ls
last-length k p [] = refl
last-length zero p (l ∷ ls) = refl
last-length (suc k) p (l ∷ ls) = ap suc (last-length k p ls)

pub mod-small : (n : ℕ) → n % 4096 < 4096
mod-small n = mod-lt n (omega arith)

-- 4. the cursor passes an empty place

pub turn-on : (c i : ℕ) (ls : List (List Paced)) → AllStand c i ls
    → ((k : ℕ) → i + k ≡ c % 4096 → list_at ls k ≡ []) → AllStand (suc c) i ls
turn-on c i [] all none = tt
turn-on c i (l ∷ ls) all none = (
  dite (ℕ_discrete i (c % 4096))
      (λ here. subst (AllByRecursion (StandsAt (suc c) i)) (sym (none 0 (omega (arith, here)))) tt)
      (λ away. all-each (StandsAt c i) (StandsAt (suc c) i) l (on away) all.0),
  turn-on c (suc i) ls all.1 (λ k at. none (suc k) (omega (arith, at))),
)
  where
    on : i ≢ c % 4096 → (p : Paced) → StandsAt c i p → StandsAt (suc c) i p
    on away p s = dite (ℕ_discrete p.due c)
        (λ same. absurd (away (sym s.1 ∙ ap (λ n. n % 4096) same)))
        (λ other. ((omega (arith, s.0.0, other), omega (arith, s.0.1)), s.1, s.2))

empty-at : (ls : List (List Paced)) (k : ℕ) → length (list_at ls k) ≡ 0 → list_at ls k ≡ []
empty-at ls k h = by (list_at ls k) refl
  where
    by : (l : List Paced) → list_at ls k ≡ l → list_at ls k ≡ []
    by [] e = e
    by (p ∷ ps) e = let n = ap length e in absurd (omega (arith, h, n))

-- as the walk over the places does it
pub pass-place : (c : ℕ) (ls : List (List Paced)) → AllStand c 0 ls → length (list_at ls (c % 4096)) ≡ 0
    → AllStand (c + 1) 0 ls
pass-place c ls all h = subst (λ n. AllStand n 0 ls) (omega arith)
    (turn-on c 0 ls all (λ k at. let is : k ≡ c % 4096 = omega (arith, at) in
    subst (λ n. list_at ls n ≡ []) (sym is) (empty-at ls (c % 4096) h)))

-- where no entry waits, any cursor will do
pub none-stand : (c i : ℕ) (ls : List (List Paced)) → length (together ls) ≡ 0 → AllStand c i ls
none-stand c i [] h = tt
none-stand c i (l ∷ ls) h = (
  by l (omega (arith, h, length-merged l (together ls))),
  none-stand c (suc i) ls (omega (arith, h, length-merged l (together ls))),
)
  where
    by : (l : List Paced) → length l ≡ 0 → AllByRecursion (StandsAt c i) l
    by [] h = tt
    by (p ∷ ps) h = absurd (omega (arith, h))

-- 5. the first entry stands first in the list of the cursor's place

pub record FirstAt (t k : ℕ) (ls : List (List Paced)) : Type 0 where
  pub first : Paced
  pub at : slice_get (list_at ls k) 0 ≡ Some first
  pub all : together ls ≡ first ∷ together (set ls k (drop 1 (list_at ls k)))
  pub due : first.due ≡ t

pub first-at : (t i k : ℕ) (ls : List (List Paced)) → AllStand t i ls → i + k ≡ t % 4096
    → 0 < length (list_at ls k) → FirstAt t k ls
first-at t i k [] all at some = absurd (omega (arith, some))
first-at t i zero ([] ∷ ls) all at some = absurd (omega (arith, some))
first-at t i zero ((p ∷ ps) ∷ ls) all at some =
    let now : p.due ≡ t = one-time t p.due t all.0.0.0 (omega arith, omega arith) (omega (arith, all.0.0.1, at)) in
    record {
      first = p;
      at = refl;
      all = first-first p ps (together ls)
          (all-each (StandsAt t i) (λ q. p.due ≤ q.due) ps (λ q s. omega (arith, now, s.0.0)) all.0.1)
          (all-together (λ q. p.due ≤ q.due) t (suc i) ls (λ j q low s. omega (arith, now, s.0.0)) all.1);
      due = now;
    }
first-at t i (suc k) (l ∷ ls) all at some =
    let f = first-at t (suc i) k ls all.1 (omega (arith, at)) some in
    record {
      first = f.first;
      at = f.at;
      all = ap (merged l) f.all ∙ second-first l f.first (together (set ls k (drop 1 (list_at ls k))))
          (all-each (StandsAt t i) (λ q. f.first.due < q.due) l (late f.due) all.0);
      due = f.due;
    }
  where
    late : {d : ℕ} → d ≡ t → (q : Paced) → StandsAt t i q → d < q.due
    late now q s = dite (ℕ_discrete q.due t)
        (λ same. absurd (omega (arith, s.1, at, ap (λ n. n % 4096) same)))
        (λ other. omega (arith, now, other, s.0.0))

-- what is due first, where the walk ended
late-all : (now : ℕ) (xs : List Paced) → AllByRecursion (λ p. now < p.due) xs
    → least_number (is_due now) due_of xs ≡ None
late-all now [] all = refl
late-all now (p ∷ ps) all = by (late-all now ps all.1) (leb p.due now) refl
  where
    by : least_number (is_due now) due_of ps ≡ None → (b : Bool) → leb p.due now ≡ b
        → least_number (is_due now) due_of (p ∷ ps) ≡ None
    by ih true t = absurd (omega (arith, leb-true p.due now t, all.0))
    by ih false t = rw t ih

pub due-by : (t now : ℕ) (ls : List (List Paced)) → AllStand t 0 ls → t ≤ now
    → (t < now → 0 < length (list_at ls (t % 4096)))
    → slice_get (list_at ls (t % 4096)) 0 ≡ least (is_due now) due_of (together ls)
due-by t now ls all within found = by (length (list_at ls (t % 4096))) refl
  where
    by : (n : ℕ) → length (list_at ls (t % 4096)) ≡ n
        → slice_get (list_at ls (t % 4096)) 0 ≡ least (is_due now) due_of (together ls)
    by zero h =
        let end : t ≡ now = dite (ℕ_discrete t now) (λ e. e)
        (λ n. let some = found (omega (arith, within, n)) in absurd (omega (arith, some, h))) in
        let later = all-together (λ p. now < p.due) (t + 1) 0 ls (λ j p low s. omega (arith, s.0.0, end)) (pass-place t ls all h) in
        ap (λ l. slice_get l 0) (empty-at ls (t % 4096) h)
        ∙ sym (late-least now (together ls) (late-all now (together ls) later)).0
    by (suc n) h =
        let f = first-at t 0 (t % 4096) ls all (omega arith) (omega (arith, h)) in
        let sorted = ordered (together ls) (together-in-order ls (each-in-order t 0 ls all)) in
        f.at ∙ sym (ap (least (is_due now) due_of) f.all
        ∙ (due-least now f.first (together (set ls (t % 4096) (drop 1 (list_at ls (t % 4096)))))
        (subst (IsNonDecreasingBy due_of) f.all sorted) (omega (arith, f.due, within))).0)

pub none-before : (c now : ℕ) (ls : List (List Paced)) → AllStand c 0 ls → now < c
    → least (is_due now) due_of (together ls) ≡ None
none-before c now ls all early =
    (late-least now (together ls) (late-all now (together ls)
    (all-together (λ p. now < p.due) c 0 ls (λ j p low s. omega (arith, s.0.0, early)) all))).0

-- the walk to the last time finds the first entry
pub found-last : (t limit : ℕ) (ls : List (List Paced)) → AllStand t 0 ls → 0 < length (together ls)
    → limit + 1 ≡ 2 ^ 64 → t ≤ limit → (t < limit → 0 < length (list_at ls (t % 4096)))
    → 0 < length (list_at ls (t % 4096))
found-last t limit ls all some last within found = by (length (list_at ls (t % 4096))) refl
  where
    none : (xs : List Paced) → AllByRecursion (λ p. ⊥) xs → length xs ≡ 0
    none [] all = refl
    none (x ∷ xs) all = absurd all.0

    by : (n : ℕ) → length (list_at ls (t % 4096)) ≡ n → 0 < length (list_at ls (t % 4096))
    by (suc n) h = omega (arith, h)
    by zero h =
        let end : t ≡ limit = dite (ℕ_discrete t limit) (λ e. e)
        (λ n. let some = found (omega (arith, within, n)) in absurd (omega (arith, some, h))) in
        let empty = none (together ls)
        (all-together (λ p. ⊥) (t + 1) 0 ls (λ j p low s. omega (arith, s.0.0, s.2, end, last)) (pass-place t ls all h)) in
        absurd (omega (arith, some, empty))

-- and where all are due, the first of all is
pub all-due : (now : ℕ) (items : List Paced) → IsNonDecreasingBy due_of items
    → AllByRecursion (λ p. p.due ≤ now) items → least (is_due now) due_of items ≡ slice_get items 0
all-due now [] sorted all = refl
all-due now (p ∷ ps) sorted all = (due-least now p ps sorted all.0).0

-- 6. some entries of a list go

pub stand-set : (c i k : ℕ) (ls : List (List Paced)) (l : List Paced) → AllStand c i ls
    → ((P : Paced → Type 0) → AllByRecursion P (list_at ls k) → AllByRecursion P l) → AllStand c i (set ls k l)
stand-set c i k [] l all h = tt
stand-set c i zero (x ∷ xs) l all h = (h (StandsAt c i) all.0, all.1)
stand-set c i (suc k) (x ∷ xs) l all h = (all.0, stand-set c (suc i) k xs l all.1 h)

pub all-behind : (P : Paced → Type 0) (l : List Paced) → AllByRecursion P l → AllByRecursion P (drop 1 l)
all-behind P [] all = all
all-behind P (p ∷ ps) all = all.1

module _ (test : Paced → Bool) where
  pub all-found : (P : Paced → Type 0) (xs : List Paced) (p : Paced) → AllByRecursion P xs → find test xs ≡ Some p → P p
  all-found P [] p all is = cc
  all-found P (x ∷ xs) p all is = by (all-found P xs p all.1) (test x) refl
    where
      by : (find test xs ≡ Some p → P p) → (b : Bool) → test x ≡ b → P p
      by ih true t = let same : x ≡ p = let e : Some x ≡ Some p = rw t at is in cc in subst P same all.0
      by ih false t = ih (rw t at is)

  pub without-together : (c i k : ℕ) (ls : List (List Paced)) (p : Paced) → AllStand c i ls
      → find test (together ls) ≡ Some p → p.due % 4096 ≡ i + k
      → (find test (list_at ls k) ≡ Some p)
      × (without_first test (together ls) ≡ together (set ls k (without_first test (list_at ls k))))
  without-together c i k [] p all is at = cc
  without-together c i k (l ∷ ls) p all is at =
      by (is_first (find test l) (find test (together ls))) refl k at
      (λ m found there. without-together c (suc i) m ls p all.1 found there)
    where
      sorted : InOrder l
      sorted = list-in-order c i l all.0

      rest : InOrder (together ls)
      rest = together-in-order ls (each-in-order c (suc i) ls all.1)

      here : find test l ≡ Some p → p.due % 4096 ≡ i
      here h = all-found (λ q. q.due % 4096 ≡ i) l p
          (all-each (StandsAt c i) (λ q. q.due % 4096 ≡ i) l (λ q s. s.1) all.0) h

      there : find test (together ls) ≡ Some p → i < p.due % 4096
      there h = all-found (λ q. i < q.due % 4096) (together ls) p
          (all-together (λ q. i < q.due % 4096) c (suc i) ls (λ j q low s. omega (arith, low, s.1)) all.1) h

      by : (b : Bool) → is_first (find test l) (find test (together ls)) ≡ b → (k : ℕ) → p.due % 4096 ≡ i + k
          → ((m : ℕ) → find test (together ls) ≡ Some p → p.due % 4096 ≡ suc i + m
          → (find test (list_at ls m) ≡ Some p)
          × (without_first test (together ls) ≡ together (set ls m (without_first test (list_at ls m)))))
          → (find test (list_at (l ∷ ls) k) ≡ Some p)
          × (without_first test (together (l ∷ ls)) ≡ together (set (l ∷ ls) k (without_first test (list_at (l ∷ ls) k))))
      by true t zero at ih = let f = take-first test l (together ls) sorted rest t in (sym f.0 ∙ is, f.1)
      by true t (suc k) at ih = let f = take-first test l (together ls) sorted rest t in
          absurd (omega (arith, at, here (sym f.0 ∙ is)))
      by false t zero at ih = let f = take-second test l (together ls) sorted rest t in
          absurd (omega (arith, at, there (sym f.0 ∙ is)))
      by false t (suc k) at ih = let f = take-second test l (together ls) sorted rest t in
          let r = ih k (sym f.0 ∙ is) (omega (arith, at)) in
          (r.0, f.1 ∙ ap (merged l) r.1)

  pub found-fewer : (xs : List Paced) → is_some (find test xs) ≡ true → suc (length (without_first test xs)) ≡ length xs
  found-fewer [] h = cc
  found-fewer (x ∷ xs) h = by (found-fewer xs) (test x) refl
    where
      by : (is_some (find test xs) ≡ true → suc (length (without_first test xs)) ≡ length xs) → (b : Bool) → test x ≡ b
          → suc (length (without_first test (x ∷ xs))) ≡ length (x ∷ xs)
      by ih true t = rw t refl
      by ih false t = rw t (ap suc (ih (rw t at h)))

pub some-any : (test : Paced → Bool) (xs : List Paced) → is_some (find test xs) ≡ list_any test xs
some-any test [] = refl
some-any test (x ∷ xs) = by (some-any test xs) (test x) refl
  where
    by : is_some (find test xs) ≡ list_any test xs → (b : Bool) → test x ≡ b
        → is_some (find test (x ∷ xs)) ≡ list_any test (x ∷ xs)
    by ih true t = rw t refl
    by ih false t = rw t ih

-- 7. from the last list to the first

drop-at : (ls : List (List Paced)) (k : ℕ) → suc k ≤ length ls → drop k ls ≡ list_at ls k ∷ drop (suc k) ls
drop-at [] k h = absurd (omega (arith, h))
drop-at (l ∷ ls) zero h = refl
drop-at (l ∷ ls) (suc k) h = drop-at ls k (omega (arith, h))

each-behind : (ls : List (List Paced)) (k : ℕ) → AllByRecursion InOrder ls → AllByRecursion InOrder (drop k ls)
each-behind ls zero all = all
each-behind [] (suc k) all = all
each-behind (l ∷ ls) (suc k) all = each-behind ls k all.1

pub found-step : (test : Paced → Bool) (ls : List (List Paced)) (k : ℕ) → AllByRecursion InOrder ls
    → k < length ls
    → find test (together (drop k ls))
    ≡ earlier (find test (list_at ls k)) (find test (together (drop (k + 1) ls)))
found-step test ls k all h =
    let next : suc k ≡ k + 1 = omega arith in
    let cut = drop-at ls k (omega (arith, h)) in
    let each : AllByRecursion InOrder (list_at ls k ∷ drop (suc k) ls) =
    subst (AllByRecursion InOrder) cut (each-behind ls k all) in
    ap (λ xs. find test (together xs)) cut
    ∙ (find-merged test (list_at ls k) (together (drop (suc k) ls)) each.0 (together-in-order (drop (suc k) ls) each.1)
    ∙ ap (λ m. earlier (find test (list_at ls k)) (find test (together (drop m ls)))) next)

pub least-step : (passes : Paced → Bool) (ls : List (List Paced)) (k : ℕ) → k < length ls
    → least_number passes number_of (together (drop k ls))
    ≡ lesser (least_number passes number_of (list_at ls k))
    (least_number passes number_of (together (drop (k + 1) ls)))
least-step passes ls k h =
    let next : suc k ≡ k + 1 = omega arith in
    ap (λ xs. least_number passes number_of (together xs)) (drop-at ls k (omega (arith, h)))
    ∙ (least-both passes number_of (list_at ls k) (together (drop (suc k) ls))
    ∙ ap (λ m. lesser (least_number passes number_of (list_at ls k)) (least_number passes number_of (together (drop m ls)))) next)

-- 8. no list has anything

abbrev pub empty : ℕ → List (List Paced)
empty n = replicate n []

pub none-together : (n : ℕ) → together (empty n) ≡ []
none-together zero = refl
none-together (suc n) = none-together n

pub empty-length : (n : ℕ) → length (empty n) ≡ n
empty-length zero = refl
empty-length (suc n) = ap suc (empty-length n)

pub all-places : (size n : ℕ) → n ≡ cond (size == 0) 0 4096 → 0 < size → n ≡ 4096
all-places size n is some = by (size == 0) refl
  where
    by : (b : Bool) → (size == 0) ≡ b → n ≡ 4096
    by true t = absurd (omega (arith, some, eqb-true size 0 t))
    by false t = is ∙ ap (λ b. cond b 0 4096) t
