-- Calls in the order of their numbers, as one is added, changed or taken out, and what that order tells of
-- the active ones.
use Rattle.std.proofs.Common.{◌≡◌, ℕ, ◌<◌, ◌≤◌, Bool, true, false, cond, eqb, Option, Some, None}
use Rattle.std.proofs.Common.{List, [], ◌∷◌, ◌++◌, refl, ◌∙◌, arith}
use Rattle.std.specs.Prelude.{IfSome, count_by, map}
use Rattle.std.specs.List.{AllByRecursion, find, list_any}
use Rattle.std.proofs.lemmas.Bool.{eq-eqb, eqb-true}
use Rattle.std.proofs.lemmas.Bool.Decides.{nat_tests}
use Rattle.rpc_base.specs.Least.{bearer, least, least_number, smaller}
use Rattle.rpc_base.specs.Tables.{at_first, without_first}
use Rattle.buffer_pool.specs.Pool.{Pool}
use Rattle.rpc_laws.specs.declared.tables.Call.{Call}
use Rattle.client_core.specs.declared.call.ActiveCall.{ActiveCall}
use Rattle.client_core.specs.Shown.{shown_active}
use Rattle.client_core.specs.Timeouts.{is_numbered}
use Rattle.client_core.specs.Watching.{call_number}
use Rattle.session_store.specs.Ends.{Ascends}
use Rattle.rpc_base.proofs.FirstLemmas.{all-push, counted-cons, all-kept}

-- what holds of two lists
module _ {A : Type 0} (P : A → Type 0) where
  all-left : (xs ys : List A) → AllByRecursion P (xs ++ ys) → AllByRecursion P xs
  all-left [] ys all = tt
  all-left (x ∷ xs) ys all = (all.0, all-left xs ys all.1)

  all-right : (xs ys : List A) → AllByRecursion P (xs ++ ys) → AllByRecursion P ys
  all-right [] ys all = all
  all-right (x ∷ xs) ys all = all-right xs ys all.1

  without-cons : (p : A → Bool) (x : A) (xs : List A) (b : Bool) → AllByRecursion P (x ∷ xs)
      → AllByRecursion P (without_first p xs)
      → AllByRecursion P (cond b xs (x ∷ without_first p xs))
  without-cons p x xs true all ih = all.1
  without-cons p x xs false all ih = (all.0, ih)

  all-without : (p : A → Bool) (xs : List A) → AllByRecursion P xs
      → AllByRecursion P (without_first p xs)
  all-without p [] all = tt
  all-without p (x ∷ xs) all = without-cons p x xs (p x) all (all-without p xs all.1)

-- a call with a number above all others at the end
pub ascends-end : (cs : List Call) (c : Call) → Ascends cs
    → AllByRecursion (λ d. d.what.number < c.what.number) cs → Ascends (cs ++ c ∷ [])
ascends-end [] c up below = (tt, tt)
ascends-end (d ∷ ds) c up below =
    (all-push (λ e. d.what.number < e.what.number) ds c up.0 below.0, ascends-end ds c up.1 below.1)

-- a call that keeps its number is changed
module _ (p : Call → Bool) (f : Call → Call) (same : (c : Call) → (f c).what ≡ c.what) where
  changed-cons : (c : Call) (cs : List Call) (b : Bool) → Ascends (c ∷ cs)
      → Ascends (at_first p f cs) → Ascends (cond b (f c ∷ cs) (c ∷ at_first p f cs))
  changed-cons c cs true up ih = rw (same c) up
  changed-cons c cs false up ih =
      (all-kept p f (λ d. c.what.number < d.what.number) cs (λ d here passes. rw (same d) here) up.0, ih)

  pub ascends-changed : (cs : List Call) → Ascends cs → Ascends (at_first p f cs)
  ascends-changed [] up = tt
  ascends-changed (c ∷ cs) up = changed-cons c cs (p c) up (ascends-changed cs up.1)

-- a call is taken out
module _ (p : Call → Bool) where
  taken-cons : (c : Call) (cs : List Call) (b : Bool) → Ascends (c ∷ cs)
      → Ascends (without_first p cs) → Ascends (cond b cs (c ∷ without_first p cs))
  taken-cons c cs true up ih = up.1
  taken-cons c cs false up ih = (all-without (λ d. c.what.number < d.what.number) p cs up.0, ih)

  pub ascends-without : (cs : List Call) → Ascends cs → Ascends (without_first p cs)
  ascends-without [] up = tt
  ascends-without (c ∷ cs) up = taken-cons c cs (p c) up (ascends-without cs up.1)

-- the calls in front of others
pub ascends-front : (cs ds : List Call) → Ascends (cs ++ ds) → Ascends cs
ascends-front [] ds up = tt
ascends-front (c ∷ cs) ds up = (all-left (λ d. c.what.number < d.what.number) cs ds up.0, ascends-front cs ds up.1)

-- and those in front of one call
pub ascends-before : (cs : List Call) (c : Call) (ds : List Call) → Ascends (cs ++ c ∷ ds)
    → AllByRecursion (λ d. d.what.number < c.what.number) cs
ascends-before [] c ds up = tt
ascends-before (b ∷ bs) c ds up =
    ((all-right (λ d. b.what.number < d.what.number) bs (c ∷ ds) up.0).0, ascends-before bs c ds up.1)

-- the active calls, as they are shown
module _ (pool : Pool) where
  other-number : (n m : ℕ) (b : Bool) → eqb m n ≡ b → n < m → eqb m n ≡ false
  other-number n m true t below = absurd (omega (arith, eqb-true m n t))
  other-number n m false t below = t

  none-above : (n : ℕ) (xs : List ActiveCall) → AllByRecursion (λ d. n < d.what.number)
      (map (shown_active pool) xs) → count_by (is_numbered n) xs ≡ 0
  none-above n [] above = refl
  none-above n (x ∷ xs) above =
      omega (
        arith,
        counted-cons (is_numbered n) x xs false
            (other-number n x.call (eqb x.call n) refl above.0),
        none-above n xs above.1,
      )

  few-cons : (n : ℕ) (x : ActiveCall) (xs : List ActiveCall) (b : Bool) → is_numbered n x ≡ b
      → AllByRecursion (λ d. x.call < d.what.number) (map (shown_active pool) xs)
      → count_by (is_numbered n) xs ≤ 1 → count_by (is_numbered n) (x ∷ xs) ≤ 1
  few-cons n x xs true t above ih =
      let same : x.call ≡ n = eqb-true x.call n t in
      omega (arith, counted-cons (is_numbered n) x xs true t, none-above n xs (rw same at above))
  few-cons n x xs false t above ih = omega (arith, counted-cons (is_numbered n) x xs false t)

  -- at most one has a number
  pub few-numbered : (xs : List ActiveCall) → Ascends (map (shown_active pool) xs) → (n : ℕ)
      → count_by (is_numbered n) xs ≤ 1
  few-numbered [] up n = omega arith
  few-numbered (x ∷ xs) up n = few-cons n x xs (is_numbered n x) refl up.0 (few-numbered xs up.1 n)

  lower-number : (n m : ℕ) (b : Bool) → eqb m n ≡ b → m < n → eqb m n ≡ false
  lower-number n m true t below = absurd (omega (arith, eqb-true m n t))
  lower-number n m false t below = t

  -- and none has a number above all of theirs
  pub unlisted : (n : ℕ) (xs : List ActiveCall) → AllByRecursion (λ d. d.what.number < n)
      (map (shown_active pool) xs) → list_any (is_numbered n) xs ≡ false
  unlisted n [] below = refl
  unlisted n (x ∷ xs) below = rw (lower-number n x.call (eqb x.call n) refl below.0) (unlisted n xs below.1)

  -- the first that passes a test is that of least number
  module _ (passes : ActiveCall → Bool) where
    smaller-above : (n k : ℕ) (o : Option ℕ) → n < k → IfSome o (λ m. n < m) → n < smaller k o
    smaller-above n k None here there = here
    smaller-above n k (Some m) here there = grind (arith, nat_tests)

    above-cons : (n k : ℕ) (o : Option ℕ) (b : Bool) → n < k → IfSome o (λ m. n < m)
        → IfSome (cond b (Some (smaller k o)) o) (λ m. n < m)
    above-cons n k o true here there = smaller-above n k o here there
    above-cons n k o false here there = there

    above-least : (n : ℕ) (xs : List ActiveCall) → AllByRecursion (λ d. n < d.what.number)
        (map (shown_active pool) xs) → IfSome (least_number passes call_number xs) (λ m. n < m)
    above-least n [] above = tt
    above-least n (x ∷ xs) above =
        above-cons n x.call (least_number passes call_number xs)
        (passes x) above.0 (above-least n xs above.1)

    smaller-same : (n : ℕ) (o : Option ℕ) → IfSome o (λ m. n < m) → smaller n o ≡ n
    smaller-same n None above = refl
    smaller-same n (Some m) above = grind (arith, nat_tests)

    skipped : (x : ActiveCall) (xs : List ActiveCall) (o : Option ℕ) → passes x ≡ false
        → bearer passes call_number (x ∷ xs) o ≡ bearer passes call_number xs o
    skipped x xs None t = refl
    skipped x xs (Some n) t = rw t refl

    least-cons : (x : ActiveCall) (xs : List ActiveCall) (b : Bool) → passes x ≡ b
        → AllByRecursion (λ d. x.call < d.what.number) (map (shown_active pool) xs)
        → least passes call_number xs ≡ find passes xs → bearer passes call_number (x ∷ xs)
        (cond b (Some (smaller x.call (least_number passes call_number xs)))
        (least_number passes call_number xs)) ≡ cond b (Some x)
        (find passes xs)
    least-cons x xs true t above ih =
        rw (
          smaller-same x.call (least_number passes call_number xs) (above-least x.call xs above),
          t,
          eq-eqb x.call x.call refl,
        ) refl
    least-cons x xs false t above ih = skipped x xs (least_number passes call_number xs) t ∙ ih

    pub least-first : (xs : List ActiveCall) → Ascends (map (shown_active pool) xs)
        → least passes call_number xs ≡ find passes xs
    least-first [] up = refl
    least-first (x ∷ xs) up = least-cons x xs (passes x) refl up.0 (least-first xs up.1)
