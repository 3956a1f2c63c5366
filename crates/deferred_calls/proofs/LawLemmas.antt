-- The desk law.
use Rattle.std.proofs.Common.{◌≡◌, ◌≢◌, ℕ, zero, suc, ◌+◌, ◌<◌, ◌≤◌, List, [], ◌∷◌, ◌++◌, map}
use Rattle.std.proofs.Common.{append-nil, append_assoc, sym, ap, subst, ◌∙◌, arith, slice_get, Some}
use Rattle.std.proofs.Common.{ne_eqb, eq-eqb, refl, cond}
use mathlib.Core.Logic.{dite}
use native.Mathlib.Decide.{ℕ_discrete}
use Rattle.std.specs.List.{remove}
use Rattle.worker_board.specs.declared.Parcel.{Parcel}
use Rattle.deferred_calls.specs.declared.job.Numbered.{Numbered}
use Rattle.deferred_calls.specs.Desks.{Jobs, Rises}
use Rattle.deferred_calls.specs.Law.{Call, gives, hands, answers, takes, Runs, IsEmpty, KeepsLaw}
use Rattle.deferred_calls.specs.Law.{jobs_handed, jobs_answered, parcels_taken, finished}
use Rattle.deferred_calls.specs.Law.{is_number, times}
use Rattle.deferred_calls.proofs.DeskLemmas.{rises_push}

-- the numbers that are handed out rise, from `low` on
abbrev pub HandsRise : ℕ → List Call → Type 0
HandsRise low [] = Unit {0}
HandsRise low (gives p ∷ cs) = HandsRise low cs
HandsRise low (hands n ∷ cs) = (low ≤ n.number) × HandsRise (suc n.number) cs
HandsRise low (answers n ∷ cs) = HandsRise low cs
HandsRise low (takes p ∷ cs) = HandsRise low cs

module _ (answer : ℕ → List ℕ → List ℕ) where
  -- each job is handed out once, the older before the younger
  pub hands_rise : (cs : List Call) (s t : Jobs) (low : ℕ) → Rises low s.waiting s.given → Runs answer cs s t → HandsRise low cs
  hands_rise [] s t low r run = tt
  hands_rise (gives p ∷ cs) s t low r run = hands_rise cs run.0 t low
      (subst (λ (x : Jobs). Rises low x.waiting x.given) (sym run.1)
      (rises_push low s.waiting (record { number = s.given; parcel = p }) s.given r refl)) run.2
  hands_rise (hands n ∷ cs) s t low r run = let h = run.1 in
      let now : Rises low (n ∷ h.0) s.given = subst (λ (l : List Numbered). Rises low l s.given) h.1 r in (
        now.0,
        hands_rise cs run.0 t (suc n.number) (subst (λ (x : Jobs). Rises (suc n.number) x.waiting x.given) (sym h.2) now.1) run.2,
      )
  hands_rise (answers n ∷ cs) s t low r run = let h = run.1 in
      hands_rise cs run.0 t low (subst (λ (x : Jobs). Rises low x.waiting x.given) (sym h.2) r) run.2
  hands_rise (takes p ∷ cs) s t low r run = let h = run.1 in
      hands_rise cs run.0 t low (subst (λ (x : Jobs). Rises low x.waiting x.given) (sym h.2) r) run.2

  -- no job is answered more often than it was handed out
  pub answered_handed : (m : ℕ) (cs : List Call) (s t : Jobs) → Runs answer cs s t → times m (jobs_answered cs) ≤ times m s.handled + times m (jobs_handed cs)
  answered_handed m [] s t run = omega arith
  answered_handed m (gives p ∷ cs) s t run = let below = answered_handed m cs run.0 t run.2 in
      omega (arith, below, ap (λ (x : Jobs). times m x.handled) run.1)
  answered_handed m (hands n ∷ cs) s t run = let below = answered_handed m cs run.0 t run.2 in
      omega (arith, below, ap (λ (x : Jobs). times m x.handled) run.1.2, times_push m s.handled n)
    where
      times_push : (m : ℕ) (ns : List Numbered) (n : Numbered) → times m (ns ++ n ∷ []) ≡ times m ns + is_number m n
      times_push m [] n = omega arith
      times_push m (x ∷ ns) n = omega (arith, times_push m ns n)
  answered_handed m (answers n ∷ cs) s t run = let below = answered_handed m cs run.0 t run.2 in
      omega (arith, below, ap (λ (x : Jobs). times m x.handled) run.1.2, times_out m s.handled run.1.0 n run.1.1)
    where
      times_out : (m : ℕ) (ns : List Numbered) (k : ℕ) (n : Numbered) → slice_get ns k ≡ Some n → times m (remove ns k) + is_number m n ≡ times m ns
      times_out m [] k n e = cc
      times_out m (x ∷ ns) zero n e = let same : x ≡ n = cc in omega (arith, ap (is_number m) same)
      times_out m (x ∷ ns) (suc k) n e = omega (arith, times_out m ns k n e)
  answered_handed m (takes p ∷ cs) s t run = let below = answered_handed m cs run.0 t run.2 in
      omega (arith, below, ap (λ (x : Jobs). times m x.handled) run.1.2)

number_same : (m : ℕ) (n : Numbered) → n.number ≡ m → is_number m n ≡ 1
number_same m n e = ap (λ b. cond b 1 0) (eq-eqb n.number m e)

number_other : (m : ℕ) (n : Numbered) → n.number ≢ m → is_number m n ≡ 0
number_other m n ne = ap (λ b. cond b 1 0) (ne_eqb n.number m ne)

-- numbers that rise stand once
not_below : (m low : ℕ) (cs : List Call) → HandsRise low cs → m < low → times m (jobs_handed cs) ≡ 0
not_below m low [] r l = refl
not_below m low (gives p ∷ cs) r l = not_below m low cs r l
not_below m low (hands n ∷ cs) r l = let a = r.0 in
    omega (arith, number_other m n (λ e. omega arith), not_below m (suc n.number) cs r.1 (omega arith))
not_below m low (answers n ∷ cs) r l = not_below m low cs r l
not_below m low (takes p ∷ cs) r l = not_below m low cs r l

pub handed_once : (m low : ℕ) (cs : List Call) → HandsRise low cs → times m (jobs_handed cs) ≤ 1
handed_once m low [] r = omega arith
handed_once m low (gives p ∷ cs) r = handed_once m low cs r
handed_once m low (hands n ∷ cs) r = dite (ℕ_discrete n.number m)
    (λ e. let z = not_below m (suc n.number) cs r.1 (omega arith) in omega (arith, z, number_same m n e))
    (λ ne. omega (arith, number_other m n ne, handed_once m (suc n.number) cs r.1))
handed_once m low (answers n ∷ cs) r = handed_once m low cs r
handed_once m low (takes p ∷ cs) r = handed_once m low cs r

-- what is taken is what was answered before, in order
module _ (answer : ℕ → List ℕ → List ℕ) where
  taken_in_order : (cs : List Call) (s t : Jobs) → Runs answer cs s t
      → s.answered ++ map (finished answer) (jobs_answered cs) ≡ parcels_taken cs ++ t.answered
  taken_in_order [] s t run = append-nil s.answered ∙ ap (λ (x : Jobs). x.answered) run
  taken_in_order (gives p ∷ cs) s t run =
      ap (λ (l : List Parcel). l ++ map (finished answer) (jobs_answered cs)) (sym (ap (λ (x : Jobs). x.answered) run.1))
      ∙ taken_in_order cs run.0 t run.2
  taken_in_order (hands n ∷ cs) s t run =
      ap (λ (l : List Parcel). l ++ map (finished answer) (jobs_answered cs)) (sym (ap (λ (x : Jobs). x.answered) run.1.2))
      ∙ taken_in_order cs run.0 t run.2
  taken_in_order (answers n ∷ cs) s t run =
      sym (append_assoc s.answered (finished answer n ∷ []) (map (finished answer) (jobs_answered cs)))
      ∙ ap (λ (l : List Parcel). l ++ map (finished answer) (jobs_answered cs)) (sym (ap (λ (x : Jobs). x.answered) run.1.2))
      ∙ taken_in_order cs run.0 t run.2
  taken_in_order (takes p ∷ cs) s t run =
      ap (λ (l : List Parcel). l ++ map (finished answer) (jobs_answered cs)) run.1.1
      ∙ ap (λ (l : List Parcel). p ∷ (l ++ map (finished answer) (jobs_answered cs))) (sym (ap (λ (x : Jobs). x.answered) run.1.2))
      ∙ ap (λ (l : List Parcel). p ∷ l) (taken_in_order cs run.0 t run.2)

-- a list that is mapped to two parts has two parts
parts : (f : Numbered → Parcel) (ns : List Numbered) (ps qs : List Parcel) → map f ns ≡ ps ++ qs
    → (ls : List Numbered) × (ms : List Numbered) × (ns ≡ ls ++ ms) × (ps ≡ map f ls) × (qs ≡ map f ms)
parts f ns [] qs e = ([], ns, refl, refl, sym e)
parts f [] (p ∷ ps) qs e = absurd (let no : ⊥ = cc in no)
parts f (n ∷ ns) (p ∷ ps) qs e = let rest : map f ns ≡ ps ++ qs = cc in let t = parts f ns ps qs rest in (
  n ∷ t.0,
  t.1,
  ap (λ (l : List Numbered). n ∷ l) t.2,
  (let first : p ≡ f n = cc in let others : ps ≡ map f t.0 = t.3 in λ i. first i ∷ others i),
  t.4,
)

times_append : (m : ℕ) (ns ms : List Numbered) → times m (ns ++ ms) ≡ times m ns + times m ms
times_append m [] ms = omega arith
times_append m (n ∷ ns) ms = omega (arith, times_append m ns ms)

-- of a desk that was empty: each job is handed out at most once, answered no more often, and taken
-- in the order of answers
pub desk_law : (answer : ℕ → List ℕ → List ℕ) (m : ℕ) (cs : List Call) (s t : Jobs) → IsEmpty s
    → Runs answer cs s t → KeepsLaw answer m cs t
desk_law answer m cs s t empty run =
    let low : Rises 0 s.waiting s.given = subst (λ (l : List Numbered). Rises 0 l s.given) (sym empty.waiting) (omega arith) in
    let order = ap (λ (l : List Parcel). l ++ map (finished answer) (jobs_answered cs)) (sym empty.answered) ∙ taken_in_order answer cs s t run in
    let t' = parts (finished answer) (jobs_answered cs) (parcels_taken cs) t.answered order in record {
      handed_once = handed_once m 0 cs (hands_rise answer cs s t 0 low run);
      answered_once = omega (arith, answered_handed answer m cs s t run, ap (times m) empty.handled);
      taken = t'.0;
      left = t'.1;
      in_order = t'.2;
      taken_are = t'.3;
      left_are = t'.4;
      taken_once = omega (arith, ap (times m) t'.2, times_append m t'.0 t'.1);
    }
