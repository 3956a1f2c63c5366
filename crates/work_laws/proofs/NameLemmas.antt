-- Names of jobs: those that aren't among the worked ones wait.
use Rattle.std.proofs.Common.{◌≡◌, ℕ, ◌+◌, ◌≤◌, Bool, true, false, not, ◌&&◌, ◌||◌, cond, List, [], ◌∷◌}
use Rattle.std.proofs.Common.{◌++◌, map, Some, slice_get, refl, sym, ap, ap₂, ◌∙◌, arith, eq-eqb}
use Rattle.std.specs.Prelude.{◌==◌, count_by}
use Rattle.std.specs.List.{filter, list_any, remove, AllByRecursion}
use Rattle.std.proofs.lemmas.Bool.{and_parts, eqb-true, eqb-false}
use Rattle.std.proofs.lemmas.List.Elements.{filter-append}
use Rattle.std.proofs.lemmas.List.Folds.{list_any-append}
use Rattle.end_laws.proofs.CountLemmas.{count-append}
use Rattle.rpc_base.specs.Tables.{without_first}
use Rattle.rpc_base.proofs.FirstLemmas.{all-each, counted-cons, counted-none, none-counted}
use Rattle.work_laws.proofs.FilterLemmas.{all-counted, filter-all, filter-fewer, filter-same}
use Rattle.work_laws.proofs.FilterLemmas.{filter-twice, first-filtered, keep-all, map-first, removed-filtered}
use Rattle.work_laws.proofs.FilterLemmas.{unpassed-counted}
use Rattle.rpc_laws.specs.Jobs.{is_job}
use Rattle.rpc_laws.specs.declared.tables.Job.{Job}
use Rattle.work_laws.specs.Known.{is_name, job_name, left_names, parcel_name}
use Rattle.worker_board.specs.declared.Parcel.{Parcel}

eqb-by : (a b : ℕ) (c d : Bool) → (a == b) ≡ c → (b == a) ≡ d → c ≡ d
eqb-by a b true true e h = refl
eqb-by a b true false e h = absurd (eqb-false b a h (sym (eqb-true a b e)))
eqb-by a b false true e h = absurd (eqb-false a b e (sym (eqb-true b a h)))
eqb-by a b false false e h = refl

eqb-sym : (a b : ℕ) → (a == b) ≡ (b == a)
eqb-sym a b = eqb-by a b (a == b) (b == a) refl refl

pub name-sym : (a b : ℕ × ℕ) → is_name a b ≡ is_name b a
name-sym a b = ap₂ (λ (c d : Bool). c && d) (eqb-sym b.0 a.0) (eqb-sym b.1 a.1)

pub name-own : (a : ℕ × ℕ) → is_name a a ≡ true
name-own a = rw (eq-eqb a.0 a.0 refl, eq-eqb a.1 a.1 refl) refl

pub name-same : (a b : ℕ × ℕ) → is_name a b ≡ true → b ≡ a
name-same a b e =
    let parts = and_parts (b.0 == a.0) (b.1 == a.1) e in
    ap₂ (λ (t r : ℕ). (t, r)) (eqb-true b.0 a.0 parts.0) (eqb-true b.1 a.1 parts.1)

-- each name stands once at most
abbrev pub AreApart : List (ℕ × ℕ) → Type 0
AreApart names = (n : ℕ × ℕ) → count_by (is_name n) names ≤ 1

-- those that aren't among the worked ones
abbrev pub unworked : List (ℕ × ℕ) → List (ℕ × ℕ) → List (ℕ × ℕ)
unworked done names = filter (λ n. not (list_any (is_name n) done)) names

neither : (a b : Bool) → (not a && not b) ≡ not (a || b)
neither true b = refl
neither false b = refl

pub unworked-append : (done later names : List (ℕ × ℕ))
    → unworked later (unworked done names) ≡ unworked (done ++ later) names
unworked-append done later names =
    filter-twice (λ n. not (list_any (is_name n) later)) (λ n. not (list_any (is_name n) done)) names
    ∙ filter-same (λ n. not (list_any (is_name n) done) && not (list_any (is_name n) later))
    (λ n. not (list_any (is_name n) (done ++ later)))
    (λ n. neither (list_any (is_name n) done) (list_any (is_name n) later)
    ∙ ap not (sym (list_any-append (is_name n) done later))) names

-- without those of one name
pub unworked-one : (n : ℕ × ℕ) (names : List (ℕ × ℕ))
    → filter (λ k. not (is_name n k)) names ≡ unworked (n ∷ []) names
unworked-one n names =
    filter-same (λ k. not (is_name n k)) (λ k. not (list_any (is_name k) (n ∷ []))) (by) names
  where
    or-nothing : (b : Bool) → (b || false) ≡ b
    or-nothing true = refl
    or-nothing false = refl

    by : (k : ℕ × ℕ) → not (is_name n k) ≡ not (list_any (is_name k) (n ∷ []))
    by k = ap not (name-sym n k ∙ sym (or-nothing (is_name k n)))

-- names without those of some jobs are those that aren't among them
pub left-unworked : (ps : List Parcel) (names : List (ℕ × ℕ)) → AreApart names
    → left_names ps names ≡ unworked (map parcel_name ps) names
left-unworked [] names apart = sym (keep-all names)
left-unworked (p ∷ ps) names apart =
    let n = parcel_name p in
    let rest : List (ℕ × ℕ) = filter (λ k. not (is_name n k)) names in
    let fewer : AreApart rest =
    λ k. let few = apart k in
    let less = filter-fewer (is_name k) (λ j. not (is_name n j)) names in
    omega arith in
    ap (left_names ps) (first-filtered (is_name n) names (apart n))
    ∙ (left-unworked ps rest fewer
    ∙ (ap (unworked (map parcel_name ps)) (unworked-one n names)
    ∙ unworked-append (n ∷ []) (map parcel_name ps) names))

-- a job that waits is worked
pub works-names : (names done waiting : List (ℕ × ℕ)) (j : ℕ) (n : ℕ × ℕ) → AreApart names
    → waiting ≡ unworked done names → slice_get waiting j ≡ Some n
    → remove waiting j ≡ unworked (done ++ n ∷ []) names
works-names names done waiting j n apart e at =
    let few : count_by (is_name n) waiting ≤ 1 =
    let less = filter-fewer (is_name n) (λ k. not (list_any (is_name k) done)) names in
    let same = ap (count_by (is_name n)) e in
    let one = apart n in
    omega arith in
    removed-filtered (is_name n) waiting j n few at (name-own n)
    ∙ (unworked-one n waiting ∙ (ap (unworked (n ∷ [])) e ∙ unworked-append done (n ∷ []) names))

-- jobs are finished and others are given
pub polls-names : (ps : List Parcel) (later gave waiting names : List (ℕ × ℕ)) → AreApart names
    → waiting ≡ unworked (map parcel_name ps ++ later) names
    → AllByRecursion (λ n. list_any (is_name n) later ≡ false) gave
    → waiting ++ gave ≡ unworked later (left_names ps names ++ gave)
polls-names ps later gave waiting names apart e apart_gave =
    let new : unworked later gave ≡ gave =
    filter-all (λ n. not (list_any (is_name n) later)) gave
    (all-each (λ n. list_any (is_name n) later ≡ false)
    (λ n. not (list_any (is_name n) later) ≡ true) gave (λ n h. ap not h) apart_gave) in
    let old : unworked later (left_names ps names) ≡ waiting =
    ap (unworked later) (left-unworked ps names apart)
    ∙ (unworked-append (map parcel_name ps) later names ∙ sym e) in
    sym (filter-append (λ n. not (list_any (is_name n) later)) (left_names ps names) gave
    ∙ ap₂ (λ (a b : List (ℕ × ℕ)). a ++ b) old new)

-- each name that is taken out is one less
less-by : (n k m : ℕ × ℕ) (names : List (ℕ × ℕ)) (b : Bool) → is_name k m ≡ b
    → count_by (is_name n) names ≤ count_by (is_name n) (without_first (is_name k) names) + cond (is_name n k) 1 0
    → count_by (is_name n) (m ∷ names)
    ≤ count_by (is_name n) (cond b names (m ∷ without_first (is_name k) names)) + cond (is_name n k) 1 0
less-by n k m names true e ih =
    let same : cond {A = ℕ} (is_name n m) 1 0 ≡ cond (is_name n k) 1 0 =
    ap (λ j. cond {A = ℕ} (is_name n j) 1 0) (name-same k m e) in
    omega (arith, counted-cons (is_name n) m names (is_name n m) refl, same)
less-by n k m names false e ih =
    omega (
      arith,
      counted-cons (is_name n) m names (is_name n m) refl,
      counted-cons (is_name n) m (without_first (is_name k) names) (is_name n m) refl,
      ih,
    )

one-less : (n k : ℕ × ℕ) (names : List (ℕ × ℕ))
    → count_by (is_name n) names ≤ count_by (is_name n) (without_first (is_name k) names) + cond (is_name n k) 1 0
one-less n k [] = omega arith
one-less n k (m ∷ names) = less-by n k m names (is_name k m) refl (one-less n k names)

pub left-counted : (n : ℕ × ℕ) (ps : List Parcel) (names : List (ℕ × ℕ))
    → count_by (is_name n) names ≤ count_by (is_name n) (left_names ps names)
    + count_by (is_name n) (map parcel_name ps)
left-counted n [] names = omega arith
left-counted n (p ∷ ps) names =
    let k = parcel_name p in
    omega (
      arith,
      one-less n k names,
      left-counted n ps (without_first (is_name k) names),
      counted-cons (is_name n) k (map parcel_name ps) (is_name n k) refl,
    )

-- and it is gone
left-by : (n : ℕ × ℕ) (ps : List Parcel) (names : List (ℕ × ℕ)) (b : Bool)
    → list_any (is_name n) (map parcel_name ps) ≡ b
    → count_by (is_name n) (map parcel_name ps) ≤ count_by (is_name n) names
    → count_by (is_name n) (unworked (map parcel_name ps) names) + count_by (is_name n) (map parcel_name ps)
    ≤ count_by (is_name n) names
left-by n ps names true e le =
    let none = unpassed-counted (is_name n) (λ k. not (list_any (is_name k) (map parcel_name ps))) names
    (λ k same. ap not (ap (λ j. list_any (is_name j) (map parcel_name ps)) (name-same n k same) ∙ e)) in
    omega arith
left-by n ps names false e le =
    omega (
      arith,
      none-counted (is_name n) (map parcel_name ps) e,
      filter-fewer (is_name n) (λ k. not (list_any (is_name k) (map parcel_name ps))) names,
    )

pub left-gone : (n : ℕ × ℕ) (ps : List Parcel) (names : List (ℕ × ℕ)) → AreApart names
    → count_by (is_name n) (map parcel_name ps) ≤ count_by (is_name n) names
    → count_by (is_name n) (left_names ps names) + count_by (is_name n) (map parcel_name ps)
    ≤ count_by (is_name n) names
left-gone n ps names apart le =
    let same = ap (count_by (is_name n)) (left-unworked ps names apart) in
    omega (arith, same, left-by n ps names (list_any (is_name n) (map parcel_name ps)) refl le)

-- a name that is given isn't among those that stay worked, where all these are left and each stands once
pub gave-apart : (later left gave : List (ℕ × ℕ))
    → ((n : ℕ × ℕ) → count_by (is_name n) later ≤ count_by (is_name n) left)
    → AreApart (left ++ gave) → AllByRecursion (λ n. list_any (is_name n) later ≡ false) gave
gave-apart later left gave le apart =
    all-counted is_name name-own (λ n. list_any (is_name n) later ≡ false) gave
    (λ n some. let one = apart n in
    let sum = count-append (is_name n) left gave in
    let less = le n in
    counted-none (is_name n) later (omega arith))

-- the names of the jobs that are out, where one is finished
pub out-names : (t r : ℕ) (out : List Job)
    → map job_name (without_first (is_job t r) out) ≡ without_first (is_name (t, r)) (map job_name out)
out-names t r out = map-first job_name (is_name (t, r)) out
