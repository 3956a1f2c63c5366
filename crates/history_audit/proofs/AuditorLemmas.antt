-- What is found of a history, a fact later, and the verdict on it.
use Rattle.std.proofs.Common.{◌≡◌, ℕ, ◌+◌, ◌≤◌, Bool, true, false, List, [], ◌∷◌, ◌++◌, length, take, refl, sym}
use Rattle.std.proofs.Common.{ap, subst, arith, length-append}
use Rattle.std.proofs.lemmas.Bool.{ltb-false, ltb-true}
use Rattle.std.proofs.lemmas.List.{take-append-le, take_all}
use Rattle.std.specs.Prelude.{nat_lt}
use Rattle.front_laws.specs.Whole.{IsWhole}
use Rattle.history_audit.proofs.FairLemmas.{fair-lawful, fair-none, wrong-unlawful}
use Rattle.history_audit.specs.Audit.{FailsAt, FirstUnlawful, FrontsLawful, IsLawfulReport}
use Rattle.history_audit.specs.Audit.{unended, unlawful}
use Rattle.history_audit.specs.Auditing.{Finds, FrontsBefore, IsFault}
use Rattle.history_audit.specs.declared.auditor.Finding.TheVariants.{Doomed, Fair, Unlawful}
use Rattle.history_audit.specs.declared.fault.Fault.TheVariants as fault
use Rattle.history_audit.specs.declared.fault.Wrong.{Wrong}
use Rattle.history_audit.specs.declared.tables.Tables.{Tables}
use Rattle.history_audit.specs.Tables.{HaveNoted, IsFair}
use Rattle.history_audit.specs.Wrong.{IsWrong}
use Rattle.lawful_history.specs.Lawful.{Lawful}
use Rattle.report_reader.specs.Lines.{IsReportOf}
use Rattle.rpc_base.specs.declared.fact.Fact.{Fact}

pub longer : (h : List Fact) (f : Fact) → length (h ++ f ∷ []) ≡ length h + 1
longer h f = length-append h (f ∷ [])

-- a front of fewer facts
front-stays : (h : List Fact) (f : Fact) (n : ℕ) → n ≤ length h → take n (h ++ f ∷ []) ≡ take n h
front-stays h f n le = take-append-le n h (f ∷ []) le

pub before-next : (h : List Fact) (f : Fact) → FrontsLawful h (length h) → FrontsBefore (h ++ f ∷ [])
before-next h f fronts n lt whole =
    let more = longer h f in
    let le : n ≤ length h = omega (arith, lt, more) in
    let same = front-stays h f n le in
    subst Lawful (sym same) (fronts n le (subst IsWhole same whole))

-- all fronts are lawful where each shorter one is, and all of them
pub fronts-all : (g : List Fact) → FrontsBefore g → (IsWhole g → Lawful g) → FrontsLawful g (length g)
fronts-all g before last n le whole = by (nat_lt n (length g)) refl
  where
    by : (b : Bool) → nat_lt n (length g) ≡ b → Lawful (take n g)
    by true e = before n (ltb-true n (length g) e) whole
    by false e =
        let same : take n g ≡ g = take_all n g (ltb-false n (length g) e) in
        subst Lawful (sym same) (last (subst IsWhole same whole))

-- the shortest front that isn't lawful
pub first-whole : (g : List Fact) (w : Wrong) → IsWrong w g → FrontsBefore g → IsWhole g
    → FirstUnlawful g (length g)
first-whole g w broken before whole =
    let all : take (length g) g ≡ g = take_all (length g) g (omega arith) in
    record {
      within = omega arith;
      whole = subst IsWhole (sym all) whole;
      unlawful = λ l. wrong-unlawful w g broken (subst Lawful all l);
      first = before;
    }

pub first-next : (h : List Fact) (f : Fact) (n : ℕ) → FirstUnlawful h n → FirstUnlawful (h ++ f ∷ []) n
first-next h f n u =
    let same = front-stays h f n u.within in
    let more = longer h f in
    record {
      within = omega (arith, u.within, more);
      whole = subst IsWhole (sym same) u.whole;
      unlawful = λ l. u.unlawful (subst Lawful same l);
      first = λ m lt w.
          let shorter = front-stays h f m (omega (arith, lt, u.within)) in
          subst Lawful (sym shorter) (u.first m lt (subst IsWhole shorter w));
    }

-- what is found then
pub finds-fair : (t : Tables) (h : List Fact) (f : Fact) → HaveNoted t (h ++ f ∷ []) × IsFair (h ++ f ∷ [])
    → FrontsLawful h (length h) → Finds t Fair (h ++ f ∷ [])
finds-fair t h f judged fronts = (
  judged.0,
  judged.1,
  fronts-all (h ++ f ∷ []) (before-next h f fronts) (fair-lawful (h ++ f ∷ []) judged.1),
)

pub finds-whole : (t : Tables) (g : List Fact) (facts : ℕ) (w : Wrong) → facts ≡ length g → IsWrong w g
    → FrontsBefore g → IsWhole g → Finds t (Unlawful (facts + 1) w) g
finds-whole t g facts w counted broken before whole =
    let all : take (length g) g ≡ g = take_all (length g) g (omega arith) in (
      length g,
      ap (λ (n : ℕ). n + 1) counted,
      first-whole g w broken before whole,
      subst (IsWrong w) (sym all) broken,
    )

pub finds-doomed : (t : Tables) (g : List Fact) (w : Wrong) → IsWrong w g → FrontsBefore g → (IsWhole g → ⊥)
    → Finds t (Doomed w) g
finds-doomed t g w broken before busy =
    (broken, fronts-all g before (λ whole. absurd (busy whole)), busy)

pub finds-first : (t u : Tables) (h : List Fact) (f : Fact) (line : ℕ) (w : Wrong)
    → Finds t (Unlawful line w) h → Finds u (Unlawful line w) (h ++ f ∷ [])
finds-first t u h f line w found =
    let same = front-stays h f found.0 found.2.within in
    (found.0, found.1, first-next h f found.0 found.2, subst (IsWrong w) (sym same) found.3)

-- the verdicts
pub verdict-lawful : (bytes : List ℕ) (h : List Fact) (facts : ℕ) → IsReportOf bytes h → facts ≡ length h
    → IsFair h → IsWhole h → IsLawfulReport bytes facts
verdict-lawful bytes h facts is counted fair whole = record {
  history = h;
  report = is;
  lawful = fair-lawful h fair whole;
  whole = whole;
  counted = sym counted;
}

pub verdict-unended : (bytes : List ℕ) (h : List Fact) (facts : ℕ) → IsReportOf bytes h → facts ≡ length h
    → FrontsLawful h (length h) → (IsWhole h → ⊥) → FailsAt bytes (facts + 2)
verdict-unended bytes h facts is counted fronts busy =
    subst (λ (n : ℕ). FailsAt bytes (n + 2)) (sym counted) (unended h is fronts busy)

pub verdict-first : (bytes : List ℕ) (t : Tables) (h : List Fact) (line : ℕ) (w : Wrong) → IsReportOf bytes h
    → Finds t (Unlawful line w) h → FailsAt bytes line
verdict-first bytes t h line w is found =
    subst (λ (n : ℕ). FailsAt bytes n) (sym found.1) (unlawful h found.0 is found.2)

-- the faults
pub fault-first : (bytes : List ℕ) (t : Tables) (h : List Fact) (line : ℕ) (w : Wrong) → IsReportOf bytes h
    → Finds t (Unlawful line w) h → IsFault bytes (fault.Unlawful w)
fault-first bytes t h line w is found =
    record { history = h; facts = found.0; report = is; first = found.2; wrong = found.3 }

pub fault-unended : (bytes : List ℕ) (h : List Fact) → IsReportOf bytes h → FrontsLawful h (length h)
    → IsFault bytes fault.Unended
fault-unended bytes h is fronts = record { history = h; report = is; fronts = fronts }

-- before any fact
pub finds-none : (t : Tables) → HaveNoted t [] → Finds t Fair []
finds-none t noted =
    (noted, fair-none, fronts-all [] (λ n lt. absurd (omega (arith, lt))) (fair-lawful [] fair-none))
