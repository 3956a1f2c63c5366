-- No report is both lawful and not.
use Rattle.std.proofs.Common.{◌≡◌, ℕ, ◌<◌, ◌+◌, ◌^◌, Bool, true, false, List, [], ◌∷◌, length, ap, sym, ◌∙◌, subst}
use Rattle.std.proofs.Common.{arith, refl}
use Rattle.std.proofs.Common.{take, drop, take-append-drop}
use Rattle.std.specs.List.{AllByRecursion}
use Rattle.front_laws.specs.Whole.{IsWhole}
use Rattle.history_audit.specs.Audit.{FirstUnlawful, FrontsLawful}
use Rattle.history_audit.specs.Audit.{unended, unlawful, unspelled}
use Rattle.history_audit.specs.Auditing.{IsVerdict}
use Rattle.history_audit.specs.declared.verdict.Verdict.{Verdict}
use Rattle.history_audit.specs.declared.verdict.Verdict.TheVariants as verdict
use Rattle.history_audit.specs.Laws.{NoReportIsBoth, OneLineFails, ReportsTell}
use Rattle.std.proofs.lemmas.Bool.{ltb-false, ltb-true}
use Rattle.std.specs.Prelude.{nat_lt}
use Rattle.report_reader.proofs.OneLine.{one-unspelled}
use Rattle.lawful_history.proofs.FrontLemmas.{lawful-front}
use Rattle.lawful_history.specs.Lawful.{Lawful}
use Rattle.report_reader.proofs.EventLemmas.{event-fits}
use Rattle.report_reader.proofs.ReportLemmas.{no-report}
use Rattle.report_reader.specs.Ranges.{InRange, WhoInRange}
use Rattle.report_text.proofs.Telling.{text-tells}
use Rattle.report_text.specs.Ranges.{FactFits, WhoFits}
use Rattle.rpc_base.specs.declared.fact.Fact.{Fact}
use Rattle.rpc_base.specs.declared.fact.Who.{Who}
use Rattle.rpc_base.specs.declared.fact.Who.TheVariants.{Node, Net}

who-fits : (who : Who) → WhoInRange who → WhoFits who
who-fits (Node n) h = omega (arith, h)
who-fits Net h = tt

all-fit : (facts : List Fact) → AllByRecursion InRange facts → AllByRecursion FactFits facts
all-fit [] a = tt
all-fit (f ∷ facts) a = ((who-fits f.who a.0.who, event-fits f.event a.0.event), all-fit facts a.1)

pub reports-tell : ReportsTell
reports-tell bytes one other a b =
    text-tells one other (all-fit one a.in_range) (all-fit other b.in_range) a.told b.told
    (a.printed ∙ sym b.printed)

-- a front of a lawful history
pub take-lawful : (h : List Fact) (n : ℕ) → Lawful h → IsWhole (take n h) → Lawful (take n h)
take-lawful h n l whole =
    lawful-front (take n h) (drop n h) (subst Lawful (sym (take-append-drop n h)) l) whole

pub no-both : NoReportIsBoth
no-both bytes few facts line l (unspelled at bad) = no-report bytes line few bad l.history l.report
no-both bytes few facts line l (unlawful h n is bad) =
    let same : l.history ≡ h = reports-tell bytes l.history h l.report is in
    bad.unlawful (take-lawful h n (subst Lawful same l.lawful) bad.whole)
no-both bytes few facts line l (unended h is fronts open_at) =
    let same : l.history ≡ h = reports-tell bytes l.history h l.report is in
    open_at (subst IsWhole same l.whole)

-- one line fails
same-count : (h : List Fact) (n m : ℕ) → FirstUnlawful h n → FirstUnlawful h m → n < m → ⊥
same-count h n m a b lt = a.unlawful (b.first n lt a.whole)

count-same : (h : List Fact) (n m : ℕ) → FirstUnlawful h n → FirstUnlawful h m → n + 1 ≡ m + 1
count-same h n m a b = by (nat_lt n m) refl (nat_lt m n) refl
  where
    by : (c : Bool) → nat_lt n m ≡ c → (d : Bool) → nat_lt m n ≡ d → n + 1 ≡ m + 1
    by true e d f = absurd (same-count h n m a b (ltb-true n m e))
    by false e true f = absurd (same-count h m n b a (ltb-true m n f))
    by false e false f =
        let low = ltb-false n m e in
        let high = ltb-false m n f in
        omega (arith, low, high)

fronts-none : (h : List Fact) (n : ℕ) → FirstUnlawful h n → FrontsLawful h (length h) → ⊥
fronts-none h n a fronts = a.unlawful (fronts n a.within a.whole)

pub one-line : OneLineFails
one-line bytes few i j (unspelled a bad) (unspelled b worse) = one-unspelled bytes a b bad worse
one-line bytes few i j (unspelled a bad) (unlawful h n is front) = absurd (no-report bytes a few bad h is)
one-line bytes few i j (unspelled a bad) (unended h is fronts busy) = absurd (no-report bytes a few bad h is)
one-line bytes few i j (unlawful h n is front) (unspelled b bad) = absurd (no-report bytes b few bad h is)
one-line bytes few i j (unlawful h n is front) (unlawful g m at other) =
    let same : g ≡ h = reports-tell bytes g h at is in
    count-same h n m front (subst (λ (z : List Fact). FirstUnlawful z m) same other)
one-line bytes few i j (unlawful h n is front) (unended g at fronts busy) =
    let same : g ≡ h = reports-tell bytes g h at is in
    absurd (fronts-none h n front (subst (λ (z : List Fact). FrontsLawful z (length z)) same fronts))
one-line bytes few i j (unended h is fronts busy) (unspelled b bad) = absurd (no-report bytes b few bad h is)
one-line bytes few i j (unended h is fronts busy) (unlawful g m at front) =
    let same : g ≡ h = reports-tell bytes g h at is in
    absurd (fronts-none h m (subst (λ (z : List Fact). FirstUnlawful z m) same front) fronts)
one-line bytes few i j (unended h is fronts busy) (unended g at others open_at) =
    ap (λ (z : List Fact). length z + 2) (reports-tell bytes h g is at)

-- bytes have one verdict
pub one-verdict : (bytes : List ℕ) → length bytes < 2 ^ 63 → (v w : Verdict) → IsVerdict bytes v
    → IsVerdict bytes w → v ≡ w
one-verdict bytes few (verdict.Lawful n) (verdict.Lawful m) a b =
    let same : a.history ≡ b.history = reports-tell bytes a.history b.history a.report b.report in
    ap verdict.Lawful (sym a.counted ∙ ap length same ∙ b.counted)
one-verdict bytes few (verdict.Lawful n) (verdict.Unlawful m) a b = absurd (no-both bytes few n m a b)
one-verdict bytes few (verdict.Unlawful n) (verdict.Lawful m) a b = absurd (no-both bytes few m n b a)
one-verdict bytes few (verdict.Unlawful n) (verdict.Unlawful m) a b = ap verdict.Unlawful (one-line bytes few n m a b)
