-- An auditor that reads a report a line at a time.
use Rattle.std.proofs.Common.{◌≡◌, ℕ, ◌+◌, ◌<◌, ◌≤◌, ◌^◌, List, [], ◌∷◌, ◌++◌, length, sym, subst}
use Rattle.std.proofs.Common.{arith, Err, Ok, Result}
use Rattle.std.specs.Prelude.{IfOk}
use Rattle.history_audit.proofs.AuditorLemmas.{longer}
use Rattle.history_audit.specs.Auditing.{HasRead}
use Rattle.history_audit.specs.declared.auditor.Auditor.{Auditor}
use Rattle.history_audit.specs.declared.report.Audited.{Audited}
use Rattle.history_audit.specs.declared.report.Audited.TheVariants.{Bad, Report}
use Rattle.history_audit.specs.Reading.{IsAudited, IsAuditedBelow, IsAuditing}
use Rattle.history_audit.specs.Reading.{IsEnd}
use Rattle.report_reader.proofs.ReportLemmas.{read-all, read-end, read-more, read-none, with-head}
use Rattle.report_reader.specs.declared.report.Reading.TheVariants as reading
use Rattle.report_reader.specs.Lines.{BadBelow, IsNoFacts, head_line, parts_of}
use Rattle.report_reader.specs.Reading.{IsLineOf}
use Rattle.report_text.specs.Told.{IsTold}
use Rattle.rpc_base.specs.declared.fact.Fact.{Fact}

-- no fact was read yet
pub audits-none : (text : List ℕ) (a : Auditor) → HasRead a [] → IsAuditing text text a
audits-none text a read =
    record { facts = []; below = read-none text; read = read; within = omega arith }

-- a fact more
pub audits-more : (text left line after : List ℕ) (a b : Auditor) (f : Fact)
    → IsAuditing text left a → parts_of left ≡ line ∷ parts_of after → length after < length left
    → IsLineOf line f → ((h : List Fact) → IsTold f → HasRead a h → HasRead b (h ++ f ∷ []))
    → IsAuditing text after b
audits-more text left line after a b f audits e shorter is next =
    let more = longer audits.facts f in
    let within = audits.within in
    record {
      facts = audits.facts ++ f ∷ [];
      below = read-more text audits.facts left line after f audits.below e is;
      read = next audits.facts is.told audits.read;
      within = omega (arith, more, within, shorter);
    }

pub audits-few : (text left : List ℕ) (a : Auditor) → IsAuditing text left a
    → a.facts + length left ≤ length text
audits-few text left a audits =
    let counted = audits.read.counted in
    let within = audits.within in
    omega (arith, counted, within)

-- a line of no fact
pub audits-end : (text left line after : List ℕ) (a : Auditor) (told : Audited)
    → IsAuditing text left a → length text < 2 ^ 63 → parts_of left ≡ line ∷ parts_of after
    → IsNoFacts line
    → ((facts : List Fact) → a.facts ≡ length facts → IsEnd line after facts a told)
    → IsAuditedBelow text told
audits-end text left line after a (Report b) audits few e none ends =
    let here = ends audits.facts audits.read.counted in
    let within = audits-few text left a audits in
    let read : HasRead b audits.facts = subst (λ (x : Auditor). HasRead x audits.facts) (sym here.0) audits.read in
    let fits : a.facts < 2 ^ 63 = omega (arith, within, few) in
    record {
      facts = audits.facts;
      below = read-end text audits.facts left line after (reading.Whole audits.facts) audits.below e none here.1;
      read = read;
      few = subst (λ (x : Auditor). x.facts < 2 ^ 63) (sym here.0) fits;
    }
audits-end text left line after a (Bad n) audits few e none ends =
    let here = ends audits.facts audits.read.counted in
    read-end text audits.facts left line after (reading.Bad n) audits.below e none here

-- no line is left
pub audits-all : (text left : List ℕ) (a : Auditor) → IsAuditing text left a
    → parts_of left ≡ left ∷ [] → BadBelow text (a.facts + 2)
audits-all text left a audits e =
    subst (λ (n : ℕ). BadBelow text (n + 2)) (sym audits.read.counted)
    (read-all text audits.facts left audits.below e)

-- the first line before it
pub judged : (bytes text : List ℕ) (told : Audited) → length bytes < 2 ^ 63
    → parts_of bytes ≡ head_line ∷ parts_of text → IsAuditedBelow text told → IsAudited bytes told
judged bytes text (Report a) few e below = record {
  facts = below.facts;
  report = with-head bytes text (reading.Whole below.facts) few e below.below;
  read = below.read;
  few = below.few;
}
judged bytes text (Bad n) few e below = with-head bytes text (reading.Bad n) few e below

pub judged-ok : {E : Type 0} (bytes text : List ℕ) (r : Result Audited E) → length bytes < 2 ^ 63
    → parts_of bytes ≡ head_line ∷ parts_of text → IfOk r (IsAuditedBelow text)
    → IfOk r (IsAudited bytes)
judged-ok bytes text (Ok told) few e below = judged bytes text told few e below
judged-ok bytes text (Err why) few e below = tt
