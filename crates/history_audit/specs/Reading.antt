-- What is known of bytes that are read a line at a time, by an auditor that keeps no fact.
use Rattle.std.specs.Prelude.{ℕ, ◌≡◌, ◌+◌, ◌≤◌, ◌<◌, ◌^◌, List, length}
use Rattle.history_audit.specs.Auditing.{HasRead}
use Rattle.history_audit.specs.declared.auditor.Auditor.{Auditor}
use Rattle.history_audit.specs.declared.report.Audited.{Audited}
use Rattle.history_audit.specs.declared.report.Audited.TheVariants.{Bad, Report}
use Rattle.report_reader.specs.declared.report.Reading.TheVariants as reading
use Rattle.report_reader.specs.Lines.{Below, IsReportOf, parts_of}
use Rattle.report_reader.specs.Reading.{Ends, IsReading, IsReadingBelow}
use Rattle.rpc_base.specs.declared.fact.Fact.{Fact}

-- an auditor has read the facts of a front of a text, of which this is left
pub record IsAuditing (text left : List ℕ) (a : Auditor) : Type 0 where
  pub facts : List Fact
  pub below : Below text facts (parts_of left)
  pub read : HasRead a facts
  pub within : length facts + length left ≤ length text

-- an auditor has read the facts whose report these bytes are
pub record HasReport (bytes : List ℕ) (a : Auditor) : Type 0 where
  pub facts : List Fact
  pub report : IsReportOf bytes facts
  pub read : HasRead a facts
  pub few : a.facts < 2 ^ 63

abbrev pub IsAudited : List ℕ → Audited → Type 0
IsAudited bytes (Report a) = HasReport bytes a
IsAudited bytes (Bad line) = IsReading bytes (reading.Bad line)

-- the same of what stands below the first line
pub record HasBelow (text : List ℕ) (a : Auditor) : Type 0 where
  pub facts : List Fact
  pub below : IsReadingBelow text (reading.Whole facts)
  pub read : HasRead a facts
  pub few : a.facts < 2 ^ 63

abbrev pub IsAuditedBelow : List ℕ → Audited → Type 0
IsAuditedBelow text (Report a) = HasBelow text a
IsAuditedBelow text (Bad line) = IsReadingBelow text (reading.Bad line)

-- what is known where an auditor has read these facts, and a line of no fact comes, and then this
-- text
abbrev pub IsEnd : (line after : List ℕ) → List Fact → Auditor → Audited → Type 0
IsEnd line after facts a (Report b) = (b ≡ a) × Ends line after facts (reading.Whole facts)
IsEnd line after facts a (Bad number) = Ends line after facts (reading.Bad number)
