-- What is known of a history, a fact at a time.
use Rattle.std.specs.Prelude.{ℕ, ◌≡◌, ◌+◌, ◌<◌, List, length, take}
use Rattle.front_laws.specs.Whole.{IsWhole}
use Rattle.history_audit.specs.Audit.{FailsAt, FirstUnlawful, FrontsLawful, IsLawfulReport}
use Rattle.history_audit.specs.declared.auditor.Auditor.{Auditor}
use Rattle.history_audit.specs.declared.auditor.Finding.{Finding}
use Rattle.history_audit.specs.declared.auditor.Finding.TheVariants.{Fair, Doomed, Unlawful}
use Rattle.history_audit.specs.declared.fault.Fault.{Fault}
use Rattle.history_audit.specs.declared.fault.Fault.TheVariants as fault
use Rattle.history_audit.specs.declared.fault.Wrong.{Wrong}
use Rattle.history_audit.specs.declared.tables.Tables.{Tables}
use Rattle.history_audit.specs.declared.verdict.Verdict.{Verdict}
use Rattle.history_audit.specs.declared.verdict.Verdict.TheVariants as told
use Rattle.history_audit.specs.OpenPolls.{AreOpen}
use Rattle.history_audit.specs.Tables.{HaveNoted, IsFair}
use Rattle.history_audit.specs.Wrong.{IsWrong}
use Rattle.lawful_history.specs.Lawful.{Lawful}
use Rattle.report_reader.specs.Lines.{IsReportOf}
use Rattle.rpc_base.specs.declared.fact.Fact.{Fact}

-- each shorter front is lawful, where no node is in the midst of a poll at its end
abbrev pub FrontsBefore : List Fact → Type 0
FrontsBefore h = (n : ℕ) → n < length h → IsWhole (take n h) → Lawful (take n h)

-- what is found: nothing yet; or a claim that is broken, while a node is in the midst of a poll; or
-- the line of the last fact of the shortest front that isn't lawful, and a claim that some first
-- facts of it break
abbrev pub Finds : Tables → Finding → List Fact → Type 0
Finds t Fair h = HaveNoted t h × IsFair h × FrontsLawful h (length h)
Finds t (Doomed w) h = IsWrong w h × FrontsLawful h (length h) × (IsWhole h → ⊥)
Finds t (Unlawful line w) h =
    (n : ℕ) × (line ≡ n + 1) × FirstUnlawful h n × IsWrong w (take n h)

-- an auditor has read these facts
pub record HasRead (a : Auditor) (h : List Fact) : Type 0 where
  pub polls : AreOpen a.polls.nodes.items h
  pub counted : a.facts ≡ length h
  pub finds : Finds a.tables a.finding h

-- the verdict on bytes
abbrev pub IsVerdict : List ℕ → Verdict → Type 0
IsVerdict bytes (told.Lawful facts) = IsLawfulReport bytes facts
IsVerdict bytes (told.Unlawful line) = FailsAt bytes line

-- bytes are the report of no history
abbrev pub IsNoReport : List ℕ → Type 0
IsNoReport bytes = (h : List Fact) → IsReportOf bytes h → ⊥

-- bytes are the report of a history of which some front, at whose end no node is in the midst of a
-- poll, isn't lawful: some first facts of the shortest of these break the claim
pub record IsUnlawfulReport (bytes : List ℕ) (w : Wrong) : Type 0 where
  pub history : List Fact
  pub facts : ℕ
  pub report : IsReportOf bytes history
  pub first : FirstUnlawful history facts
  pub wrong : IsWrong w (take facts history)

-- bytes are the report of a history of which each such front is lawful
pub record HasLawfulFronts (bytes : List ℕ) : Type 0 where
  pub history : List Fact
  pub report : IsReportOf bytes history
  pub fronts : FrontsLawful history (length history)

-- what is told of bytes that fail
abbrev pub IsFault : List ℕ → Fault → Type 0
IsFault bytes fault.Unspelled = IsNoReport bytes
IsFault bytes (fault.Unlawful w) = IsUnlawfulReport bytes w
IsFault bytes fault.Unended = HasLawfulFronts bytes
