-- What an audit says of bytes, and what each of its statuses says of its source and its sink.
use Rattle.std.specs.Prelude.{ℕ, ◌≡◌, ◌<◌, ◌≤◌, ◌⊎◌, Option, Some, IfSome, Result, Ok, Err}
use Rattle.std.specs.Prelude.{List, [], length}
use Rattle.count_line.specs.declared.audit.AuditLine.{AuditLine}
use Rattle.count_line.specs.declared.audit.AuditLine.TheVariants as told
use Rattle.count_line.specs.Line.{audit_text}
use Rattle.history_audit.specs.Audit.{FailsAt, IsLawfulReport}
use Rattle.history_audit.specs.declared.verdict.Verdict.{Verdict}
use Rattle.history_audit.specs.declared.verdict.Verdict.TheVariants as verdict
use Rattle.memory_count.specs.Faults.{HasRisen}
use Rattle.rpc_outside.specs.Reading.{Unread}
use Rattle.rpc_outside.specs.Writing.{Broke, Written, Wrote}
use Rattle.rpc_tools.specs.declared.report.TheConstants.{MOST_REPORT}
use Rattle.rpc_tools.specs.Outcomes.{FailsToRead, Untouched}
use Rattle.run_status.specs.declared.status.Status.{Status}
use Rattle.run_status.specs.declared.status.Status.TheVariants.{Done, NotLawful, TooLong}
use Rattle.run_status.specs.declared.status.Status.TheVariants.{NoMemory, ReadFault, WriteFault}
use Rattle.run_status.specs.Words.{lacks}

-- what is said of bytes: they are the report of a lawful history, they fail at a line, or they are
-- too many, and there is no verdict
abbrev pub Says : List ℕ → AuditLine → Type 0
Says bytes (told.Lawful facts) = (length bytes ≤ MOST_REPORT) × IsLawfulReport bytes facts
Says bytes (told.Unlawful line) = (length bytes ≤ MOST_REPORT) × FailsAt bytes line
Says bytes told.TooLong = MOST_REPORT < length bytes

-- the line of a verdict, and the status of a line
abbrev pub line_of : Verdict → AuditLine
line_of (verdict.Lawful facts) = told.Lawful facts
line_of (verdict.Unlawful line) = told.Unlawful line

abbrev pub status_of : AuditLine → Status
status_of (told.Lawful facts) = Done
status_of (told.Unlawful line) = NotLawful line
status_of told.TooLong = TooLong

-- the source was read to its end, if it isn't too long
abbrev pub IsReadFor : AuditLine → Option (List ℕ) → Type 0
IsReadFor told.TooLong more = Unit {0}
IsReadFor _ more = more ≡ Some []

-- a line is said of the bytes of the source, which was read without a fault
pub record SaysOf (line : AuditLine) (input then_input : Unread) : Type 0 where
  pub quiet : then_input.faults ≡ input.faults
  pub says : IfSome input.left (λ bytes. Says bytes line × IsReadFor line then_input.left)

-- what is to be said of what a source gave, or the status of a run that says nothing
abbrev pub Judges : Result AuditLine Status → (input then_input : Unread) → Type 0
Judges (Ok line) input then_input = SaysOf line input then_input
Judges (Err ReadFault) input then_input = HasRisen input.faults then_input.faults
Judges (Err NoMemory) input then_input = Unit {0}
Judges (Err _) input then_input = ⊥

-- how many wants of memory it tells of
abbrev pub lacks_judged : Result AuditLine Status → ℕ
lacks_judged (Ok line) = 0
lacks_judged (Err status) = lacks status

-- a line was written, or a front of it
abbrev pub Writes : Status → AuditLine → (page then_page : Written) → Type 0
Writes status line page then_page =
    ((status ≡ status_of line) × Wrote page then_page (audit_text line))
    ⊎ ((status ≡ WriteFault) × Broke page then_page (audit_text line))

-- a line is said, and was written
pub record Tells (line : AuditLine) (input then_input : Unread) (page then_page : Written)
    : Type 0 where
  pub says : SaysOf line input then_input
  pub wrote : Wrote page then_page (audit_text line)

-- WriteFault: a front of the line was written, and the sink failed
pub record BreaksOffLine (input then_input : Unread) (page then_page : Written) : Type 0 where
  pub line : AuditLine
  pub says : SaysOf line input then_input
  pub broke : Broke page then_page (audit_text line)

-- what an audit may end with, by what its source has left and its sink has written. Where memory is
-- wanting nothing was written
abbrev pub Audits : Status → (input then_input : Unread) → (page then_page : Written) → Type 0
Audits Done input then_input page then_page =
    (facts : ℕ) × Tells (told.Lawful facts) input then_input page then_page
Audits (NotLawful line) input then_input page then_page =
    Tells (told.Unlawful line) input then_input page then_page
Audits TooLong input then_input page then_page = Tells told.TooLong input then_input page then_page
Audits ReadFault input then_input page then_page = FailsToRead input then_input page then_page
Audits WriteFault input then_input page then_page = BreaksOffLine input then_input page then_page
Audits NoMemory input then_input page then_page = Untouched page then_page
Audits _ input then_input page then_page = ⊥

-- an audit that met no fault and no want of memory: it says what is so of its bytes
pub record Answers (line : AuditLine) (status : Status) (then_input : Unread)
    (page then_page : Written) : Type 0 where
  pub told : status ≡ status_of line
  pub read : IsReadFor line then_input.left
  pub wrote : Wrote page then_page (audit_text line)
