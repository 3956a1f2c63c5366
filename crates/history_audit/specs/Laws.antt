-- The laws of verdicts.
use Rattle.std.specs.Prelude.{ℕ, ◌≡◌, ◌<◌, ◌^◌, List, length}
use Rattle.history_audit.specs.Audit.{FailsAt, IsLawfulReport}
use Rattle.report_reader.specs.Lines.{IsReportOf}
use Rattle.rpc_base.specs.declared.fact.Fact.{Fact}

-- bytes are the report of one history
abbrev pub ReportsTell : Type 0
ReportsTell =
    (bytes : List ℕ) (one other : List Fact) → IsReportOf bytes one → IsReportOf bytes other
    → one ≡ other

-- no bytes are the report of a lawful history and fail at a line
abbrev pub NoReportIsBoth : Type 0
NoReportIsBoth =
    (bytes : List ℕ) → length bytes < 2 ^ 63 → (facts line : ℕ) → IsLawfulReport bytes facts
    → FailsAt bytes line → ⊥

-- bytes fail at one line
abbrev pub OneLineFails : Type 0
OneLineFails =
    (bytes : List ℕ) → length bytes < 2 ^ 63 → (one other : ℕ) → FailsAt bytes one
    → FailsAt bytes other → one ≡ other
