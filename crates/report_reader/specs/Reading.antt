-- What is told of the bytes of a report.
use Rattle.std.specs.Prelude.{ℕ, ◌≡◌, ◌+◌, List, [], ◌∷◌, ◌⊎◌, length, Option, IfSome, IfNone}
use Rattle.rpc_base.specs.declared.fact.Fact.{Fact}
use Rattle.report_text.specs.Told.{IsTold}
use Rattle.report_reader.specs.declared.report.Reading.{Reading}
use Rattle.report_reader.specs.declared.report.Reading.TheVariants.{Whole, Bad}
use Rattle.report_reader.specs.Lines.{BadBelow, Below, FirstUnspelled, IsNoFacts, IsReportOf}
use Rattle.report_reader.specs.Lines.{bare_line, end_line}
use Rattle.report_reader.specs.Ranges.{InRange}

-- a line is that of this fact
pub record IsLineOf (line : List ℕ) (fact : Fact) : Type 0 where
  pub is : bare_line fact ≡ line
  pub told : IsTold fact
  pub in_range : InRange fact

abbrev pub ReadsNext : List ℕ → Option Fact → Type 0
ReadsNext line o = IfSome o (IsLineOf line) × IfNone o (IsNoFacts line)

-- what is told where these facts were read, and then a line of no fact, and then this text
abbrev pub Ends : (line after : List ℕ) → (facts : List Fact) → Reading → Type 0
Ends line after facts (Whole all) =
    (all ≡ facts) × (line ≡ end_line (length facts)) × (after ≡ [])
Ends line after facts (Bad number) =
    ((number ≡ length facts + 2) × (line ≡ end_line (length facts) → ⊥))
    ⊎ ((number ≡ length facts + 3) × (line ≡ end_line (length facts)) × (after ≡ [] → ⊥))

-- what is told of the bytes of a report: the facts whose report they are; or that they are the
-- report of no facts, and the first line that isn't spelled, or isn't there
abbrev pub IsReading : List ℕ → Reading → Type 0
IsReading bytes (Whole facts) = IsReportOf bytes facts
IsReading bytes (Bad line) =
    FirstUnspelled bytes line × ((facts : List Fact) → IsReportOf bytes facts → ⊥)

-- what is told of what stands below the first line
abbrev pub IsReadingBelow : List ℕ → Reading → Type 0
IsReadingBelow text (Whole facts) = Below text facts (end_line (length facts) ∷ [] ∷ [])
IsReadingBelow text (Bad line) = BadBelow text line
