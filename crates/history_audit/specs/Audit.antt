-- When a report is that of a lawful history, and the line at which it isn't.
use Rattle.std.specs.Prelude.{ℕ, ◌≡◌, ◌+◌, ◌≤◌, ◌<◌, List, length, take}
use Rattle.front_laws.specs.Whole.{IsWhole}
use Rattle.lawful_history.specs.Lawful.{Lawful}
use Rattle.report_reader.specs.Lines.{FirstUnspelled, IsReportOf}
use Rattle.rpc_base.specs.declared.fact.Fact.{Fact}

-- bytes are the report of a lawful history of so many facts, at whose end no node is in the midst
-- of a poll
pub record IsLawfulReport (bytes : List ℕ) (facts : ℕ) : Type 0 where
  pub history : List Fact
  pub report : IsReportOf bytes history
  pub lawful : Lawful history
  pub whole : IsWhole history
  pub counted : length history ≡ facts

-- each front of at most so many facts is lawful, where no node is in the midst of a poll at its end
abbrev pub FrontsLawful : List Fact → ℕ → Type 0
FrontsLawful h most = (n : ℕ) → n ≤ most → IsWhole (take n h) → Lawful (take n h)

-- the shortest such front that isn't lawful has so many facts
pub record FirstUnlawful (h : List Fact) (n : ℕ) : Type 0 where
  pub within : n ≤ length h
  pub whole : IsWhole (take n h)
  pub unlawful : Lawful (take n h) → ⊥
  pub first : (m : ℕ) → m < n → IsWhole (take m h) → Lawful (take m h)

-- the line at which bytes fail to be the report of a lawful history: the first that isn't spelled;
-- or that of the last fact of the shortest such front that isn't lawful; or, where at the end a
-- node is in the midst of a poll, the last line. The first fact stands in line 2
pub data FailsAt (bytes : List ℕ) : ℕ → Type 0 where
  unspelled : (line : ℕ) → FirstUnspelled bytes line → FailsAt bytes line
  unlawful : (history : List Fact) → (n : ℕ) → IsReportOf bytes history → FirstUnlawful history n
      → FailsAt bytes (n + 1)
  unended : (history : List Fact) → IsReportOf bytes history
      → FrontsLawful history (length history) → (IsWhole history → ⊥)
      → FailsAt bytes (length history + 2)
