use Rattle.std.proofs.Common.{◌+◌, ◌≡◌, ◌≤◌, length}
use Rattle.history_audit.specs.Reading.{IsAuditing}
use Rattle.history_audit.proofs.report.audited_below.Given as goal

abbrev pub invariant-loop-line : goal.invariant-loop-line
invariant-loop-line l =
    IsAuditing l.fn.text l.text l.auditor × (l.auditor.facts + length l.text ≤ length l.fn.text)
    × (l.memory ≡ l.fn.memory)

abbrev pub decreases-loop-line : goal.decreases-loop-line
decreases-loop-line l = length l.text
