use Rattle.std.proofs.Common.{◌+◌, ◌≤◌, ◌≡◌, length}
use Rattle.report_reader.specs.Lines.{Below, parts_of}
use Rattle.report_reader.proofs.report.read_facts.Given as goal

abbrev pub invariant-loop-line : goal.invariant-loop-line
invariant-loop-line l =
    Below l.fn.text l.facts.items (parts_of l.text) × (length l.facts.items + length l.text ≤ length l.fn.text)
    × (l.memory ≡ l.fn.memory)

abbrev pub decreases-loop-line : goal.decreases-loop-line
decreases-loop-line l = length l.text
