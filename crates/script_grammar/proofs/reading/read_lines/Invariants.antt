use Rattle.std.proofs.Common.{◌≡◌, ◌≤◌, length, false, All}
use Rattle.script_grammar.specs.Conditions.{IsInRange}
use Rattle.script_grammar.specs.Lines.{lines_of}
use Rattle.script_grammar.specs.Reader.{said_of}
use Rattle.script_grammar.specs.Script.{lines_in}
use Rattle.script_grammar.proofs.reading.read_lines.Given as goal

abbrev pub invariant-loop-line : goal.invariant-loop-line
invariant-loop-line l =
    (said_of l.reader (lines_of l.text) ≡ lines_in 2 (record { nodes = 0; begun = false })
    (lines_of l.fn.text)) × (l.reader.number ≤ 100001)
    × All (λ line. IsInRange line.command) l.reader.lines.items × (l.initial.memory ≤ l.memory)

abbrev pub decreases-loop-line : goal.decreases-loop-line
decreases-loop-line l = length l.text
