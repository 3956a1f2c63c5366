-- A reader between two lines of a script.
use Rattle.std.specs.Prelude.{ℕ, List, Result}
use Rattle.script_grammar.specs.declared.bad.BadScript.{BadScript}
use Rattle.script_grammar.specs.declared.line.Line.{Line}
use Rattle.script_grammar.specs.declared.reading.Reader.{Reader}
use Rattle.script_grammar.specs.Script.{put_before, lines_in}

-- what the grammar says of the whole script, where these lines are left
unfoldable pub said_of : Reader → List (List ℕ) → Result (List Line) BadScript
said_of reader lines = put_before reader.lines.items (lines_in reader.number reader.before lines)
