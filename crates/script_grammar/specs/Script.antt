-- A script: its head, its commands in order, and the first bad line.
use Rattle.std.specs.Prelude.{◌==◌, ℕ, ◌+◌, Bool, ◌||◌, nat_lt, List, [], ◌∷◌, ◌++◌, length, codes}
use Rattle.std.specs.Prelude.{nat_eq, false, Result, Ok, Err, if◌then◌else◌}
use Rattle.std.specs.List.{starts_with}
use Rattle.script_grammar.specs.declared.reading.TheConstants.{MOST_BYTES, MOST_LINES}
use Rattle.script_grammar.specs.declared.bad.BadScript.{BadScript}
use Rattle.script_grammar.specs.declared.bad.BadWhy.{BadWhy}
use Rattle.script_grammar.specs.declared.bad.BadWhy.TheVariants.{TooLong, Lines, First, Nodes}
use Rattle.script_grammar.specs.declared.before.Before.{Before}
use Rattle.script_grammar.specs.declared.line.Command.{Command}
use Rattle.script_grammar.specs.declared.line.Line.{Line}
use Rattle.script_grammar.specs.Commands.{command_in}
use Rattle.script_grammar.specs.Lines.{lines_of}
use Rattle.script_grammar.specs.Rules.{admitted}
use Rattle.script_grammar.specs.Words.{◌>>=◌, is_word, words_of}

-- this line is bad
abbrev pub bad_at : {A : Type 0} → ℕ → BadWhy → Result A BadScript
bad_at number why = Err (record { line = number; why = why })

-- empty lines and comments are passed over
unfoldable pub is_passed_over : List ℕ → Bool
is_passed_over line = (length line == 0) || starts_with nat_eq line (codes "#")

-- the command of a line, and what then stands before the next line
unfoldable pub line_in : Before → List ℕ → Result (Command × Before) BadWhy
line_in before line = do
  command ← command_in (words_of line)
  after ← admitted before command
  Ok (command, after)

-- lines in front of those that were read
abbrev pub put_before : List Line → Result (List Line) BadScript → Result (List Line) BadScript
put_before front (Ok lines) = Ok (front ++ lines)
put_before front (Err bad) = Err bad

-- a line's command before the commands of the lines after it
abbrev pub with_line : ℕ → Result (Command × Before) BadWhy
    → (Before → Result (List Line) BadScript) → Result (List Line) BadScript
with_line number (Ok (command, after)) rest =
    put_before (record { number = number; command = command } ∷ []) (rest after)
with_line number (Err why) rest = bad_at number why

-- the commands from line `number` on; there is no line 100,001, and two nodes at the end
unfoldable pub lines_in : ℕ → Before → List (List ℕ) → Result (List Line) BadScript
lines_in number before [] = if nat_lt before.nodes 2 then bad_at number Nodes else Ok []
lines_in number before (line ∷ lines) =
    if nat_lt MOST_LINES number then bad_at number Lines
    else (if is_passed_over line then lines_in (number + 1) before lines
    else with_line number (line_in before line) (λ after. lines_in (number + 1) after lines))

-- the first line, and then the commands
unfoldable pub text_in : List (List ℕ) → Result (List Line) BadScript
text_in [] = bad_at 1 First
text_in (head ∷ lines) =
    if is_word head (codes "erpc-sim 1") then lines_in 2 (record { nodes = 0; begun = false }) lines
    else bad_at 1 First

-- what the grammar says of a text: its commands, or its first bad line
unfoldable pub script_of : List ℕ → Result (List Line) BadScript
script_of text =
    if nat_lt MOST_BYTES (length text) then bad_at 0 TooLong else text_in (lines_of text)
