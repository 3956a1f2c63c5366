-- A script that is being made.
use Rattle.std.specs.Prelude.{◌≡◌, ◌+◌, ◌≤◌, List, ◌++◌, All, length, map}
use Rattle.script_grammar.specs.declared.line.Command.{Command}
use Rattle.script_grammar.specs.declared.line.Command.TheVariants.{Connect, Disconnect, Rate}
use Rattle.script_grammar.specs.declared.line.Line.{Line}
use Rattle.script_grammar.specs.declared.reading.TheConstants.{MOST_LINES}
use Rattle.script_grammar.specs.Conditions.{IsInRange, IsAmong}
use Rattle.drill_maker.specs.Drill.{nodes, numbered}

-- a command that opens, closes and rates no session
abbrev pub KeepsSessions : Command → Type 0
KeepsSessions (Connect a b credits) = ⊥
KeepsSessions (Disconnect node session) = ⊥
KeepsSessions (Rate node session rate) = ⊥
KeepsSessions _ = Unit {0}

-- a command among three nodes, with its numbers in range
pub record IsDrilled (command : Command) : Type 0 where
  pub range : IsInRange command
  pub among : IsAmong 3 command
  pub keeps : KeepsSessions command

abbrev pub commands_of : List Line → List Command
commands_of lines = map (λ line. line.command) lines

-- the lines are numbered from 2 on, and begin with three nodes
pub record IsDraft (lines : List Line) : Type 0 where
  pub others : List Command
  pub drilled : All IsDrilled others
  pub commands : commands_of lines ≡ nodes ++ others
  pub numbers : lines ≡ numbered 2 (commands_of lines)
  pub few : length lines + 1 ≤ MOST_LINES
