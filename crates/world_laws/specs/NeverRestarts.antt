-- Scripts in which no node is restarted.
use Rattle.std.specs.Prelude.{List}
use Rattle.std.specs.List.{AllByRecursion}
use Rattle.script_grammar.specs.declared.line.Command.{Command}
use Rattle.script_grammar.specs.declared.line.Command.TheVariants.{Restart}
use Rattle.script_grammar.specs.declared.line.Line.{Line}

-- this command restarts no node
abbrev pub RestartsNone : Command → Type 0
RestartsNone (Restart n) = ⊥
RestartsNone _ = Unit {0}

-- none of a script does
abbrev pub NeverRestarts : List Line → Type 0
NeverRestarts script = AllByRecursion (λ line. RestartsNone line.command) script
