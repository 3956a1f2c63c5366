-- Scripts in which each pairing is of two nodes.
use Rattle.std.specs.Prelude.{◌≢◌, List}
use Rattle.std.specs.List.{AllByRecursion}
use Rattle.script_grammar.specs.declared.line.Command.{Command}
use Rattle.script_grammar.specs.declared.line.Command.TheVariants.{Pair}
use Rattle.script_grammar.specs.declared.line.Line.{Line}

-- a node isn't paired with itself
abbrev pub PairsTwo : Command → Type 0
PairsTwo (Pair a b credits) = a ≢ b
PairsTwo _ = Unit {0}

-- nor is any in the script
abbrev pub PairsTwoNodes : List Line → Type 0
PairsTwoNodes script = AllByRecursion (λ line. PairsTwo line.command) script
