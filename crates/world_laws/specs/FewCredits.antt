-- Scripts in which each session that is paired or opened has few credits.
use Rattle.std.specs.Prelude.{◌≤◌, List}
use Rattle.std.specs.List.{AllByRecursion}
use Rattle.rpc_base.specs.declared.limits.TheConstants.{MOST_CREDITS}
use Rattle.script_grammar.specs.declared.line.Command.{Command}
use Rattle.script_grammar.specs.declared.line.Command.TheVariants.{Pair, Connect}
use Rattle.script_grammar.specs.declared.line.Line.{Line}

-- such a session has 1 to 256 credits; other commands have none
abbrev pub PairsFew : Command → Type 0
PairsFew (Pair a b credits) = (1 ≤ credits) × (credits ≤ MOST_CREDITS)
PairsFew (Connect a b credits) = (1 ≤ credits) × (credits ≤ MOST_CREDITS)
PairsFew _ = Unit {0}

-- so each of a script has
abbrev pub PairsFewCredits : List Line → Type 0
PairsFewCredits script = AllByRecursion (λ line. PairsFew line.command) script
