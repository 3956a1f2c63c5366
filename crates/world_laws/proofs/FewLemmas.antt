-- The pairings of a script have few credits.
use Rattle.std.proofs.Common.{suc, List, [], ◌∷◌, arith}
use Rattle.std.specs.Prelude.{All}
use Rattle.script_grammar.specs.Conditions.{IsInRange, IsScript}
use Rattle.script_grammar.specs.declared.line.Command.{Command}
use Rattle.script_grammar.specs.declared.line.Command.TheVariants.{Pair, Connect}
use Rattle.script_grammar.specs.declared.line.Line.{Line}
use Rattle.world_laws.specs.FewCredits.{PairsFew, PairsFewCredits}

range-few : (c : Command) → IsInRange c → PairsFew c
range-few (Pair a b credits) h = h
range-few (Connect a b credits) h = h
range-few _ h = tt

ranges-few : (lines : List Line) → All (λ line. IsInRange line.command) lines → PairsFewCredits lines
ranges-few [] h = tt
ranges-few (line ∷ lines) h =
    (range-few line.command (h 0 line (omega arith)), ranges-few lines (λ k d lt. h (suc k) d (omega arith)))

pub script-few : (lines : List Line) → IsScript lines → PairsFewCredits lines
script-few lines s = ranges-few lines s.ranges
