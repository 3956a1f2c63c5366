use Rattle.std.proofs.Common.{arith}
use Rattle.std.proofs.lemmas.Grind.{common_steps}
use Rattle.drill_maker.proofs.DrillLemmas.{no_rounds, rounds_more}
use Rattle.drill_maker.proofs.drill.add_rounds.Goals as goal

pub loop-i-init : goal.loop-i-init
loop-i-init c = grind (arith, common_steps, no_rounds)

pub loop-i-preserved : goal.loop-i-preserved
loop-i-preserved c = grind (arith, common_steps, rounds_more)
