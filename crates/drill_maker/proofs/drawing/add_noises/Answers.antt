use Rattle.std.proofs.Common.{arith}
use Rattle.std.proofs.lemmas.Grind.{common_steps}
use Rattle.drill_maker.proofs.DrillLemmas.{no_noises, noises_more, noises_next}
use Rattle.drill_maker.proofs.drawing.add_noises.Goals as goal

pub loop-i-init : goal.loop-i-init
loop-i-init c = grind (arith, common_steps, no_noises)

pub loop-i-preserved : goal.loop-i-preserved
loop-i-preserved c = grind (arith, common_steps, noises_more, noises_next)
