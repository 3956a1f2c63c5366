use Rattle.std.proofs.Common.{ap, ◌∙◌}
use Rattle.std.proofs.Math.Seq.{map-set_same}
use Rattle.worker_crew.specs.Hands.{name_of}
use Rattle.worker_crew.specs.declared.hand.Hand.{Hand}
use Rattle.worker_crew.proofs.crew.working.step_each.Goals as goal

pub loop-i-preserved : goal.loop-i-preserved
loop-i-preserved g c =
    map-set_same (λ (h : Hand g.row.D.Denot). name_of h) c.loop-i.hands.items c.loop-i.i
    c.step.new.self c.index_mut.result.now
    (c.step.ensures.name ∙ ap (λ (h : Hand g.row.D.Denot). name_of h) c.index_mut.ensures.value)
    ∙ c.loop-i.invariant
