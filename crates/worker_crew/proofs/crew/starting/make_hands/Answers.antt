use Rattle.std.proofs.Common.{arith, ap, ◌∙◌, ◌++◌, ◌∷◌, []}
use mathlib.Core.List.{map-append}
use Rattle.worker_crew.specs.Crews.{names}
use Rattle.worker_crew.specs.Hands.{HandName, name_of}
use Rattle.worker_crew.specs.declared.hand.Hand.{Hand}
use Rattle.worker_crew.proofs.OutLemmas.{one-more-out}
use Rattle.worker_crew.proofs.crew.starting.make_hands.Goals as goal

pub loop-number-preserved : goal.loop-number-preserved
loop-number-preserved g c = (
  one-more-out c.loop-number.invariant.0 c.in_ok-hand.ensures.out
      (ap names c.push_back_reserved.ensures.items
      ∙ map-append (λ (h : Hand g.row.D.Denot). name_of h) _ _
      ∙ ap (λ (n : HandName). names c.loop-number.made.items ++ n ∷ []) c.in_ok-hand.ensures.name),
  omega arith,
  c.in_ok-hand.ensures.cause ∙ c.in_ok-sleeper.ensures.cause ∙ c.loop-number.invariant.2,
)
