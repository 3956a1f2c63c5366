use Rattle.std.proofs.Common.{ap, arith, ◌∙◌, ◌++◌, ◌∷◌, []}
use Rattle.pacing_wheel.specs.Chains.{no_ends}
use Rattle.pacing_wheel.proofs.PopLemmas.{one-more-empty}
use Rattle.pacing_wheel.proofs.chains.empty_lists.Goals as goal

pub loop-i-preserved : goal.loop-i-preserved
loop-i-preserved c =
    let inv = c.loop-i.invariant in (
      c.push_reserved.ensures.items ∙ (ap (λ es. es ++ no_ends ∷ []) inv.0 ∙ one-more-empty c.loop-i._i),
      omega (arith, c.push_reserved.ensures.capacity, inv.1),
    )
