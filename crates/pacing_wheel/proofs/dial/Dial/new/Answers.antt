use Rattle.std.proofs.Common.{ap, arith, length, refl, ◌∙◌}
use Rattle.pacing_wheel.proofs.DialLemmas.{all-places, empty, empty-length, none-stand, none-together}
use Rattle.pacing_wheel.proofs.dial.Dial.new.Goals as goal

pub invariant_of-result : goal.invariant_of-result
invariant_of-result c =
    let n = c.places_for.result in
    rw c.in_ok-chains.ensures.made (
      none-stand 0 0 (empty n) (ap length (none-together n)),
      ap length (none-together n),
      omega arith,
      (λ some. empty-length n ∙ all-places c.args.size n c.places_for.ensures some),
    )

pub returns-clause-made : goal.returns-clause-made
returns-clause-made c =
    rw (c.in_ok-chains.ensures.made, none-together c.places_for.result) refl
