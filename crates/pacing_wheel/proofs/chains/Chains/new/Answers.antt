use Rattle.std.proofs.Common.{arith, refl}
use Rattle.pacing_wheel.proofs.PopLemmas.{lists-empty, tied-empty}
use Rattle.pacing_wheel.proofs.chains.Chains.new.Goals as goal

pub invariant_of-result : goal.invariant_of-result
invariant_of-result c =
    let links = c.in_ok-links.links.items in
    let free = c.in_ok-free.free.items in (
      rw c.in_ok-places.ensures.made (tied-empty links c.args.places free c.in_ok-free.ensures.once
          (λ k some. let low = c.in_ok-free.ensures.inside k some in omega (arith, low, c.in_ok-links.ensures.made))
          (omega (arith, c.in_ok-free.ensures.made, c.in_ok-links.ensures.made))
          (omega (arith, c.in_ok-links.ensures.made, c.ranges.size.fits))),
      omega (arith, c.in_ok-links.ensures.made, c.in_ok-free.ensures.room),
    )

pub returns-clause-made : goal.returns-clause-made
returns-clause-made c =
    let links = c.in_ok-links.links.items in
    rw (c.in_ok-places.ensures.made, c.in_ok-free.ensures.made, lists-empty links c.args.places) refl
