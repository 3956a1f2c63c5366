use Rattle.std.proofs.Common.{◌≡◌, replicate}
use Rattle.message_buffer.proofs.MadeLemmas.{as-made}
use Rattle.buffer_pool.specs.declared.usage.Use.TheVariants.{Empty}
use Rattle.buffer_pool.proofs.UsesLemmas.{CountsEmpty-new}
use Rattle.buffer_pool.proofs.places.Places.new.Goals as goal

pub invariant_of-result : goal.invariant_of-result
invariant_of-result c =
    let uses : c.in_ok-uses.uses.items ≡ replicate c.args.places Empty =
    as-made _ c.vec.result c.in_ok-uses.uses c.in_ok-uses.ensures.made
    c.vec.ensures.items_if_clones_equal (λ y e. e) in
    rw (uses, c.in_ok-empties.ensures.made) (CountsEmpty-new c.args.places c.ranges.places.fits)
