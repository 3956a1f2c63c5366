use Rattle.std.proofs.Common.{◌∙◌, ap, position}
use Rattle.buffer_pool.specs.Uses.{is_empty}
use Rattle.buffer_pool.proofs.UsesLemmas.{position-map}
use Rattle.buffer_pool.proofs.places.Places.lowest.Goals as goal

pub returns : goal.returns
returns c = c.lowest.ensures ∙ ap (position (λ x. x)) c.self.invariant.marks_are
    ∙ position-map is_empty c.self.inside.uses.items ∙ ap (position is_empty) c.self.view_is
