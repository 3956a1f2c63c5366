use Rattle.std.proofs.Common.{◌<◌, ◌+◌, ◌∙◌, false, length, sym, ap, arith}
use Rattle.std.proofs.lemmas.List.{get_or_read}
use Rattle.std.specs.List.{position}
use Rattle.buffer_pool.proofs.LowestLemmas.{lowest-first}
use Rattle.buffer_pool.proofs.lowest.LowestEmpty.first.Goals as goal

pub index-requires : goal.index-requires
index-requires c = let fits = c.self.invariant.0 in omega (arith, fits.size, fits.room, c.self.inside.tree.ok.0)

pub returns : goal.returns
returns c =
    let fields = c.self.inside in
    let fits = c.self.invariant.0 in
    let wide : fields.leaves + fields.from < length fields.tree.items = omega (arith, fits.size, fits.room) in
    lowest-first fields.tree.items fields.leaves fields.height fields.places fields.from fits
    c.self.invariant.1
    (sym (get_or_read fields.tree.items (fields.leaves + fields.from) c.index.result.now wide c.index.ensures false)
    ∙ c.if-not-index.false)
    ∙ ap (position (λ x. x)) c.self.view_is
