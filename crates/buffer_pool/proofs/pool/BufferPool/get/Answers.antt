use Rattle.std.proofs.Common.{◌≡◌, ◌∙◌, get_or, true, ap}
use Rattle.buffer_pool.specs.declared.usage.Use.TheVariants.{Empty}
use Rattle.buffer_pool.specs.Uses.{is_full}
use Rattle.buffer_pool.proofs.PoolLemmas.{same_use, buf_missing}
use Rattle.buffer_pool.proofs.pool.BufferPool.get.Goals as goal

pub unreachable-requires : goal.unreachable-requires
unreachable-requires c =
    let fields = c.self.inside in
    let full : is_full (get_or fields.places c.place.inside.0 Empty) ≡ true =
    ap is_full (same_use _ _ _ _ c.self.view_is c.place.view_is) ∙ c.requires in
    buf_missing fields.places fields.bufs.items c.place.inside.0 c.index.result.now c.self.invariant
    full c.index.ensures c.in-None.is
