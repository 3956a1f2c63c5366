use Rattle.std.proofs.Common.{◌∙◌, sym, ap, arith}
use Rattle.buffer_pool.specs.Uses.{is_empty}
use Rattle.buffer_pool.specs.Pool.{spare_of}
use Rattle.buffer_pool.proofs.UsesLemmas.{count-none}
use Rattle.buffer_pool.proofs.pool.BufferPool.put.Goals as goal

pub unreachable-requires : goal.unreachable-requires
unreachable-requires c =
    let none = count-none is_empty c.self.inside.places (sym c.lowest.ensures ∙ c.in_default.is) in
    absurd (omega (arith, none, ap spare_of c.self.view_is))
