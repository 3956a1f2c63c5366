use Rattle.std.proofs.Common.{◌≡◌, ◌∙◌, get_or, true, None, refl, ap}
use Rattle.buffer_pool.specs.declared.usage.Use.TheVariants.{Empty}
use Rattle.buffer_pool.specs.Uses.{is_full}
use Rattle.buffer_pool.proofs.PoolLemmas.{same_use, buf_missing, HoldsFull-set}
use Rattle.buffer_pool.proofs.pool.BufferPool.move_out.Goals as goal

pub unreachable-requires : goal.unreachable-requires
unreachable-requires c =
    let fields = c.self.inside in
    let full : is_full (get_or fields.places c.args.place Empty) ≡ true =
    ap is_full (same_use _ _ _ _ c.self.view_is refl) ∙ c.requires.full in
    buf_missing fields.places fields.bufs.items c.args.place c.index_mut.result.now c.self.invariant
    full c.index_mut.ensures.value (cc)

pub invariant_of-self : goal.invariant_of-self
invariant_of-self c =
    rw (c.set.ensures, c.take-moved.ensures.after)
    (HoldsFull-set c.self.inside.places c.self.inside.bufs.items c.args.place c.args.next None
    c.self.invariant c.requires.next)
