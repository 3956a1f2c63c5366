use Rattle.std.proofs.Common.{◌≡◌, ◌∙◌, get_or, true, sym, ap}
use Rattle.buffer_pool.specs.declared.usage.Use.TheVariants.{Empty, Full}
use Rattle.buffer_pool.specs.Uses.{is_full}
use Rattle.buffer_pool.proofs.PoolLemmas.{HoldsFull-use, full_from_refs, full_within, same_use}
use Rattle.buffer_pool.proofs.pool.BufferPool.release.Goals as goal

pub invariant_of-self : goal.invariant_of-self
invariant_of-self c =
    let fields = c.self.inside in
    let full : is_full (get_or fields.places c.place.inside.0 Empty) ≡ true =
    ap is_full (same_use _ _ _ _ c.self.view_is c.place.view_is)
    ∙ full_from_refs c.args.self.now c.args.place c.requires in
    rw c.set.ensures (HoldsFull-use fields.places fields.bufs.items c.place.inside.0 (Full _)
    c.self.invariant (full_within fields.places c.place.inside.0 full) (sym full))
