use Rattle.std.proofs.Common.{◌≡◌, ◌∙◌, get_or, sym, ap}
use Rattle.buffer_pool.specs.declared.usage.Use.TheVariants.{Empty, Lent}
use Rattle.buffer_pool.specs.Uses.{is_full}
use Rattle.buffer_pool.proofs.PoolLemmas.{HoldsFull-use, lent_within, same_use, emptied_lent}
use Rattle.buffer_pool.proofs.pool.BufferPool.forget.Goals as goal

pub invariant_of-self : goal.invariant_of-self
invariant_of-self c =
    let fields = c.self.inside in
    let lent : get_or fields.places c.place.inside.0 Empty ≡ Lent =
    same_use _ _ _ _ c.self.view_is c.place.view_is ∙ c.requires in
    rw c.set.ensures (HoldsFull-use fields.places fields.bufs.items c.place.inside.0 _
    c.self.invariant (lent_within fields.places c.place.inside.0 lent) (sym (ap is_full lent)))

pub returns : goal.returns
returns c =
    let fields = c.self.inside in
    let lent : get_or fields.places c.place.inside.0 Empty ≡ Lent =
    same_use _ _ _ _ c.self.view_is c.place.view_is ∙ c.requires in
    rw (c.set.ensures, ← c.place.view_is, ← c.self.view_is)
    (emptied_lent fields.places fields.bufs.items c.place.inside.0 c.self.invariant lent)
