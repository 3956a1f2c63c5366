use Rattle.std.proofs.Common.{Some, refl}
use Rattle.buffer_pool.specs.declared.usage.Use.TheVariants.{Full}
use Rattle.buffer_pool.proofs.PoolLemmas.{HoldsFull-set}
use Rattle.buffer_pool.proofs.pool.BufferPool.fill.Goals as goal

pub invariant_of-self : goal.invariant_of-self
invariant_of-self c =
    rw c.set.ensures (HoldsFull-set c.self.inside.places c.self.inside.bufs.items c.args.place
    (Full 0) (Some c.args.buf) c.self.invariant refl)
