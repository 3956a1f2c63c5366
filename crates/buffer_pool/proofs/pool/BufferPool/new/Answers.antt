use Rattle.std.proofs.Common.{◌≡◌, arith}
use Rattle.buffer_pool.proofs.PoolLemmas.{HoldsFull-new}
use Rattle.buffer_pool.proofs.pool.BufferPool.new.Goals as goal

pub invariant_of-result : goal.invariant_of-result
invariant_of-result c =
    let all : c.loop-place._place ≡ c.args.places = omega arith in
    rw (c.in_ok-places.ensures.made, c.loop-place.invariant.0, all) (HoldsFull-new c.args.places)
