use Rattle.std.proofs.Common.{arith, ap, length}
use Rattle.pacing_wheel.proofs.PushLemmas.{length-end}
use Rattle.pacing_wheel.proofs.PopLemmas.{one-more}
use Rattle.pacing_wheel.proofs.chains.all_places.Goals as goal

pub loop-k-preserved : goal.loop-k-preserved
loop-k-preserved c =
    let inv = c.loop-k.invariant in
    let more = one-more c.loop-k.free.items c.loop-k.k inv.2 inv.3 in (
      omega (arith, ap length c.push_reserved.ensures.items, length-end c.loop-k.free.items c.loop-k.k, inv.0),
      omega (arith, c.push_reserved.ensures.capacity, inv.1),
      (rw c.push_reserved.ensures.items more.0),
      (rw c.push_reserved.ensures.items more.1),
    )
