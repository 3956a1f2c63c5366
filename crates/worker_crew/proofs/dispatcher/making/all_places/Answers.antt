use Rattle.std.proofs.Common.{arith}
use Rattle.worker_crew.proofs.FreeLemmas.{free-more}
use Rattle.worker_crew.proofs.dispatcher.making.all_places.Goals as goal

pub loop-place-preserved : goal.loop-place-preserved
loop-place-preserved c =
    (free-more c.loop-place.invariant.0 c.push_reserved.ensures.items, omega arith)
