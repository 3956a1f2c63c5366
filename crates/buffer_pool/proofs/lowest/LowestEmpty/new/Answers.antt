use Rattle.buffer_pool.proofs.LowestLemmas.{front-more}
use Rattle.buffer_pool.proofs.lowest.LowestEmpty.new.Goals as goal

pub loop-place-preserved : goal.loop-place-preserved
loop-place-preserved c =
    rw (c.set.ensures, c.loop-place.invariant)
    (front-more c.loop-place.place c.args.places c.loop-place-test.true)
