use Rattle.std.proofs.Common.{arith}
use Rattle.buffer_pool.proofs.TreeLemmas.{doubled-more}
use Rattle.buffer_pool.proofs.tree.shape_for.Goals as goal

pub loop-leaves-preserved : goal.loop-leaves-preserved
loop-leaves-preserved c =
    let so_far = c.loop-leaves.invariant in
    record {
      power = omega (arith, so_far.power, doubled-more c.loop-leaves.height);
      some = omega (arith, so_far.some);
      few = omega arith;
      low =
          omega (arith, so_far.low, so_far.some);
    }
