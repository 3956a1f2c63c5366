use Rattle.std.proofs.Common.{◌≡◌, ◌<◌, ◌≤◌, ◌-◌, ◌^◌}
use Rattle.buffer_pool.specs.Tree.{doubled}
use Rattle.buffer_pool.proofs.tree.shape_for.Given as goal

abbrev pub invariant-loop-leaves : goal.invariant-loop-leaves
invariant-loop-leaves l =
    record {
      power : l.leaves ≡ doubled l.height 1;
      some : 0 < l.leaves;
      few : l.leaves < 2 ^ 33;
      low : l.height ≤ l.leaves;
    }

abbrev pub decreases-loop-leaves : goal.decreases-loop-leaves
decreases-loop-leaves l = l.places - l.leaves
