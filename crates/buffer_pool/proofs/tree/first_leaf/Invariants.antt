use Rattle.buffer_pool.proofs.TreeLemmas.{IsDescent}
use Rattle.buffer_pool.proofs.tree.first_leaf.Given as goal

abbrev pub invariant-loop-levels : goal.invariant-loop-levels
invariant-loop-levels l = IsDescent l.tree l.levels l.node

abbrev pub decreases-loop-levels : goal.decreases-loop-levels
decreases-loop-levels l = l.levels
