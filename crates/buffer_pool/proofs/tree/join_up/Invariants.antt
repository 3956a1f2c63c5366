use Rattle.buffer_pool.proofs.TreeLemmas.{JoinedBut}
use Rattle.buffer_pool.proofs.tree.join_up.Given as goal

abbrev pub invariant-loop-node : goal.invariant-loop-node
invariant-loop-node l = JoinedBut l.tree l.initial.tree l.node

abbrev pub decreases-loop-node : goal.decreases-loop-node
decreases-loop-node l = l.node
