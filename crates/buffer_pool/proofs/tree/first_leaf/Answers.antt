use Rattle.buffer_pool.proofs.TreeLemmas.{IsDescent-root, IsDescent-inner, IsDescent-lower}
use Rattle.buffer_pool.proofs.tree.first_leaf.Goals as goal

pub loop-levels-init : goal.loop-levels-init
loop-levels-init c = IsDescent-root c.args.tree.now c.args.height c.requires.root c.requires.size

pub lower-node-requires : goal.lower-node-requires
lower-node-requires c =
    IsDescent-inner c.args.tree.now c.loop-levels.levels c.loop-levels.node c.loop-levels-test.true
    c.loop-levels.invariant

pub loop-levels-preserved : goal.loop-levels-preserved
loop-levels-preserved c =
    IsDescent-lower c.args.tree.now c.loop-levels.levels c.loop-levels.node c.lower-node.result
    c.loop-levels-test.true c.requires.joined c.lower-node.ensures.left c.lower-node.ensures.right
    c.loop-levels.invariant
