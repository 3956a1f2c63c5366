use Rattle.std.proofs.Common.{◌≡◌, ◌*◌, false, replicate}
use Rattle.message_buffer.proofs.MadeLemmas.{as-made}
use Rattle.buffer_pool.proofs.LowestLemmas.{leaves-replicate}
use Rattle.buffer_pool.proofs.lowest.LowestEmpty.none_empty.Goals as goal

pub returns-clause-made : goal.returns-clause-made
returns-clause-made c =
    let leaves = c.shape_for-height.result.1 in
    let tree : c.in_ok-tree.tree.items ≡ replicate (2 * leaves) false =
    as-made _ c.vec.result c.in_ok-tree.tree c.in_ok-tree.ensures.made
    c.vec.ensures.items_if_clones_equal (λ y e. e) in
    rw tree (leaves-replicate leaves c.args.places false c.shape_for-height.ensures.room)
