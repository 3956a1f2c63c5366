use Rattle.std.proofs.Common.{◌≡◌, replicate, arith}
use Rattle.message_buffer.proofs.BlockLemmas.{length-pieces, zero_heads-get}
use Rattle.message_buffer.proofs.MadeLemmas.{as-made}
use Rattle.message_buffer.proofs.buffer.MsgBuf.new.Goals as goal

pub returns-clause-heads : goal.returns-clause-heads
returns-clause-heads c = omega (arith, length-pieces)

pub returns-clause-zero_heads : goal.returns-clause-zero_heads
returns-clause-zero_heads c =
    let block : c.in_ok-block.block.items ≡ replicate c.block_bytes.result 0 =
    as-made _ c.vec.result c.in_ok-block.block c.in_ok-block.ensures.made
    c.vec.ensures.items_if_clones_equal (λ y e. e) in
    λ k below. zero_heads-get c.in_ok-block.block.items c.block_bytes.result c.args.capacity k block
    below (omega arith)
