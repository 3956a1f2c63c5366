use Rattle.rpc_base.specs.declared.limits.TheConstants.{HEAD_BYTES}
use Rattle.std.proofs.Common.{◌≡◌, ◌+◌, ◌-◌, ◌*◌, ap, arith}
use Rattle.message_buffer.specs.Buffer.{Buffer, bytes_of}
use Rattle.message_buffer.specs.Block.{heads_in}
use Rattle.message_buffer.proofs.BlockLemmas.{heads-get, part-in}
use Rattle.message_buffer.proofs.buffer.MsgBuf.packet.Goals as goal

pub returns-clause-head : goal.returns-clause-head
returns-clause-head c =
    let fields = c.self.inside in
    let len : fields.len ≡ c.args.self.now.len = ap (λ (b : Buffer). b.len) c.self.view_is in
    let heads : heads_in fields.block.items fields.capacity ≡ c.args.self.now.heads =
    ap (λ (b : Buffer). b.heads) c.self.view_is in
    let width : c.head_at-head.result + HEAD_BYTES - c.head_at-head.result ≡ HEAD_BYTES = omega arith in
    rw (← heads, c.deref.ensures.value, width, c.head_at-head.ensures)
    (heads-get fields.block.items fields.capacity c.args.index
    (omega (arith, c.self.invariant.within)))

pub returns-clause-part : goal.returns-clause-part
returns-clause-part c =
    let fields = c.self.inside in
    let len : fields.len ≡ c.args.self.now.len = ap (λ (b : Buffer). b.len) c.self.view_is in
    let bytes = ap bytes_of c.self.view_is in
    let width : (HEAD_BYTES + 1024 * c.args.index + c.part_len.result) - (HEAD_BYTES + 1024 * c.args.index)
    ≡ c.part_len.result = omega arith in
    rw (c.deref-2.ensures.value, width, ← bytes)
    (part-in fields.block.items fields.capacity fields.len c.args.index c.part_len.result
    c.self.invariant.within (rw len c.requires) c.part_len.ensures)
