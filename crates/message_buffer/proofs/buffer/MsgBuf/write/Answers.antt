use Rattle.rpc_base.specs.declared.limits.TheConstants.{HEAD_BYTES}
use Rattle.std.proofs.Common.{◌≡◌, ◌+◌, ◌-◌, length, ap, arith}
use Rattle.message_buffer.specs.Buffer.{Buffer}
use Rattle.message_buffer.proofs.BlockLemmas.{items-put, buffer-written}
use Rattle.message_buffer.proofs.buffer.MsgBuf.write.Goals as goal

pub returns : goal.returns
returns c =
    let fields = c.self.inside in
    let fits = c.self.invariant in
    let len : fields.len ≡ c.args.self.now.len = ap (λ (b : Buffer). b.len) c.self.view_is in
    let span : length c.args.from.now ≡ (HEAD_BYTES + c.args.at + length c.args.from.now) - (HEAD_BYTES + c.args.at) = omega arith in
    let kept = items-put fields.block (HEAD_BYTES + c.args.at) _ c.args.from.now span (omega (arith, fits.size)) in
    rw (c.deref_mut.ensures.value, c.copy_from_slice.ensures.after, kept, ← c.self.view_is)
    (buffer-written fields.block.items c.args.from.now fields.capacity fields.len c.args.at _
    span (omega arith) fits.size)
