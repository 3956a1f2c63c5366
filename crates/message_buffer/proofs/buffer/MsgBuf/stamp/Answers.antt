use Rattle.rpc_base.specs.declared.limits.TheConstants.{HEAD_BYTES}
use Rattle.std.proofs.Common.{◌≡◌, ◌+◌, ◌-◌, length, ap, arith}
use Rattle.message_buffer.specs.Buffer.{Buffer}
use Rattle.message_buffer.proofs.BlockLemmas.{items-put, buffer-stamped, head_start-end}
use Rattle.message_buffer.proofs.buffer.MsgBuf.stamp.Goals as goal

pub returns : goal.returns
returns c =
    let fields = c.self.inside in
    let fits = c.self.invariant in
    let start = c.head_at-start.result in
    let len : fields.len ≡ c.args.self.now.len = ap (λ (b : Buffer). b.len) c.self.view_is in
    let width : start + HEAD_BYTES - start ≡ HEAD_BYTES = omega arith in
    let long : length c.args.head.now ≡ HEAD_BYTES = omega (arith, c.fits-head) in
    let kept = items-put fields.block start HEAD_BYTES c.args.head.now long
    (omega (arith, head_start-end, c.head_at-start.ensures)) in
    rw (c.deref_mut.ensures.value, c.copy_from_slice.ensures.after, width, kept, ← c.self.view_is)
    (buffer-stamped fields.block.items c.args.head.now fields.capacity fields.len start
    c.args.index c.head_at-start.ensures long (omega (arith, fits.within)) fits.size)
