use Rattle.rpc_base.specs.declared.limits.TheConstants.{HEAD_BYTES}
use Rattle.std.proofs.Common.{◌≡◌, ◌+◌, ◌-◌, ◌∙◌, length, take, drop, refl, ap, sym, arith}
use Rattle.std.proofs.lemmas.List.{length-take, length-drop, take-take}
use Rattle.message_buffer.specs.Buffer.{Buffer, bytes_of, capacity_of}
use Rattle.message_buffer.specs.Lending.{rewritten}
use Rattle.message_buffer.proofs.LendingLemmas.{buffer-rewritten}
use Rattle.message_buffer.proofs.buffer.MsgBuf.whole_mut.Goals as goal

pub returns : goal.returns
returns c =
    let fields = c.self.inside in
    let fits = c.self.invariant in
    let len : fields.len ≡ c.args.self.now.len = ap (λ (b : Buffer). b.len) c.self.view_is in
    let size = ap capacity_of c.self.view_is in
    let bytes = ap bytes_of c.self.view_is in
    let width : (HEAD_BYTES + fields.len) - HEAD_BYTES ≡ fields.len = omega arith in
    let message : c.slice_mut.result.now ≡ take fields.len (drop HEAD_BYTES fields.block.items) =
    rw width at c.slice_mut.ensures.value in (
      (refl, λ w. buffer-rewritten fields.block fields.capacity fields.len w fits ∙ ap (rewritten w) c.self.view_is),
      record {
        writes_back = tt;
        message = message ∙ sym (take-take fields.len fields.capacity (drop HEAD_BYTES fields.block.items)
            fits.within) ∙ bytes;
        len = ap length message ∙ length-take fields.len (drop HEAD_BYTES fields.block.items)
            ∙ omega (arith, fits.size, fits.within, length-drop HEAD_BYTES fields.block.items);
        within = omega (
          arith,
          fits.size,
          fits.within,
          size,
          length-take fields.capacity (drop HEAD_BYTES fields.block.items),
          length-drop HEAD_BYTES
              fields.block.items,
        );
      },
    )
