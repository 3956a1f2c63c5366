use Rattle.std.proofs.Common.{◌∷◌, [], Some, ◌∙◌, arith, length-append}
use Rattle.server_core.proofs.HomeLemmas.{one-more-home}
use Rattle.server_core.proofs.homes.Homes.new.Goals as goal

pub loop-slot-preserved : goal.loop-slot-preserved
loop-slot-preserved c =
    let homes = c.loop-slot.buffers.items in
    let b = c.in_ok-buffer.buffer in
    rw c.in_ok-push.ensures.pushed (record {
      all = omega (arith, length-append homes (Some b ∷ []), c.loop-slot.invariant.all);
      each = one-more-home homes (Some b) c.loop-slot.invariant.each c.in_ok-buffer.ensures.capacity;
      quiet = c.in_ok-push.ensures.cause ∙ c.in_ok-buffer.ensures.cause ∙ c.loop-slot.invariant.quiet;
    })
