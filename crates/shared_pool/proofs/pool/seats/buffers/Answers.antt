use Rattle.std.proofs.Common.{rules, ◌∙◌, Some}
use Rattle.std.proofs.lemmas.List.Elements.{All-push}
use Rattle.shared_pool.specs.Rule.{IsFilled}
use Rattle.shared_pool.proofs.pool.seats.buffers.Goals as goal

pub loop-i-preserved : goal.loop-i-preserved
loop-i-preserved c = (
  search rules,
  search rules,
  rw c.push_reserved.ensures.items (All-push (IsFilled c.args.capacity) c.loop-i.slots.items
      (Some c.in_ok-buffer.buffer) c.loop-i.invariant.2 c.in_ok-buffer.ensures.capacity),
  c.in_ok-buffer.ensures.cause ∙ c.loop-i.invariant.3,
)
