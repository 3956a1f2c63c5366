use Rattle.std.proofs.Common.{inl}
use Rattle.poll_steps.proofs.HandleLemmas.{next-over, none-left}
use Rattle.poll_steps.proofs.handling.next_handled.Goals as goal

pub returns-then-is_empty-clause-next : goal.returns-then-is_empty-clause-next
returns-then-is_empty-clause-next c =
    next-over c.args.lists.now c.args.facts.now
    (λ clock. inl (none-left c.args.lists.now.ring c.is_empty.result c.is_empty.ensures c.if-is_empty.true))
