use Rattle.std.proofs.Common.{◌≤◌, sym, ◌∙◌, subst}
use Rattle.rpc_outside.proofs.Filling.{fill-length}
use Rattle.rpc_outside.proofs.plain.answers.fill_len.Goals as goal

pub returns-else-count-gt-MOST_MESSAGE_BYTES-clause-length :
    goal.returns-else-count-gt-MOST_MESSAGE_BYTES-clause-length
returns-else-count-gt-MOST_MESSAGE_BYTES-clause-length c =
    c.fill_count-count.ensures ∙ sym (fill-length c.args.ask.now c.if-ask-ne-FILL_BYTES.false
    (subst (λ n. n ≤ 1048576) c.fill_count-count.ensures
    c.if-count-gt-MOST_MESSAGE_BYTES.false))
