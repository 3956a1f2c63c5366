use Rattle.std.proofs.Common.{◌≤◌, sym, ◌∙◌, subst}
use Rattle.rpc_outside.proofs.Filling.{fill-length}
use Rattle.node_audit.proofs.answers.fill_len.Goals as goal

pub returns-else-count-gt-MOST_MESSAGE_BYTES : goal.returns-else-count-gt-MOST_MESSAGE_BYTES
returns-else-count-gt-MOST_MESSAGE_BYTES c =
    c.fill_count-count.ensures ∙ sym (fill-length c.args.ask.now c.if-ask-ne-FILL_BYTES.false
    (subst (λ n. n ≤ 1048576) c.fill_count-count.ensures c.if-count-gt-MOST_MESSAGE_BYTES.false))
