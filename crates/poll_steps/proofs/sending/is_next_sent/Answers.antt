use Rattle.poll_steps.proofs.SendLemmas.{sends-is}
use Rattle.std.proofs.Common.{sym, ◌∙◌}
use Rattle.poll_steps.proofs.sending.is_next_sent.Goals as goal

pub returns : goal.returns
returns c =
    sends-is c.args.clock c.args.lists.now c.first-entry.result.now c.args.fact.now c.is_sent.result c.first-entry.ensures
    (sym c.is_due.ensures ∙ c.if-not-is_due.false) c.is_sent.ensures
