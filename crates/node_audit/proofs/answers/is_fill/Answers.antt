use Rattle.std.proofs.Common.{◌∙◌}
use Rattle.node_audit.proofs.AnswerLemmas.{fill-is}
use Rattle.node_audit.proofs.answers.is_fill.Goals as goal

pub returns : goal.returns
returns c =
    fill-is c.args.ask.now c.args.answer.now c.counts_up.result (c.if-answer-fill_len.false ∙ c.fill_len.ensures)
    c.counts_up.ensures
