use Rattle.node_audit.proofs.AnswerLemmas.{steady-all}
use Rattle.node_audit.proofs.answers.is_answer.Goals as goal

pub returns-clause-answer : goal.returns-clause-answer
returns-clause-answer c =
    steady-all c.is_steady.result c.args.total c.args.req_type c.steady_kind.result c.args.ask.now
    c.args.answer.now c.if-req_type-eq-TALLY.false c.steady_kind.ensures c.is_steady.ensures.answer
