use Rattle.node_audit.proofs.HandledLemmas.{answer-all}
use Rattle.node_audit.proofs.handled.has_answer.Goals as goal

pub returns-in-Ran-clause-answer : goal.returns-in-Ran-clause-answer
returns-in-Ran-clause-answer c =
    answer-all c.is_answer.result c.args.total c.in-Ran.req_type c.bytes.result.now c.bytes-in-Ran.result.now
    c.args.fact.now c.in-Ran.is c.bytes.ensures c.bytes-in-Ran.ensures c.is_answer.ensures.answer
