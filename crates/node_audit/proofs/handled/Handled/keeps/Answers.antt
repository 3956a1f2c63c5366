use Rattle.std.proofs.Common.{Bool, ◌&&◌, ap, sym, []}
use Rattle.rpc_laws.specs.Service.{served_after_all}
use Rattle.rpc_outside.specs.PlainAnswer.{plain_mode}
use Rattle.node_audit.proofs.HandledLemmas.{and-false, handled-so}
use Rattle.node_audit.proofs.handled.Handled.keeps.Goals as goal

pub returns-then-keeps_once-clause-keeps : goal.returns-then-keeps_once-clause-keeps
returns-then-keeps_once-clause-keeps c = λ x k h.
    handled-so x c.args.fact.now c.keeps_once.result c.in_ok-answered.answered c.in_ok-answered.answered
    (ap (λ (b : Bool). b && c.in_ok-answered.answered) (sym c.if-keeps_once.true)) h
    (c.keeps_once.ensures x k.worked h.once)
    (c.in_ok-answered.ensures.answer (served_after_all plain_mode [] x) k.total)

pub returns-else-keeps_once-clause-keeps : goal.returns-else-keeps_once-clause-keeps
returns-else-keeps_once-clause-keeps c = λ x k h.
    handled-so x c.args.fact.now c.keeps_once.result c.in_ok-answered.answered c.keeps_once.result
    (and-false c.keeps_once.result c.in_ok-answered.answered c.if-keeps_once.false) h
    (c.keeps_once.ensures x k.worked h.once)
    (c.in_ok-answered.ensures.answer (served_after_all plain_mode [] x) k.total)
