use Rattle.node_audit.proofs.CourseLemmas.{made-first, not-made}
use Rattle.node_audit.proofs.course.Course.begin.Goals as goal

pub returns-in_default-clause-begins : goal.returns-in_default-clause-begins
returns-in_default-clause-begins c = not-made c.args.me c.args.fact.now c.in_default.ensures.none

pub returns-clause-begins : goal.returns-clause-begins
returns-clause-begins c =
    made-first (record { groups = c.in_ok-new.field-0; handled = c.new-2.result }) c.args.me c.in-Some.ring
    c.args.fact.now c.in-Some.ensures.some c.in_ok-new.ensures.new c.new-2.ensures
