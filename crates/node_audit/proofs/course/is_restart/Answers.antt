use Rattle.node_audit.proofs.CourseLemmas.{restart-is}
use Rattle.node_audit.proofs.course.is_restart.Goals as goal

pub returns-then-is_plain : goal.returns-then-is_plain
returns-then-is_plain c =
    restart-is c.args.fact.now c.args.me c.in-Restarted.next c.args.life c.follows.result c.in-Restarted.is
    (c.is_plain.ensures.0 c.if-is_plain.true) c.follows.ensures
