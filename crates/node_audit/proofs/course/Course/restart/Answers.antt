use Rattle.std.proofs.Common.{sym, ◌∙◌, true≢false}
use Rattle.node_audit.proofs.CourseLemmas.{restart-all, restart-not, restart-open}
use Rattle.node_audit.proofs.course.Course.restart.Goals as goal

pub returns-then-not-is_shut-clause-goes : goal.returns-then-not-is_shut-clause-goes
returns-then-not-is_shut-clause-goes c =
    restart-open c.args.self.now c.args.fact.now c.args.next c.requires
    (λ shut. true≢false (sym (c.is_shut.ensures.1 shut) ∙ c.if-not-is_shut.true))

pub returns-then-not-is_restart-clause-goes : goal.returns-then-not-is_restart-clause-goes
returns-then-not-is_restart-clause-goes c =
    restart-not c.args.self.now c.made-me.result c.args.fact.now c.made-me.ensures
    (c.is_shut.ensures.0 c.if-not-is_shut.false) c.args.next c.requires
    (λ same. true≢false (sym (c.is_restart.ensures.1 same) ∙ c.if-not-is_restart.true))

pub returns-clause-goes : goal.returns-clause-goes
returns-clause-goes c =
    restart-all c.args.self.now c.made-me.result c.args.fact.now c.made-me.ensures
    (c.is_shut.ensures.0 c.if-not-is_shut.false) c.args.next c.requires
    (record { groups = c.in_ok-groups.groups; handled = c.restart.new.self })
    (c.is_restart.ensures.0 c.if-not-is_restart.false) c.in_ok-groups.ensures.new c.restart.ensures
