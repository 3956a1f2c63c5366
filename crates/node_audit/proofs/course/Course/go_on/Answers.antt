use Rattle.node_audit.proofs.CourseLemmas.{goes-all, not-all}
use Rattle.node_audit.proofs.course.Course.go_on.Goals as goal

pub returns-then-not-branch-clause-goes : goal.returns-then-not-branch-clause-goes
returns-then-not-branch-clause-goes c =
    not-all c.args.self.now c.args.fact.now c.in_ok-keeps.field-0 c.requires c.in_ok-keeps.ensures.keeps
    c.if-not-branch.true

pub returns-clause-goes : goal.returns-clause-goes
returns-clause-goes c =
    goes-all c.note-2.result c.args.self.now
    (record { groups = c.note-2.new.self; handled = c.note.new.self }) c.args.fact.now c.in_ok-keeps.field-0
    c.requires c.in_ok-keeps.ensures.keeps c.if-not-branch.false c.in_ok-note.ensures.noted c.note-2.ensures.goes
