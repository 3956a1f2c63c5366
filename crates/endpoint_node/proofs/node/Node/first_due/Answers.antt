use Rattle.std.proofs.Common.{Some, ap, subst}
use Rattle.node_steps.specs.Due.{IsFirstDue}
use Rattle.node_steps.proofs.DueLemmas.{rests-before}
use Rattle.endpoint_node.proofs.node.Node.first_due.Goals as goal

pub returns-then-not-is_due : goal.returns-then-not-is_due
returns-then-not-is_due c =
    let rests = rw c.if-not-is_due.true at c.is_due.ensures in
    λ t low. rests-before t c.args.until low c.args.self.now.lists rests

pub returns : goal.returns
returns c =
    subst (λ k. IsFirstDue k c.args.until c.args.self.now.lists (Some c.first_in.result))
    (ap (λ t. t.clock) c.self.view_is) c.first_in.ensures
