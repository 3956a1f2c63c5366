use Rattle.std.proofs.Common.{subst}
use Rattle.node_audit.specs.declared.node.State.{State}
use Rattle.node_audit.specs.Kept.{StandsAt}
use Rattle.node_audit.proofs.CourseLemmas.{broken-more}
use Rattle.node_audit.proofs.node.after.Goals as goal

pub returns-in-Broken-clause-stands : goal.returns-in-Broken-clause-stands
returns-in-Broken-clause-stands c = λ g h.
    broken-more c.args.node g c.args.fact.now
    (subst (λ (s : State). StandsAt s c.args.node g) c.in-Broken.is h)
