use Rattle.std.proofs.Common.{subst}
use Rattle.node_audit.specs.declared.node.State.{State}
use Rattle.node_audit.specs.Kept.{StandsAt}
use Rattle.node_audit.proofs.CourseLemmas.{runs-broken, runs-goes, runs-unmade}
use Rattle.node_audit.proofs.node.NodeAudit.is_run.Goals as goal

pub returns-in-Broken : goal.returns-in-Broken
returns-in-Broken c = λ n g k shut.
    runs-broken n g (subst (λ (s : State). StandsAt s n g) c.in-Broken.is k.stands)

pub returns-in-Unmade : goal.returns-in-Unmade
returns-in-Unmade c = λ n g k shut.
    runs-unmade n g (subst (λ (s : State). StandsAt s n g) c.in-Unmade.is k.stands)

pub returns-in-Goes : goal.returns-in-Goes
returns-in-Goes c = λ n g k shut.
    runs-goes _ n g (subst (λ (s : State). StandsAt s n g) c.in-Goes.is k.stands) shut
