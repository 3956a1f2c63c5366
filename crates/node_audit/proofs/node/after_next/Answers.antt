use Rattle.std.proofs.Common.{Bool, subst, ◌++◌, ◌∷◌, []}
use Rattle.node_audit.specs.Course.{IsGoing}
use Rattle.node_audit.proofs.node.after_next.Goals as goal

pub returns-else-branch-clause-stands : goal.returns-else-branch-clause-stands
returns-else-branch-clause-stands c = λ n g k.
    subst (λ (b : Bool). IsGoing b c.note.new.self n (g ++ c.args.fact.now ∷ [])) c.if-branch.false
    (c.in_ok-note.ensures.goes n g k)
