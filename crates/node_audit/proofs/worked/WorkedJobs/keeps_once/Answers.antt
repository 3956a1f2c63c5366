use Rattle.std.proofs.Common.{◌≡◌, ◌++◌, ◌∷◌, [], Bool, true, sym, subst}
use Rattle.std.specs.Prelude.{◌↔◌}
use Rattle.node_audit.proofs.WorkedLemmas.{worked-next}
use Rattle.node_audit.specs.Worked.{WorkedOnce}
use Rattle.node_audit.proofs.worked.WorkedJobs.keeps_once.Goals as goal

pub returns : goal.returns
returns c = λ g a once.
    subst (λ (b : Bool). (b ≡ true) ↔ WorkedOnce (g ++ c.args.fact.now ∷ [])) (sym c.is_new.ensures)
    (worked-next c.args.self.now.jobs.keys g c.args.fact.now a once)
