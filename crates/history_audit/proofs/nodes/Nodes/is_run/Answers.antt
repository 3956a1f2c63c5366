use Rattle.std.proofs.Common.{ℕ, ◌≡◌, arith, false, subst, sym, ◌∙◌}
use Rattle.lawful_history.proofs.FrontLemmas.{open-own}
use Rattle.node_audit.specs.Kept.{Keeps}
use Rattle.world_laws.specs.NodeFacts.{facts_of}
use Rattle.history_audit.proofs.nodes.Nodes.is_run.Goals as goal

pub returns : goal.returns
returns c = λ h k shut.
    let same : c.from.result ≡ c.args.node = omega arith in
    let keeps = subst (λ (i : ℕ). Keeps c.at.result.now i (facts_of i h)) same
    (k.each c.from.result c.at.result.now c.at.ensures) in
    c.is_run.ensures c.args.node (facts_of c.args.node h) keeps
    (sym (open-own c.args.node false h) ∙ shut)
