use Rattle.std.proofs.Common.{[], ◌∷◌, ◌++◌, ℕ, ◌+◌, ap, sym, ◌∙◌, subst}
use Rattle.history_audit.proofs.AuditorLemmas.{longer}
use Rattle.history_audit.specs.OpenPolls.{AreOpen}
use Rattle.history_audit.specs.declared.polls.OpenPolls.{OpenPolls}
use Rattle.history_audit.proofs.auditor.Auditor.note.Goals as goal

pub returns-clause-noted : goal.returns-clause-noted
returns-clause-noted c = λ h told read.
    let f = c.args.fact.now in
    let g = h ++ f ∷ [] in
    let busy = c.in_ok-note.ensures.noted h read.polls in
    let counted = ap (λ (n : ℕ). n + 1) read.counted ∙ sym (longer h f) in
    record {
      polls = subst (λ (p : OpenPolls). AreOpen p.nodes.items g) (sym c.in_ok-find.ensures.polls) busy;
      counted = c.in_ok-find.ensures.facts ∙ counted;
      finds = c.in_ok-find.ensures.finds h told busy counted read.finds;
    }
