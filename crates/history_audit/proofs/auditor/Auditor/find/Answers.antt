use Rattle.std.proofs.Common.{[], ◌∷◌, ◌++◌, subst, sym}
use Rattle.history_audit.proofs.AuditorLemmas.{before-next, finds-fair, finds-first}
use Rattle.history_audit.proofs.FairLemmas.{judged-fair, judged-wrong, wrong-on}
use Rattle.history_audit.specs.Auditing.{Finds}
use Rattle.history_audit.specs.declared.auditor.Finding.{Finding}
use Rattle.history_audit.proofs.auditor.Auditor.find.Goals as goal

pub returns-in-None-clause-finds : goal.returns-in-None-clause-finds
returns-in-None-clause-finds c = λ h told busy counted found.
    let f = c.args.fact.now in
    let g = h ++ f ∷ [] in
    let fair = subst (λ (x : Finding). Finds c.args.self.now.tables x h) c.in-Fair.is found in
    subst (λ (x : Finding). Finds c.note.new.self x g) (sym c.in-Fair.is)
    (finds-fair c.note.new.self h f
    (judged-fair c.in_ok-note-in-Fair.field-0 c.note.new.self g c.in-None.is
    (c.in_ok-note-in-Fair.ensures.judged h told fair.0 busy fair.1)) fair.2)

pub returns-in-Some-clause-finds : goal.returns-in-Some-clause-finds
returns-in-Some-clause-finds c = λ h told busy counted found.
    let f = c.args.fact.now in
    let g = h ++ f ∷ [] in
    let fair = subst (λ (x : Finding). Finds c.args.self.now.tables x h) c.in-Fair.is found in
    c.doomed-self.ensures g busy counted
    (judged-wrong c.in_ok-note-in-Fair.field-0 c.note.new.self g c.in-Some.wrong c.in-Some.is
    (c.in_ok-note-in-Fair.ensures.judged h told fair.0 busy fair.1))
    (before-next h f fair.2)

pub returns-in-Doomed-clause-finds : goal.returns-in-Doomed-clause-finds
returns-in-Doomed-clause-finds c = λ h told busy counted found.
    let f = c.args.fact.now in
    let doomed = subst (λ (x : Finding). Finds c.args.self.now.tables x h) c.in-Doomed.is found in
    c.doomed-self-in-Doomed.ensures (h ++ f ∷ []) busy counted (wrong-on c.in-Doomed.wrong h f doomed.0)
    (before-next h f doomed.1)

pub returns-in-Unlawful-clause-finds : goal.returns-in-Unlawful-clause-finds
returns-in-Unlawful-clause-finds c = λ h told busy counted found.
    let t = c.args.self.now.tables in
    let is = subst (λ (x : Finding). Finds t x h) c.in-Unlawful.is found in
    let g = h ++ c.args.fact.now ∷ [] in
    subst (λ (x : Finding). Finds t x g) (sym c.in-Unlawful.is)
    (finds-first t t h c.args.fact.now c.in-Unlawful.line c.in-Unlawful.wrong is)
