use Rattle.std.proofs.Common.{subst}
use Rattle.history_audit.proofs.AuditorLemmas.{verdict-first, verdict-unended}
use Rattle.history_audit.specs.Auditing.{Finds}
use Rattle.history_audit.specs.declared.auditor.Finding.{Finding}
use Rattle.history_audit.proofs.auditor.Auditor.verdict.Goals as goal

pub returns-in-Fair : goal.returns-in-Fair
returns-in-Fair c = λ bytes h is read.
    let fair = subst (λ (x : Finding). Finds c.args.self.now.tables x h) c.in-Fair.is read.finds in
    c.ended.ensures bytes h is read.polls read.counted fair.1 fair.2

pub returns-in-Doomed : goal.returns-in-Doomed
returns-in-Doomed c = λ bytes h is read.
    let doomed = subst (λ (x : Finding). Finds c.args.self.now.tables x h) c.in-Doomed.is read.finds in
    verdict-unended bytes h _ is read.counted doomed.1 doomed.2

pub returns-in-Unlawful : goal.returns-in-Unlawful
returns-in-Unlawful c = λ bytes h is read.
    let t = c.args.self.now.tables in
    verdict-first bytes t h c.in-Unlawful.line _ is
    (subst (λ (x : Finding). Finds t x h) c.in-Unlawful.is read.finds)
