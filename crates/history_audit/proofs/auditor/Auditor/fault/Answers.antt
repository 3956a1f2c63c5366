use Rattle.std.proofs.Common.{subst}
use Rattle.history_audit.proofs.AuditorLemmas.{fault-first, fault-unended}
use Rattle.history_audit.specs.Auditing.{Finds}
use Rattle.history_audit.specs.declared.auditor.Finding.{Finding}
use Rattle.history_audit.proofs.auditor.Auditor.fault.Goals as goal

pub returns-in-Fair : goal.returns-in-Fair
returns-in-Fair c = λ bytes h is read.
    let fair = subst (λ (x : Finding). Finds c.args.self.now.tables x h) c.in-Fair.is read.finds in
    fault-unended bytes h is fair.2

pub returns-in-Doomed : goal.returns-in-Doomed
returns-in-Doomed c = λ bytes h is read.
    let doomed = subst (λ (x : Finding). Finds c.args.self.now.tables x h) c.in-Doomed.is read.finds in
    fault-unended bytes h is doomed.1

pub returns-in-Unlawful : goal.returns-in-Unlawful
returns-in-Unlawful c = λ bytes h is read.
    let t = c.args.self.now.tables in
    fault-first bytes t h _ c.in-Unlawful.wrong is
    (subst (λ (x : Finding). Finds t x h) c.in-Unlawful.is read.finds)
