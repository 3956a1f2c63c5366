use Rattle.std.proofs.Common.{refl, subst}
use Rattle.history_audit.specs.Auditing.{IsFault}
use Rattle.history_audit.specs.declared.fault.Fault.{Fault}
use Rattle.history_audit.specs.Reading.{HasReport, IsAudited}
use Rattle.history_audit.proofs.report.fault_of.Goals as goal

pub returns-in-Report-clause-fault : goal.returns-in-Report-clause-fault
returns-in-Report-clause-fault c =
    let has : HasReport c.args.bytes.now c.in-Report.auditor =
    subst (IsAudited c.args.bytes.now) c.in-Report.is c.in_ok-auditor.ensures.audited in
    c.fault.ensures c.args.bytes.now has.facts has.report has.read

pub returns-in-Report-clause-unspelled : goal.returns-in-Report-clause-unspelled
returns-in-Report-clause-unspelled c =
    let has : HasReport c.args.bytes.now c.in-Report.auditor =
    subst (IsAudited c.args.bytes.now) c.in-Report.is c.in_ok-auditor.ensures.audited in
    let is = c.fault.ensures c.args.bytes.now has.facts has.report has.read in (
      λ e. subst (λ (k : Fault). IsFault c.args.bytes.now k) e is,
      λ none. absurd (none has.facts has.report),
    )

pub returns-in-Bad-clause-fault : goal.returns-in-Bad-clause-fault
returns-in-Bad-clause-fault c =
    let bad = subst (IsAudited c.args.bytes.now) c.in-Bad.is c.in_ok-auditor.ensures.audited in
    bad.1

pub returns-in-Bad-clause-unspelled : goal.returns-in-Bad-clause-unspelled
returns-in-Bad-clause-unspelled c =
    let bad = subst (IsAudited c.args.bytes.now) c.in-Bad.is c.in_ok-auditor.ensures.audited in
    (λ is. bad.1, λ none. refl)
