use Rattle.std.proofs.Common.{◌<◌, ◌^◌, length, rules, subst}
use Rattle.history_audit.proofs.VerdictLemmas.{one-verdict}
use Rattle.history_audit.specs.Audit.{unspelled}
use Rattle.history_audit.specs.declared.verdict.Verdict.TheVariants.{Unlawful}
use Rattle.history_audit.specs.Reading.{HasReport, IsAudited}
use Rattle.history_audit.proofs.report.audit.Goals as goal

pub returns-in-Report-clause-verdict : goal.returns-in-Report-clause-verdict
returns-in-Report-clause-verdict c =
    let has : HasReport c.args.bytes.now c.in-Report.auditor =
    subst (IsAudited c.args.bytes.now) c.in-Report.is c.in_ok-auditor.ensures.audited in
    c.verdict.ensures c.args.bytes.now has.facts has.report has.read

pub returns-in-Report-clause-only : goal.returns-in-Report-clause-only
returns-in-Report-clause-only c = λ v is.
    let few : length c.args.bytes.now < 2 ^ 63 = search rules in
    let has : HasReport c.args.bytes.now c.in-Report.auditor =
    subst (IsAudited c.args.bytes.now) c.in-Report.is c.in_ok-auditor.ensures.audited in
    one-verdict c.args.bytes.now few c.verdict.result v
    (c.verdict.ensures c.args.bytes.now has.facts has.report has.read) is

pub returns-in-Bad-clause-verdict : goal.returns-in-Bad-clause-verdict
returns-in-Bad-clause-verdict c =
    let bad = subst (IsAudited c.args.bytes.now) c.in-Bad.is c.in_ok-auditor.ensures.audited in
    unspelled c.in-Bad.line bad.0

pub returns-in-Bad-clause-only : goal.returns-in-Bad-clause-only
returns-in-Bad-clause-only c = λ v is.
    let few : length c.args.bytes.now < 2 ^ 63 = search rules in
    let bad = subst (IsAudited c.args.bytes.now) c.in-Bad.is c.in_ok-auditor.ensures.audited in
    one-verdict c.args.bytes.now few (Unlawful c.in-Bad.line) v (unspelled c.in-Bad.line bad.0) is
