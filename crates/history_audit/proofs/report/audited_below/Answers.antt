use Rattle.std.proofs.Common.{◌+◌, ℕ, rules, subst, sym}
use Rattle.std.specs.Prelude.{IfNone, IfSome, Option}
use Rattle.report_reader.specs.Lines.{BadBelow, IsNoFacts}
use Rattle.report_reader.specs.Reading.{IsLineOf}
use Rattle.rpc_base.specs.declared.fact.Fact.{Fact}
use Rattle.history_audit.proofs.ReadingLemmas.{audits-all, audits-end, audits-few, audits-more}
use Rattle.history_audit.proofs.ReadingLemmas.{audits-none}
use Rattle.history_audit.proofs.report.audited_below.Goals as goal

pub loop-line-init : goal.loop-line-init
loop-line-init c =
    let none = audits-none c.args.text.now c.in_ok-auditor.auditor c.in_ok-auditor.ensures.none in
    (none, audits-few c.args.text.now c.args.text.now c.in_ok-auditor.auditor none, search rules)

pub returns-in_default-2-clause-audited : goal.returns-in_default-2-clause-audited
returns-in_default-2-clause-audited c =
    let none : IsNoFacts c.in-Some.line.now =
    subst (λ (o : Option Fact). IfNone o (IsNoFacts c.in-Some.line.now)) c.in_default-2.is c.in_ok-fact.ensures.reads.1 in
    audits-end c.args.text.now c.loop-line.text.now c.in-Some.line.now c.in-Some.after.now c.loop-line.auditor
    c.ended.result c.loop-line.invariant.0 c.requires c.in-Some.ensures.line none c.ended.ensures

pub loop-line-preserved : goal.loop-line-preserved
loop-line-preserved c =
    let is : IsLineOf c.in-Some.line.now c.in-Some-2.fact =
    subst (λ (o : Option Fact). IfSome o (IsLineOf c.in-Some.line.now)) c.in-Some-2.is c.in_ok-fact.ensures.reads.0 in
    let more = audits-more c.args.text.now c.loop-line.text.now c.in-Some.line.now c.in-Some.after.now
    c.loop-line.auditor c.note.new.self c.in-Some-2.fact c.loop-line.invariant.0 c.in-Some.ensures.line
    c.in-Some.ensures.shorter is c.in_ok-note.ensures.noted in
    (more, audits-few c.args.text.now c.in-Some.after.now c.note.new.self more, search rules)

pub returns-clause-audited : goal.returns-clause-audited
returns-clause-audited c =
    subst (λ (n : ℕ). BadBelow c.args.text.now (n + 2)) (sym c.facts.ensures)
    (audits-all c.args.text.now c.loop-line.text.now c.loop-line.auditor c.loop-line.invariant.0
    c.in_default.ensures.none)
