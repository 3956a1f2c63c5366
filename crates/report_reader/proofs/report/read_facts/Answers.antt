use Rattle.std.proofs.Common.{◌+◌, ◌≡◌, ℕ, List, [], ◌∷◌, length, ap, arith, length-append}
use Rattle.std.proofs.Common.{rules, subst, sym, ◌∙◌}
use Rattle.std.specs.Prelude.{IfNone, IfSome, Option}
use Rattle.rpc_base.specs.declared.fact.Fact.{Fact}
use Rattle.report_reader.specs.Lines.{BadBelow, Below, IsNoFacts, parts_of}
use Rattle.report_reader.specs.Reading.{IsLineOf}
use Rattle.report_reader.proofs.ReportLemmas.{read-all, read-end, read-more}
use Rattle.report_reader.proofs.report.read_facts.Goals as goal

pub returns-in_default-2-clause-reads : goal.returns-in_default-2-clause-reads
returns-in_default-2-clause-reads c =
    let none : IsNoFacts c.in-Some.line.now =
    subst (λ (o : Option Fact). IfNone o (IsNoFacts c.in-Some.line.now)) c.in_default-2.is c.in_ok-fact.ensures.reads.1 in
    read-end c.args.text.now c.loop-line.facts.items c.loop-line.text.now c.in-Some.line.now
    c.in-Some.after.now c.ended.result c.loop-line.invariant.0 c.in-Some.ensures.line none c.ended.ensures

pub loop-line-preserved : goal.loop-line-preserved
loop-line-preserved c =
    let is : IsLineOf c.in-Some.line.now c.in-Some-2.fact =
    subst (λ (o : Option Fact). IfSome o (IsLineOf c.in-Some.line.now)) c.in-Some-2.is c.in_ok-fact.ensures.reads.0 in
    let more = read-more c.args.text.now c.loop-line.facts.items c.loop-line.text.now c.in-Some.line.now
    c.in-Some.after.now c.in-Some-2.fact c.loop-line.invariant.0 c.in-Some.ensures.line is in
    let grown : length c.push.new.list.items ≡ length c.loop-line.facts.items + 1 =
    ap length c.in_ok-push.ensures.pushed ∙ length-append c.loop-line.facts.items (c.in-Some-2.fact ∷ []) in
    let shorter = c.in-Some.ensures.shorter in
    let within = c.loop-line.invariant.1 in (
      subst (λ (fs : List Fact). Below c.args.text.now fs (parts_of c.in-Some.after.now))
          (sym c.in_ok-push.ensures.pushed) more,
      omega arith,
      search rules,
    )

pub returns-clause-reads : goal.returns-clause-reads
returns-clause-reads c =
    let counted : c.len.result ≡ length c.loop-line.facts.items =
    omega (arith, c.len.ensures, c.loop-line.facts.ok.0) in
    subst (λ (n : ℕ). BadBelow c.args.text.now (n + 2)) (sym counted)
    (read-all c.args.text.now c.loop-line.facts.items c.loop-line.text.now c.loop-line.invariant.0 c.in_default.ensures.none)
