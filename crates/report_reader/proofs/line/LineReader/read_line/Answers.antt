use Rattle.std.proofs.Common.{sym, ◌∙◌}
use Rattle.report_reader.proofs.ReadLemmas.{reads-none, reads-other, reads-some}
use Rattle.report_reader.proofs.line.LineReader.read_line.Goals as goal

pub returns-in_default-clause-reads : goal.returns-in_default-clause-reads
returns-in_default-clause-reads c =
    reads-none _ (sym c.in_ok-fact.ensures.value ∙ c.in_default.is)

pub returns-then-branch-clause-reads : goal.returns-then-branch-clause-reads
returns-then-branch-clause-reads c =
    reads-some _ c.in-Some.fact (sym c.in_ok-fact.ensures.value ∙ c.in-Some.is)
    (c.in_ok-is_line.ensures.yes c.if-branch.true)

pub returns-else-branch-clause-reads : goal.returns-else-branch-clause-reads
returns-else-branch-clause-reads c =
    reads-other _ c.in-Some.fact (sym c.in_ok-fact.ensures.value ∙ c.in-Some.is)
    (c.in_ok-is_line.ensures.no c.if-branch.false)
