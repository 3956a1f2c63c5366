use Rattle.std.proofs.Common.{sym, ◌∙◌}
use Rattle.report_reader.proofs.ReportLemmas.{end-yes, end-no}
use Rattle.report_reader.proofs.report.is_end.Goals as goal

pub returns-clause-yes : goal.returns-clause-yes
returns-clause-yes c = λ same.
    end-yes _ _ c.args.facts (sym c.starts_with.ensures.value ∙ c.if-not-starts_with.false)
    (c.as_bytes-count.ensures.value ∙ c.format.ensures.text) (sym c.is_word.ensures ∙ same)

pub returns-clause-no : goal.returns-clause-no
returns-clause-no c = λ other.
    end-no _ _ c.args.facts (c.as_bytes-count.ensures.value ∙ c.format.ensures.text)
    (sym c.is_word.ensures ∙ other)
