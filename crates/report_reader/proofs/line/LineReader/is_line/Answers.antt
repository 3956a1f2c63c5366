use Rattle.std.proofs.Common.{sym, ◌∙◌}
use Rattle.report_reader.proofs.ReportLemmas.{word-other, word-same}
use Rattle.report_reader.proofs.line.LineReader.is_line.Goals as goal

pub returns-clause-yes : goal.returns-clause-yes
returns-clause-yes c = λ same.
    sym c.in_ok-print.ensures.bytes ∙ (sym c.bytes.ensures
    ∙ word-same c.bytes.result.now c.args.line.now (sym c.is_word.ensures ∙ same))

pub returns-clause-no : goal.returns-clause-no
returns-clause-no c = λ differs is.
    word-other c.bytes.result.now c.args.line.now (sym c.is_word.ensures ∙ differs)
    (c.bytes.ensures ∙ (c.in_ok-print.ensures.bytes ∙ is))
