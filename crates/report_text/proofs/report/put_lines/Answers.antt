-- a line is put after those before it
use Rattle.std.proofs.Common.{sym, arith}
use Rattle.std.proofs.lemmas.Result.{err_from_is_err_and}
use Rattle.report_text.specs.Text.{line_text}
use Rattle.report_text.proofs.Items.{puts-item, breaks-item}
use Rattle.report_text.proofs.report.put_lines.Goals as goal

pub returns-in_err-put_line : goal.returns-in_err-put_line
returns-in_err-put_line g c =
    let p = err_from_is_err_and c.from_residual.result c.from_residual.ensures.1 in
    let fact = c.fact-item in
    rw p.1
    (breaks-item line_text c.args.facts.now c.loop-fact.fact-index fact.result fact.result
    (omega arith) (sym fact.is) _ _ _ _ _ c.loop-fact.invariant c.in_err-put_line.ensures)

pub loop-fact-preserved : goal.loop-fact-preserved
loop-fact-preserved g c =
    let fact = c.fact-item in
    puts-item line_text c.args.facts.now c.loop-fact.fact-index fact.result fact.result
    (omega arith) (sym fact.is) _ _ _ _ _ _ c.loop-fact.invariant c.in_ok-put_line.ensures
