-- one text, and then the other
use Rattle.std.proofs.lemmas.Result.{err_from_is_err_and}
use Rattle.report_text.specs.Text.{text}
use Rattle.report_text.proofs.Putting.{breaks-further, fills-then}
use Rattle.report_text.proofs.report.put_report.Goals as goal

pub returns-in_err-put_facts : goal.returns-in_err-put_facts
unfolding text
returns-in_err-put_facts g c =
    let p = err_from_is_err_and c.from_residual.result c.from_residual.ensures.1 in
    rw p.1 (breaks-further _ _ _ _ _ c.in_err-put_facts.ensures)

pub returns : goal.returns
unfolding text
returns g c = fills-then _ _ _ _ _ _ _ _ _ c.in_ok-put_facts.ensures c.put_end.ensures
