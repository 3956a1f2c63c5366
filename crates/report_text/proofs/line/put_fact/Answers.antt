-- one text, and then the other
use Rattle.std.proofs.lemmas.Result.{err_from_is_err_and}
use Rattle.report_text.proofs.Putting.{breaks-further, fills-then}
use Rattle.report_text.proofs.line.put_fact.Goals as goal

pub returns-in_err-put_head : goal.returns-in_err-put_head
returns-in_err-put_head g c =
    let p = err_from_is_err_and c.from_residual.result c.from_residual.ensures.1 in
    rw p.1 (breaks-further _ _ _ _ _ c.in_err-put_head.ensures)

pub returns : goal.returns
returns g c = fills-then _ _ _ _ _ _ _ _ _ c.in_ok-put_head.ensures c.put_event.ensures
