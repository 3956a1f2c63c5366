-- one text, and then the other
use Rattle.std.proofs.lemmas.Result.{err_from_is_err_and}
use Rattle.report_text.proofs.Putting.{breaks-further, fills-then}
use Rattle.report_text.proofs.pieces.put_reason.Goals as goal

pub returns-in_err-put_word : goal.returns-in_err-put_word
returns-in_err-put_word g c =
    let p = err_from_is_err_and c.from_residual.result c.from_residual.ensures.1 in
    rw p.1 (breaks-further _ _ _ _ _ c.in_err-put_word.ensures)

pub returns : goal.returns
returns g c = fills-then _ _ _ _ _ _ _ _ _ c.in_ok-put_word.ensures
    (rw c.reason_word.ensures at c.put_word-2.ensures)
