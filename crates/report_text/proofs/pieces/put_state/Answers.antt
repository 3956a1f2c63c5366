-- one text, and then the other
use Rattle.std.proofs.lemmas.Result.{err_from_is_err_and}
use Rattle.report_text.proofs.Putting.{breaks-further, fills-then}
use Rattle.report_text.proofs.pieces.put_state.Goals as goal

pub returns-in_err-put_ending : goal.returns-in_err-put_ending
returns-in_err-put_ending g c =
    let p = err_from_is_err_and c.from_residual.result c.from_residual.ensures.1 in
    rw p.1 (breaks-further _ _ _ _ _ c.in_err-put_ending.ensures)

pub returns : goal.returns
returns g c = fills-then _ _ _ _ _ _ _ _ _ c.in_ok-put_ending.ensures
    (rw c.state_word.ensures at c.put_word.ensures)
