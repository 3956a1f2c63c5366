-- a word is put, and what the page holds is written
use Rattle.std.proofs.lemmas.Result.{err_from_is_err_and}
use Rattle.report_text.proofs.Putting.{puts-flushed, breaks-flushed}
use Rattle.report_text.proofs.pieces.put_last.Goals as goal

pub returns-in_err-flush : goal.returns-in_err-flush
returns-in_err-flush g c =
    let p = err_from_is_err_and c.from_residual-in_err-flush.result c.from_residual-in_err-flush.ensures.1 in
    rw p.1 (breaks-flushed _ _ _ _ _ _ c.in_ok-put_word.ensures c.in_err-flush.ensures.written)

pub returns : goal.returns
returns g c =
    rw c.in_ok-flush.ensures.emptied (puts-flushed _ _ _ _ _ _ c.in_ok-put_word.ensures
    c.in_ok-flush.ensures.written)
