-- the word, and then its number
use Rattle.std.proofs.lemmas.Result.{err_from_is_err_and}
use Rattle.rpc_outside.proofs.Printing.{broke-longer, prints-then}
use Rattle.count_line.proofs.line.write_count.Goals as goal

pub returns-in_err-write_word : goal.returns-in_err-write_word
returns-in_err-write_word g c =
    let p = err_from_is_err_and c.from_residual.result c.from_residual.ensures.1 in
    rw p.1 (broke-longer _ _ _ _ c.in_err-write_word.ensures)

pub returns : goal.returns
returns g c = prints-then _ _ _ _ _ _ c.in_ok-write_word.ensures c.write_number.ensures
