-- a fault came while what the page held was written
use Rattle.std.proofs.lemmas.Result.{err_from_is_err_and}
use Rattle.rpc_outside.proofs.Printing.{broke-longer}
use Rattle.report_text.proofs.page.put_part_past.Goals as goal

pub returns-in_err-flush : goal.returns-in_err-flush
returns-in_err-flush g c =
    let p = err_from_is_err_and c.from_residual.result c.from_residual.ensures.1 in
    rw p.1 (record { broke = broke-longer _ _ _ _ c.in_err-flush.ensures.written })
