-- a piece that doesn't fit is written after what the page held
use Rattle.std.proofs.lemmas.Result.{err_from_is_err_and}
use Rattle.rpc_outside.proofs.Printing.{broke-longer}
use Rattle.report_text.proofs.Putting.{fills-past}
use Rattle.report_text.proofs.page.put_past.Goals as goal

pub returns-in_err-flush : goal.returns-in_err-flush
returns-in_err-flush g c =
    let p = err_from_is_err_and c.from_residual.result c.from_residual.ensures.1 in
    rw p.1 (record { broke = broke-longer _ _ _ _ c.in_err-flush.ensures.written })

pub returns : goal.returns
returns g c =
    rw c.in_ok-flush.ensures.emptied (fills-past _ _ _ _ _ _ c.in_ok-flush.ensures.written c.write_all.ensures)
