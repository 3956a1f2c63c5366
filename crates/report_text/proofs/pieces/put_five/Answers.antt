-- one text, and then the other
use Rattle.std.proofs.lemmas.Result.{err_from_is_err_and}
use Rattle.std.specs.Prelude.{decimal}
use Rattle.report_text.proofs.Putting.{breaks-further-two, fills-two}
use Rattle.report_text.proofs.pieces.put_five.Goals as goal

pub returns-in_err-put_four : goal.returns-in_err-put_four
returns-in_err-put_four g c =
    let p = err_from_is_err_and c.from_residual.result c.from_residual.ensures.1 in
    rw p.1 (breaks-further-two _ _ _ _ c.args.e.now.0.now (decimal c.args.e.now.1) c.in_err-put_four.ensures)

pub returns : goal.returns
returns g c = fills-two _ _ _ _ _ _ _ _ c.args.e.now.0.now (decimal c.args.e.now.1)
    c.in_ok-put_four.ensures c.put_pair.ensures
