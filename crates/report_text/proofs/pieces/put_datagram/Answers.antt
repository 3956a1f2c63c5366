-- one text, and then the other
use Rattle.std.proofs.lemmas.Result.{err_from_is_err_and}
use Rattle.std.specs.Prelude.{codes, decimal}
use Rattle.report_text.proofs.Putting.{breaks-further-two, fills-two}
use Rattle.report_text.proofs.pieces.put_datagram.Goals as goal

pub returns-in_err-put_sent : goal.returns-in_err-put_sent
returns-in_err-put_sent g c =
    let p = err_from_is_err_and c.from_residual.result c.from_residual.ensures.1 in
    rw p.1 (breaks-further-two _ _ _ _ (codes " ") (decimal c.args.number) c.in_err-put_sent.ensures)

pub returns : goal.returns
returns g c = fills-two _ _ _ _ _ _ _ _ (codes " ")
    (decimal c.args.number) c.in_ok-put_sent.ensures c.put_pair.ensures
