-- one text, and then the other
use Rattle.std.proofs.lemmas.Result.{err_from_is_err_and}
use Rattle.std.specs.Prelude.{codes}
use Rattle.report_text.specs.Names.{bytes_text}
use Rattle.report_text.proofs.Putting.{breaks-further-two, fills-two}
use Rattle.report_text.proofs.line.put_shape_bytes.Goals as goal

pub returns-in_err-put_shape : goal.returns-in_err-put_shape
returns-in_err-put_shape g c =
    let p = err_from_is_err_and c.from_residual.result c.from_residual.ensures.1 in
    rw p.1 (breaks-further-two _ _ _ _ (codes " ") (bytes_text c.args.bytes.now) c.in_err-put_shape.ensures)

pub returns : goal.returns
returns g c = fills-two _ _ _ _ _ _ _ _ (codes " ")
    (bytes_text c.args.bytes.now) c.in_ok-put_shape.ensures c.put_more_bytes.ensures
