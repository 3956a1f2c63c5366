-- each part is put after those before it
use Rattle.std.proofs.Common.{◌++◌, take}
use Rattle.std.proofs.lemmas.Result.{err_from_is_err_and}
use Rattle.rpc_outside.proofs.Moving.{moved-on}
use Rattle.report_text.specs.Names.{byte_text}
use Rattle.report_text.proofs.Items.{puts-part, breaks-part}
use Rattle.report_text.proofs.octets.put_digits.Goals as goal

pub returns-in_err-put_part : goal.returns-in_err-put_part
returns-in_err-put_part g c =
    let p = err_from_is_err_and c.from_residual.result c.from_residual.ensures.1 in
    let (done, whole, puts) = c.loop-rest.invariant in
    let n = c.min-count.result in
    rw p.1
    (breaks-part byte_text c.args.bytes.now done (take n c.loop-rest.rest.now) _
    (moved-on _ done _ n whole) _ _ _ _ _ puts c.in_err-put_part.ensures)

pub loop-rest-preserved : goal.loop-rest-preserved
loop-rest-preserved g c =
    let (done, whole, puts) = c.loop-rest.invariant in
    let n = c.min-count.result in (
      done ++ take n c.loop-rest.rest.now,
      moved-on _ done _ n whole,
      puts-part byte_text done _ _ _ _ _ _ _ puts c.in_ok-put_part.ensures,
    )
