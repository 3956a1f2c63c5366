-- each write moves a front of `rest` to what is done
use Rattle.std.proofs.Common.{◌++◌, take, ◌∙◌}
use Rattle.std.proofs.KnownBytes.{Appends-trans}
use Rattle.rpc_outside.proofs.Moving.{moved-on}
use Rattle.rpc_outside.proofs.writing.write_all.Goals as goal

pub loop-rest-preserved : goal.loop-rest-preserved
loop-rest-preserved g c =
    let (done, whole, bytes, quiet) = c.loop-rest.invariant in
    let n = c.in_ok-count.count in (
      done ++ take n c.loop-rest.rest.now,
      moved-on _ done _ n whole,
      Appends-trans _ _ _ _ _ bytes c.in_ok-count.ensures.bytes,
      c.in_ok-count.ensures.cause
          ∙ quiet,
    )
