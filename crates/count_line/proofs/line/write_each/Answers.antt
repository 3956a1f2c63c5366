-- a count is written after those before it
use Rattle.std.proofs.Common.{arith}
use Rattle.std.proofs.lemmas.Result.{err_from_is_err_and}
use Rattle.count_line.specs.Line.{count_text}
use Rattle.count_line.proofs.LineLemmas.{broke-item, wrote-item}
use Rattle.count_line.proofs.line.write_each.Goals as goal

pub returns-in_err-write_count : goal.returns-in_err-write_count
returns-in_err-write_count g c =
    let p = err_from_is_err_and c.from_residual.result c.from_residual.ensures.1 in
    rw p.1
    (broke-item count_text c.args.counts.now c.loop-count.count-index _ (omega arith) _ _ _
    c.loop-count.invariant c.in_err-write_count.ensures)

pub loop-count-preserved : goal.loop-count-preserved
loop-count-preserved g c =
    wrote-item count_text c.args.counts.now c.loop-count.count-index _ (omega arith) _ _ _
    c.loop-count.invariant c.in_ok-write_count.ensures
