-- the counts before this one were written
use Rattle.std.proofs.Common.{take}
use Rattle.rpc_outside.specs.Writing.{Wrote}
use Rattle.count_line.specs.Line.{counts_text}
use Rattle.count_line.proofs.line.write_each.Given as goal

abbrev pub invariant-loop-count : goal.invariant-loop-count
invariant-loop-count g l =
    Wrote (g.K.Sink.page l.initial.sink) (g.K.Sink.page l.sink)
    (counts_text (take l.count-index l.counts))
