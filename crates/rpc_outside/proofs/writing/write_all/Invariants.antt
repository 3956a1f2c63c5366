-- the part that is no more in `rest` was written, with no fault
use Rattle.std.proofs.Common.{◌≡◌, ℕ, List, ◌++◌, length}
use Rattle.std.specs.Io.KnownBytes.{Appends}
use Rattle.rpc_outside.proofs.writing.write_all.Given as goal

abbrev pub invariant-loop-rest : goal.invariant-loop-rest
invariant-loop-rest g l =
    (done : List ℕ) × (l.initial.rest ≡ done ++ l.rest)
    × Appends (g.K.Sink.page l.initial.sink).written (g.K.Sink.page l.sink).written done
    × ((g.K.Sink.page l.sink).faults ≡ (g.K.Sink.page l.initial.sink).faults)

abbrev pub decreases-loop-rest : goal.decreases-loop-rest
decreases-loop-rest g l = length l.rest
