-- the digits of the bytes that are no more in `rest` were put
use Rattle.std.proofs.Common.{◌≡◌, ℕ, List, ◌++◌, length}
use Rattle.std.specs.Prelude.{flat_map}
use Rattle.report_text.specs.Page.{Puts}
use Rattle.report_text.specs.Names.{byte_text}
use Rattle.report_text.proofs.octets.put_digits.Given as goal

abbrev pub invariant-loop-rest : goal.invariant-loop-rest
invariant-loop-rest g l =
    (done : List ℕ) × (l.initial.rest ≡ done ++ l.rest)
    × Puts l.initial.page l.page (g.K.Sink.page l.initial.sink) (g.K.Sink.page l.sink)
    (flat_map byte_text done)

abbrev pub decreases-loop-rest : goal.decreases-loop-rest
decreases-loop-rest g l = length l.rest
