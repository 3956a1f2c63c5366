-- calls were asked so far, and each turn of the loop asks one more
use Rattle.std.proofs.Common.{◌≤◌}
use Rattle.load_run.specs.Loading.{unasked}
use Rattle.load_run.proofs.AskLemmas.{AsksSome}
use Rattle.load_run.proofs.run.LoadRun.ask_many.Given as goal

abbrev pub invariant-calls : goal.invariant-calls
invariant-calls g l =
    AsksSome g.R.Recorder.log l.initial.self l.self l.initial.rec l.rec
    × (l.initial.memory ≤ l.memory)

abbrev pub decreases-calls : goal.decreases-calls
decreases-calls g l = unasked l.self
