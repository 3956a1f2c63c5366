-- turns were made so far
use Rattle.std.proofs.Common.{◌≤◌}
use Rattle.rpc_turns.specs.Waits.{Gathers}
use Rattle.rpc_turns.specs.Whole.{Goes}
use Rattle.rpc_turns.proofs.running.Running.wait_ended.Given as goal

abbrev pub invariant-turns : goal.invariant-turns
invariant-turns g l =
    Goes g.V.Service g.W.Workers g.R.Recorder.log l.initial.self l.self
    × Gathers g.R.Recorder.log g.V.Service g.W.Workers l.initial.self.endpoint l.self.endpoint
    l.initial.self.edges.rec l.self.edges.rec l.initial.self.ended l.self.ended
    × (l.initial.self.refused ≤ l.self.refused)
