-- turns were made so far
use Rattle.std.proofs.Common.{◌≤◌}
use Rattle.rpc_turns.specs.Whole.{Goes}
use Rattle.rpc_turns.proofs.running.Running.wait_connected.Given as goal

abbrev pub invariant-turns : goal.invariant-turns
invariant-turns g l =
    Goes g.V.Service g.W.Workers g.R.Recorder.log l.initial.self l.self
    × (l.initial.self.refused ≤ l.self.refused)
