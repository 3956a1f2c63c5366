-- turns, one after another, until a session is connected
use Rattle.std.proofs.Common.{refl, arith}
use Rattle.endpoint_loop.proofs.StandingLaw.{goes-nowhere}
use Rattle.rpc_turns.proofs.RunLemmas.{on-then}
use Rattle.rpc_turns.proofs.running.Running.wait_connected.Goals as goal

pub turns-init : goal.turns-init
turns-init g c = (
  goes-nowhere g.R.Recorder.log g.V.Service g.W.Workers _ _ _ _ refl refl,
  omega arith,
)

pub turns-preserved : goal.turns-preserved
turns-preserved g c = (
  on-then g.R.Recorder.log g.V.Service g.W.Workers _ _ _ _ _ _ c.turns.invariant.0
      c.turn.ensures.goes_on,
  omega (arith, c.turns.invariant.1, c.turn.ensures.no_less),
)

pub returns-in_err-turn-clause-goes_on : goal.returns-in_err-turn-clause-goes_on
returns-in_err-turn-clause-goes_on g c =
    on-then g.R.Recorder.log g.V.Service g.W.Workers _ _ _ _ _ _ c.turns.invariant.0
    c.turn.ensures.goes_on
