-- a session is opened, and then turns are made
use Rattle.rpc_turns.proofs.RunLemmas.{on-then}
use Rattle.rpc_turns.proofs.running.Running.connect_within.Goals as goal

pub returns-in_err-wait_connected-clause-goes_on : goal.returns-in_err-wait_connected-clause-goes_on
returns-in_err-wait_connected-clause-goes_on g c =
    on-then g.R.Recorder.log g.V.Service g.W.Workers _ _ _ _ _ _ c.connect.ensures.goes_on
    c.wait_connected.ensures.goes_on

pub returns-clause-goes_on : goal.returns-clause-goes_on
returns-clause-goes_on g c =
    on-then g.R.Recorder.log g.V.Service g.W.Workers _ _ _ _ _ _ c.connect.ensures.goes_on
    c.wait_connected.ensures.goes_on
