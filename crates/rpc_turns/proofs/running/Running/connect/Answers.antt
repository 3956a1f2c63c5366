-- where the link doesn't know the peer, nothing happens
use Rattle.std.proofs.Common.{ap}
use Rattle.endpoint_loop.proofs.StandingLaw.{goes-nowhere}
use Rattle.rpc_turns.specs.Whole.{Whole}
use Rattle.rpc_turns.proofs.running.Running.connect.Goals as goal

pub returns-in_err-peer-clause-goes_on : goal.returns-in_err-peer-clause-goes_on
returns-in_err-peer-clause-goes_on g c =
    goes-nowhere g.R.Recorder.log g.V.Service g.W.Workers _ _ _ _
    (ap (λ (w : Whole g.row.V.Denot g.row.W.Denot g.row.L.Denot g.row.C.Denot g.row.R.Denot).
    w.endpoint) c.self.view_is)
    (ap (λ (w : Whole g.row.V.Denot g.row.W.Denot g.row.L.Denot g.row.C.Denot g.row.R.Denot).
    w.edges.rec) c.self.view_is)
