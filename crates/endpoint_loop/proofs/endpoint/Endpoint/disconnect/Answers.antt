use Rattle.std.proofs.Common.{refl}
use Rattle.node_laws.specs.NodeRun.{disconnects}
use Rattle.rpc_laws.specs.Groups.{Disconnects}
use Rattle.endpoint_loop.proofs.StandingSessions.{disconnect-still}
use Rattle.endpoint_loop.proofs.StandingLaw.{goes-on}
use Rattle.endpoint_loop.proofs.endpoint.Endpoint.disconnect.Goals as goal

pub returns-clause-call : goal.returns-clause-call
returns-clause-call g c = record {
  makes = rw (← c.self.view_is) c.disconnect.ensures.step.makes;
  leaves = rw (← c.self.view_is) (record { service = refl; workers = refl; jobs = c.disconnect.ensures.step.rest.jobs });
  goes_on = rw (← c.self.view_is) (goes-on g.R.Recorder.log
      g.V.Service g.W.Workers (Disconnects c.args.session) _ _ _ _ c.disconnect.ensures.step.makes
      (λ s x t h. disconnects c.args.session h)
      (disconnect-still c.args.session)
      (record { service = refl; workers = refl; jobs = c.disconnect.ensures.step.rest.jobs }));
  handed = rw (← c.self.view_is) c.disconnect.ensures.step.rest.handed;
}
