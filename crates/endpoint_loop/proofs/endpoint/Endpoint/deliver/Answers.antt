use Rattle.std.proofs.Common.{refl}
use Rattle.node_laws.specs.NodeRun.{delivers}
use Rattle.rpc_laws.specs.Deliveries.{Delivers}
use Rattle.endpoint_loop.proofs.StandingLaw.{delivery-still, goes-on}
use Rattle.endpoint_loop.proofs.endpoint.Endpoint.deliver.Goals as goal

pub returns-clause-call : goal.returns-clause-call
returns-clause-call g c = record {
  makes = rw (← c.self.view_is) c.deliver.ensures.makes;
  leaves = rw (← c.self.view_is) (record { service = refl; workers = refl; jobs = c.deliver.ensures.rest.jobs });
  goes_on = rw (← c.self.view_is) (goes-on g.R.Recorder.log
      g.V.Service g.W.Workers (Delivers c.args.peer c.args.bytes.now) _ _ _ _ c.deliver.ensures.makes
      (λ s x t h. delivers c.args.peer c.args.bytes.now h)
      (delivery-still c.args.peer c.args.bytes.now)
      (record { service = refl; workers = refl; jobs = c.deliver.ensures.rest.jobs }));
  handed = rw (← c.self.view_is) c.deliver.ensures.rest.handed;
}
