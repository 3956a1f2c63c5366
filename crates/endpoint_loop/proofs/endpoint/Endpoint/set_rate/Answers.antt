use Rattle.std.proofs.Common.{refl}
use Rattle.node_laws.specs.NodeRun.{sets_rate}
use Rattle.rpc_laws.specs.Groups.{SetsRate}
use Rattle.endpoint_loop.proofs.StandingLaw.{goes-on, rate-still}
use Rattle.endpoint_loop.proofs.endpoint.Endpoint.set_rate.Goals as goal

pub returns-clause-call : goal.returns-clause-call
returns-clause-call g c = record {
  makes = rw (← c.self.view_is) c.set_rate.ensures.step.makes;
  leaves = rw (← c.self.view_is) (record { service = refl; workers = refl; jobs = c.set_rate.ensures.step.rest.jobs });
  goes_on = rw (← c.self.view_is) (goes-on g.R.Recorder.log
      g.V.Service g.W.Workers (SetsRate c.args.session c.args.rate) _ _ _ _ c.set_rate.ensures.step.makes
      (λ s x t h. sets_rate c.args.session c.args.rate h)
      (rate-still c.args.session c.args.rate)
      (record { service = refl; workers = refl; jobs = c.set_rate.ensures.step.rest.jobs }));
  handed = rw (← c.self.view_is) c.set_rate.ensures.step.rest.handed;
}
