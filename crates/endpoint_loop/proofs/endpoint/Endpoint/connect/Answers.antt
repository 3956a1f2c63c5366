use Rattle.std.proofs.Common.{refl, ap, rules}
use Rattle.node_laws.specs.NodeRun.{connects}
use Rattle.rpc_laws.specs.Groups.{Connects}
use Rattle.node_steps.specs.Handed.{timed_of}
use Rattle.endpoint_loop.proofs.StandingSessions.{connect-still}
use Rattle.endpoint_loop.proofs.StandingLaw.{goes-nowhere, goes-on, paired-or}
use Rattle.endpoint_loop.proofs.endpoint.Endpoint.connect.Goals as goal

pub returns : goal.returns
returns g c = record {
  number = rw (← c.self.view_is) c.connect.ensures.makes.number;
  makes = rw (← c.self.view_is) c.connect.ensures.makes.makes;
  accepted = rw (← c.self.view_is) c.connect.ensures.makes.accepted;
  refused = rw (← c.self.view_is) c.connect.ensures.makes.refused;
  leaves = rw (← c.self.view_is) (record { service = refl; workers = refl; jobs = c.connect.ensures.makes.jobs });
  goes_on = rw (← c.self.view_is) (paired-or _ _ _ _
      (λ makes. goes-on g.R.Recorder.log
      g.V.Service g.W.Workers (Connects c.args.peer c.args.credits c.args.rate) _ _ _ _ makes
      (λ s x t h. connects c.args.peer c.args.credits c.args.rate
      (record { some = c.requires.some; few = c.requires.most }) h)
      (connect-still c.args.peer c.args.credits c.args.rate)
      (record { service = refl; workers = refl; jobs = c.connect.ensures.makes.jobs }))
      (λ still same. goes-nowhere g.R.Recorder.log
      g.V.Service g.W.Workers _ _ _ _ (ap (λ n. record {
        timed = timed_of n;
        handed = n.handed;
        service = c.self.inside.service;
        workers = c.self.inside.workers;
      }) same) still)
      c.connect.result c.connect.ensures.makes.makes c.connect.ensures.makes.wanting c.connect.ensures.makes.unchanged);
  unchanged = search rules;
  wanting = c.connect.ensures.makes.wanting;
  handed = rw (← c.self.view_is) c.connect.ensures.makes.handed;
  never_memory = rw (← c.self.view_is) c.connect.ensures.never_memory;
  cause = c.connect.ensures.cause;
}
