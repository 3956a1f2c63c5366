use Rattle.std.proofs.Common.{refl, ap, rules}
use Rattle.node_steps.specs.Pairs.{PairsClient}
use Rattle.node_steps.specs.Handed.{timed_of}
use Rattle.endpoint_loop.proofs.StandingLaw.{client-group, client-still, goes-nowhere, goes-on}
use Rattle.endpoint_loop.proofs.StandingLaw.{paired-or}
use Rattle.endpoint_loop.proofs.endpoint.Endpoint.pair_client.Goals as goal

pub returns : goal.returns
returns g c = record {
  number = rw (← c.self.view_is) c.pair_client.ensures.makes.number;
  makes = rw (← c.self.view_is) c.pair_client.ensures.makes.makes;
  accepted = rw (← c.self.view_is) c.pair_client.ensures.makes.accepted;
  refused = rw (← c.self.view_is) c.pair_client.ensures.makes.refused;
  leaves = rw (← c.self.view_is) (record { service = refl; workers = refl; jobs = c.pair_client.ensures.makes.jobs });
  goes_on = rw (← c.self.view_is) (paired-or _ _ _ _
      (λ makes. goes-on g.R.Recorder.log
      g.V.Service g.W.Workers (PairsClient c.args.peer c.args.server c.args.credits c.args.life) _ _ _ _ makes
      (client-group g.V.Service.mode_of c.args.peer c.args.server c.args.credits c.args.life
      (record { some = c.requires.some; few = c.requires.most }) c.requires.server)
      (client-still c.args.peer c.args.server c.args.credits c.args.life)
      (record { service = refl; workers = refl; jobs = c.pair_client.ensures.makes.jobs }))
      (λ still same. goes-nowhere g.R.Recorder.log
      g.V.Service g.W.Workers _ _ _ _ (ap (λ n. record {
        timed = timed_of n;
        handed = n.handed;
        service = c.self.inside.service;
        workers = c.self.inside.workers;
      }) same) still)
      c.pair_client.result c.pair_client.ensures.makes.makes c.pair_client.ensures.makes.wanting c.pair_client.ensures.makes.unchanged);
  unchanged = search rules;
  wanting = c.pair_client.ensures.makes.wanting;
  handed = rw (← c.self.view_is) c.pair_client.ensures.makes.handed;
  never_memory = rw (← c.self.view_is) c.pair_client.ensures.never_memory;
  cause = c.pair_client.ensures.cause;
}
