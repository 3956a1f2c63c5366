use Rattle.std.proofs.Common.{refl, ap, rules}
use Rattle.node_steps.specs.Pairs.{PairsServer}
use Rattle.node_steps.specs.Handed.{timed_of}
use Rattle.endpoint_loop.proofs.StandingLaw.{server-group, server-still, goes-nowhere, goes-on}
use Rattle.endpoint_loop.proofs.StandingLaw.{paired-or}
use Rattle.endpoint_loop.proofs.endpoint.Endpoint.pair_server.Goals as goal

pub invariant_of-self : goal.invariant_of-self
invariant_of-self g c = record {
  founded = c.self.invariant.founded;
  works = c.self.invariant.works;
  served = c.pair_server.ensures.makes.served g.V.Service.mode_of c.self.invariant.served;
  background = rw (c.pair_server.ensures.makes.jobs) c.self.invariant.background;
}

pub returns : goal.returns
returns g c = record {
  number = rw (← c.self.view_is) c.pair_server.ensures.makes.number;
  makes = rw (← c.self.view_is) c.pair_server.ensures.makes.makes;
  accepted = rw (← c.self.view_is) c.pair_server.ensures.makes.accepted;
  refused = rw (← c.self.view_is) c.pair_server.ensures.makes.refused;
  leaves = rw (← c.self.view_is) (record { service = refl; workers = refl; jobs = c.pair_server.ensures.makes.jobs });
  goes_on = rw (← c.self.view_is) (paired-or _ _ _ _
      (λ makes. goes-on g.R.Recorder.log
      g.V.Service g.W.Workers (PairsServer c.args.peer c.args.client c.args.credits c.args.life) _ _ _ _ makes
      (server-group g.V.Service.mode_of c.args.peer c.args.client c.args.credits c.args.life
      (record { some = c.requires.some; few = c.requires.most }) c.requires.client)
      (server-still c.args.peer c.args.client c.args.credits c.args.life)
      (record { service = refl; workers = refl; jobs = c.pair_server.ensures.makes.jobs }))
      (λ still same. goes-nowhere g.R.Recorder.log
      g.V.Service g.W.Workers _ _ _ _ (ap (λ n. record {
        timed = timed_of n;
        handed = n.handed;
        service = c.self.inside.service;
        workers = c.self.inside.workers;
      }) same) still)
      c.pair_server.result c.pair_server.ensures.makes.makes c.pair_server.ensures.makes.wanting c.pair_server.ensures.makes.unchanged);
  unchanged = search rules;
  wanting = c.pair_server.ensures.makes.wanting;
  handed = rw (← c.self.view_is) c.pair_server.ensures.makes.handed;
  cause = c.pair_server.ensures.cause;
}
