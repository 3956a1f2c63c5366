use Rattle.std.proofs.Common.{refl, ap}
use Rattle.message_buffer.specs.Buffer.{bytes_of, capacity_of}
use Rattle.node_laws.specs.NodeRun.{asks}
use Rattle.rpc_laws.specs.Groups.{Asks}
use Rattle.node_steps.specs.Handed.{timed_of}
use Rattle.endpoint_loop.proofs.StandingLaw.{ask-still, asked-or, goes-nowhere, goes-on}
use Rattle.endpoint_loop.proofs.endpoint.Endpoint.ask.Goals as goal

pub returns-clause-goes_on : goal.returns-clause-goes_on
returns-clause-goes_on g c =
    let ask = bytes_of c.args.req in
    let room = capacity_of c.args.resp in
    rw (← c.self.view_is) (asked-or _ _ _ _
    (λ makes. goes-on g.R.Recorder.log
    g.V.Service g.W.Workers (Asks c.args.session c.args.req_type ask room) _ _ _ _ makes
    (λ s x t h. asks c.args.session c.args.req_type ask room h)
    (ask-still c.args.session c.args.req_type ask room)
    (record { service = refl; workers = refl; jobs = c.ask.ensures.jobs }))
    (λ still same. goes-nowhere g.R.Recorder.log
    g.V.Service g.W.Workers _ _ _ _ (ap (λ n. record {
      timed = timed_of n;
      handed = n.handed;
      service = c.self.inside.service;
      workers = c.self.inside.workers;
    }) same) still)
    c.ask.result c.ask.ensures.asks c.ask.ensures.wanting c.ask.ensures.unchanged)
