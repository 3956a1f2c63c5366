-- by hands, or by another server
use Rattle.rpc_tools.proofs.ServerLemmas.{by-hands, by-relay}
use Rattle.rpc_turns.specs.Moments.{edges_of, outside}
use Rattle.rpc_tools.proofs.serving.serve_as_told.Goals as goal

pub returns-in-None-clause-serves : goal.returns-in-None-clause-serves
returns-in-None-clause-serves g c =
    by-hands c.serve.result (outside g.L.Link g.C.Clock.gave g.R.Recorder.log) c.args.spec.now
    (edges_of c.args.link.now c.args.clock.now c.args.rec.now)
    (edges_of c.serve.new.link c.serve.new.clock c.serve.new.rec) (g.K.Sink.page c.args.sink.now)
    (g.K.Sink.page c.serve.new.sink) c.in-None.ensures c.serve.ensures.serves

pub returns-in-Some-clause-serves : goal.returns-in-Some-clause-serves
returns-in-Some-clause-serves g c =
    by-relay c.relay.result (outside g.L.Link g.C.Clock.gave g.R.Recorder.log) c.args.spec.now
    (edges_of c.args.link.now c.args.clock.now c.args.rec.now)
    (edges_of c.relay.new.link c.relay.new.clock c.relay.new.rec) (g.K.Sink.page c.args.sink.now)
    (g.K.Sink.page c.relay.new.sink) _ c.in-Some.ensures c.relay.ensures.relays
