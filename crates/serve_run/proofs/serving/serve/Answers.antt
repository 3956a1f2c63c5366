-- from the start to the end
use Rattle.std.proofs.Common.{arith}
use Rattle.rpc_turns.specs.Moments.{edges_of, outside, where_at}
use Rattle.serve_run.proofs.LackLemmas.{writes-none}
use Rattle.serve_run.proofs.ServingLemmas.{ends-none, ends-well, stops}
use Rattle.serve_run.proofs.serving.serve.Goals as goal

pub returns-in-Done-clause-serves : goal.returns-in-Done-clause-serves
returns-in-Done-clause-serves g c =
    let done = c.in-Done.ensures.ends in
    ends-well (outside g.L.Link g.C.Clock.gave g.R.Recorder.log) c.args.spec.now
    (edges_of c.args.link.now c.args.clock.now c.args.rec.now) c.start.new.link c.in-Ok.run'
    (where_at c.turn_all.new.run c.turn_all.new.link c.turn_all.new.clock c.turn_all.new.rec)
    c.in-Ok.ensures.starts c.finish.result (g.K.Sink.page c.args.sink.now)
    (g.K.Sink.page c.finish.new.sink) done.0 done.1 done.2 c.finish.ensures.prints

pub returns-in_default-clause-serves : goal.returns-in_default-clause-serves
returns-in_default-clause-serves g c =
    stops (outside g.L.Link g.C.Clock.gave g.R.Recorder.log) c.args.spec.now
    (edges_of c.args.link.now c.args.clock.now c.args.rec.now) c.start.new.link c.in-Ok.run'
    (where_at c.turn_all.new.run c.turn_all.new.link c.turn_all.new.clock c.turn_all.new.rec)
    c.in-Ok.ensures.starts c.turn_all.result (g.K.Sink.page c.args.sink.now)
    c.in_default.not-Done c.turn_all.ensures.ends

pub returns-in-Done-clause-cause : goal.returns-in-Done-clause-cause
returns-in-Done-clause-cause g c =
    let started = c.in-Ok.ensures.cause in
    let turned = c.turn_all.ensures.no_less in
    writes-none c.finish.result _ _ _ _ _ c.finish.ensures.prints (omega (arith, started, turned))

pub returns-in_default-clause-cause : goal.returns-in_default-clause-cause
returns-in_default-clause-cause g c =
    let started = c.in-Ok.ensures.cause in
    let turned = c.turn_all.ensures.no_less in
    ends-none (outside g.L.Link g.C.Clock.gave g.R.Recorder.log) c.turn_all.result _ _ _ _
    c.turn_all.ensures.ends (omega (arith, started, turned))
