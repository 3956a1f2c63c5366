-- a run is over, and its line was written
use Rattle.std.proofs.Common.{arith}
use Rattle.load_run.proofs.LackLemmas.{prints-none}
use Rattle.run_status.proofs.LackLemmas.{risen-after}
use Rattle.load_run.proofs.LoadLemmas.{has-run, loads-printed, loads-stopped}
use Rattle.load_run.proofs.StartLemmas.{notes-run}
use Rattle.rpc_turns.specs.Moments.{edges_of, outside, where_at}
use Rattle.load_run.proofs.loading.load.Goals as goal

pub returns-in_default-clause-loads : goal.returns-in_default-clause-loads
returns-in_default-clause-loads g c =
    let o = outside g.L.Link g.C.Clock.gave g.R.Recorder.log in
    let old = edges_of c.args.link.now c.args.clock.now c.args.rec.now in
    let last = where_at c.turn_all.new.run c.turn_all.new.link c.turn_all.new.clock
    c.turn_all.new.rec in
    loads-printed o c.args.spec.now old last _ _
    (has-run o c.args.spec.now old c.start.new.link c.start.new.rec c.in-Ok.run' last
    c.in-Ok.ensures.starts c.turn_all.result c.in_default.not-NoMemory c.in_default.not-LinkFault
    c.turn_all.ensures.ends)
    c.finish.result c.finish.ensures

pub returns-in-LinkFault-clause-loads : goal.returns-in-LinkFault-clause-loads
returns-in-LinkFault-clause-loads g c =
    let o = outside g.L.Link g.C.Clock.gave g.R.Recorder.log in
    loads-stopped o c.args.spec.now (edges_of c.args.link.now c.args.clock.now c.args.rec.now)
    c.start.new.link c.start.new.rec c.in-Ok.run'
    (where_at c.turn_all.new.run c.turn_all.new.link c.turn_all.new.clock c.turn_all.new.rec)
    c.in-Ok.ensures.starts _ c.turn_all.result c.in-LinkFault.is c.turn_all.ensures.ends
    (notes-run g.R.Recorder.log g.L.Link c.args.spec.now c.args.link.now c.start.new.link
    c.args.rec.now c.start.new.rec c.turn_all.new.rec c.in-Ok.run' c.turn_all.new.run
    c.in-Ok.ensures.starts c.turn_all.ensures.goes_on)

pub returns-in_default-clause-cause : goal.returns-in_default-clause-cause
returns-in_default-clause-cause g c =
    let started = c.in-Ok.ensures.cause in
    let turned = c.turn_all.ensures.cause.no_less in
    prints-none c.turn_all.new.run c.finish.result _ _ _ _ c.finish.ensures
    (omega (arith, started, turned))

pub returns-in-LinkFault-clause-cause : goal.returns-in-LinkFault-clause-cause
returns-in-LinkFault-clause-cause g c =
    risen-after _ _ _ _ c.in-Ok.ensures.cause c.turn_all.ensures.cause
