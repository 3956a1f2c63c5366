-- a turn is prepared and made
use Rattle.std.proofs.Common.{arith, subst}
use Rattle.endpoint_loop.specs.Polls.{turn_of}
use Rattle.node_steps.specs.Changes.{◌⟶◌}
use Rattle.load_run.proofs.LackLemmas.{lacks-none}
use Rattle.load_run.specs.Loading.{LoadsSoFar}
use Rattle.load_run.proofs.TurnLemmas.{counted-or, has-loaded, loads-turn, unless-failed}
use Rattle.load_run.proofs.TurnLemmas.{unless-wanting}
use Rattle.memory_count.proofs.Risen.{none-risen-by, one-risen}
use Rattle.rpc_turns.proofs.RunLemmas.{goes-then}
use Rattle.rpc_turns.specs.Moments.{edges_of, outside, where_at}
use Rattle.rpc_turns.specs.Plain.{GoesOnBy}
use Rattle.run_status.proofs.LackLemmas.{reason-no-less, risen-after}
use Rattle.load_run.proofs.run.LoadRun.turn.Goals as goal

pub returns-in-Err-default-clause-loads : goal.returns-in-Err-default-clause-loads
returns-in-Err-default-clause-loads g c =
    has-loaded (outside g.L.Link g.C.Clock.gave g.R.Recorder.log)
    (where_at c.args.self.now c.args.link.now c.args.clock.now c.args.rec.now)
    c.prepare.new.self _ c.prepare.new.rec
    (edges_of c.take_turn-turned.new.link c.take_turn-turned.new.clock c.take_turn-turned.new.rec)
    c.take_turn-turned.new.endpoint c.take_turn-turned.new.rest c.count.new.self
    c.new-ended.result c.take_turn-turned.new.k c.self.view_is c.in-Ok.ensures.keeps
    c.new-ended.ensures.none (turn_of c.take_turn-turned.result)
    (c.args.memory.now ⟶ c.count.new.memory)
    (c.prepare.new.memory ⟶ c.take_turn-turned.new.memory) c.in-Ok.ensures.cause
    (reason-no-less c.count.result _ _ c.count.ensures.cause) c.in-Ok.ensures.prepares
    c.take_turn-turned.ensures.takes
    (counted-or c.count.result _ _ c.count.ensures.counts c.count.ensures.lost)

pub returns-in-Err-default-clause-goes_on : goal.returns-in-Err-default-clause-goes_on
returns-in-Err-default-clause-goes_on g c =
    goes-then g.R.Recorder.log _ _ _ _ _ _ c.in-Ok.ensures.goes_on
    (subst (λ (s : LoadsSoFar). GoesOnBy g.R.Recorder.log s.endpoint
    c.take_turn-turned.new.endpoint c.prepare.new.rec c.take_turn-turned.new.rec) c.self.view_is
    c.take_turn-turned.ensures.tells.goes)

pub returns-in-Ok-Err-clause-goes_on : goal.returns-in-Ok-Err-clause-goes_on
returns-in-Ok-Err-clause-goes_on g c =
    goes-then g.R.Recorder.log _ _ _ _ _ _ c.in-Ok.ensures.goes_on
    (subst (λ (s : LoadsSoFar). GoesOnBy g.R.Recorder.log s.endpoint
    c.take_turn-turned.new.endpoint c.prepare.new.rec c.take_turn-turned.new.rec) c.self.view_is
    c.take_turn-turned.ensures.tells.goes)

pub returns-in-Ok-Ok-clause-loads : goal.returns-in-Ok-Ok-clause-loads
returns-in-Ok-Ok-clause-loads g c =
    unless-wanting c.going.result _
    (has-loaded (outside g.L.Link g.C.Clock.gave g.R.Recorder.log)
    (where_at c.args.self.now c.args.link.now c.args.clock.now c.args.rec.now)
    c.prepare.new.self _ c.prepare.new.rec
    (edges_of c.take_turn-turned.new.link c.take_turn-turned.new.clock c.take_turn-turned.new.rec)
    c.take_turn-turned.new.endpoint c.take_turn-turned.new.rest c.count.new.self
    c.new-ended.result c.take_turn-turned.new.k c.self.view_is c.in-Ok.ensures.keeps
    c.new-ended.ensures.none (turn_of c.take_turn-turned.result)
    (c.args.memory.now ⟶ c.count.new.memory)
    (c.prepare.new.memory ⟶ c.take_turn-turned.new.memory) c.in-Ok.ensures.cause
    c.in-Ok-Ok.ensures.cause c.in-Ok.ensures.prepares c.take_turn-turned.ensures.takes
    (λ kept. c.in-Ok-Ok.ensures.counts))

pub returns-in-Ok-Ok-clause-on : goal.returns-in-Ok-Ok-clause-on
returns-in-Ok-Ok-clause-on g c =
    unless-failed c.going.result _
    (loads-turn (outside g.L.Link g.C.Clock.gave g.R.Recorder.log)
    (where_at c.args.self.now c.args.link.now c.args.clock.now c.args.rec.now)
    c.prepare.new.self _ c.prepare.new.rec
    (edges_of c.take_turn-turned.new.link c.take_turn-turned.new.clock c.take_turn-turned.new.rec)
    c.take_turn-turned.new.endpoint c.take_turn-turned.new.rest c.count.new.self
    c.new-ended.result c.take_turn-turned.new.k
    c.self.view_is c.in-Ok.ensures.keeps c.new-ended.ensures.none
    c.take_turn-turned.ensures.takes.now c.in-Ok.ensures.passes c.take_turn-turned.ensures.tells
    c.take_turn-turned.ensures.takes.ticks c.in-Ok-Ok.ensures.whole c.in-Ok-Ok.ensures.counts)

pub returns-in-Ok-Ok-clause-goes_on : goal.returns-in-Ok-Ok-clause-goes_on
returns-in-Ok-Ok-clause-goes_on g c =
    goes-then g.R.Recorder.log _ _ _ _ _ _ c.in-Ok.ensures.goes_on
    (subst (λ (s : LoadsSoFar). GoesOnBy g.R.Recorder.log s.endpoint
    c.take_turn-turned.new.endpoint c.prepare.new.rec c.take_turn-turned.new.rec) c.self.view_is
    c.take_turn-turned.ensures.tells.goes)

pub returns-in-Err-default-clause-cause : goal.returns-in-Err-default-clause-cause
returns-in-Err-default-clause-cause g c =
    let prepared = c.in-Ok.ensures.cause in
    let turned = c.take_turn-turned.ensures.no_less in
    let counted = reason-no-less c.count.result _ _ c.count.ensures.cause in
    none-risen-by _ _ (omega (arith, prepared, turned, counted))

pub returns-in-Ok-Err-clause-cause : goal.returns-in-Ok-Err-clause-cause
returns-in-Ok-Err-clause-cause g c =
    let prepared = c.in-Ok.ensures.cause in
    let turned = c.take_turn-turned.ensures.no_less in
    risen-after 1 _ _ _ (omega (arith, prepared, turned)) (one-risen _ _ c.in-Ok-Err.ensures.cause)

pub returns-in-Ok-Ok-clause-cause : goal.returns-in-Ok-Ok-clause-cause
returns-in-Ok-Ok-clause-cause g c =
    let prepared = c.in-Ok.ensures.cause in
    let turned = c.take_turn-turned.ensures.no_less in
    let counted = c.in-Ok-Ok.ensures.cause in
    lacks-none c.going.result _ _ c.going.ensures.wants_none (omega (arith, prepared, turned, counted))
