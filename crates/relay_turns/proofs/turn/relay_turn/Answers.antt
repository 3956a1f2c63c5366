-- a turn of the endpoint, and then the relaying
use Rattle.std.proofs.Common.{None, Some, arith}
use Rattle.memory_count.proofs.Risen.{none-risen-by}
use Rattle.endpoint_loop.specs.Polls.{turn_of}
use Rattle.relay_turns.proofs.KeepLemmas.{works-again}
use Rattle.relay_turns.proofs.TurnLemmas.{mid-handles, runs-turn, turn-relays}
use Rattle.relay_turns.specs.Turning.{relayer}
use Rattle.rpc_turns.specs.Moments.{outside, where_at}
use Rattle.rpc_turns.specs.Queue.{KeepsAll}
use Rattle.relay_turns.proofs.turn.relay_turn.Goals as goal

pub relay_all-requires : goal.relay_all-requires
relay_all-requires g c = record {
  stands = mid-handles g.V.Service g.D.Duty.answer
      (outside g.L.Link g.C.Clock.gave g.R.Recorder.log) (turn_of c.take_turn-turned.result)
      (where_at (relayer c.args.endpoint.now c.args.rest.now c.args.relays.now) c.args.link.now
      c.args.clock.now c.args.rec.now) c.take_turn-turned.new.endpoint c.take_turn-turned.new.rec
      (where_at (relayer c.take_turn-turned.new.endpoint c.take_turn-turned.new.rest
      c.args.relays.now) c.take_turn-turned.new.link c.take_turn-turned.new.clock
      c.take_turn-turned.new.rec) c.new-ended.result c.take_turn-turned.new.k _
      c.take_turn-turned.ensures.takes c.take_turn-turned.ensures.team c.requires.works;
}

pub returns-in-Err-clause-runs : goal.returns-in-Err-clause-runs
returns-in-Err-clause-runs g c =
    let past = c.relay_all.ensures.goes_on in
    runs-turn g.V.Service g.D.Duty.answer (outside g.L.Link g.C.Clock.gave g.R.Recorder.log)
    KeepsAll (where_at c.args.endpoint.now c.args.link.now c.args.clock.now c.args.rec.now)
    c.take_turn-turned.new.endpoint c.relay_all.new.endpoint c.take_turn-turned.new.link
    c.take_turn-turned.new.clock c.take_turn-turned.new.rec c.relay_all.new.rec c.new-ended.result
    c.take_turn-turned.new.k c.take_turn-turned.ensures.takes.now past.noted
    c.take_turn-turned.ensures.tells c.take_turn-turned.ensures.takes.ticks past.grew past.stands

pub returns-in-Ok-turned : goal.returns-in-Ok-turned
returns-in-Ok-turned g c =
    let t = turn-relays g.V.Service g.D.Duty.answer
    (outside g.L.Link g.C.Clock.gave g.R.Recorder.log) (Some c.in-Ok-turned.turn)
    (where_at (relayer c.args.endpoint.now c.args.rest.now c.args.relays.now) c.args.link.now
    c.args.clock.now c.args.rec.now) c.take_turn-turned.new.endpoint c.take_turn-turned.new.rec
    (where_at (relayer c.relay_all.new.endpoint c.take_turn-turned.new.rest c.relay_all.new.relays)
    c.take_turn-turned.new.link c.take_turn-turned.new.clock c.relay_all.new.rec)
    c.new-ended.result c.take_turn-turned.new.k _ c.in-Ok-turned.ensures.takes
    c.take_turn-turned.ensures.team c.requires.works c.new-ended.ensures.none
    c.in-Ok.ensures.whole c.take_turn-turned.ensures.handed c.in-Ok.ensures.relays in
    record {
      relays = t;
      works = works-again g.V.Service g.D.Duty.answer
          (outside g.L.Link g.C.Clock.gave g.R.Recorder.log) (Some c.in-Ok-turned.turn) _ _ t
          c.requires.works;
      runs = t.runs;
      quiet = c.in-Ok-turned.ensures.cause;
      fault = tt;
      cause = omega (arith, c.take_turn-turned.ensures.no_less, c.in-Ok.ensures.cause);
    }

pub returns : goal.returns
returns g c =
    let t = turn-relays g.V.Service g.D.Duty.answer
    (outside g.L.Link g.C.Clock.gave g.R.Recorder.log) None
    (where_at (relayer c.args.endpoint.now c.args.rest.now c.args.relays.now) c.args.link.now
    c.args.clock.now c.args.rec.now) c.take_turn-turned.new.endpoint c.take_turn-turned.new.rec
    (where_at (relayer c.relay_all.new.endpoint c.take_turn-turned.new.rest c.relay_all.new.relays)
    c.take_turn-turned.new.link c.take_turn-turned.new.clock c.relay_all.new.rec)
    c.new-ended.result c.take_turn-turned.new.k _ c.in-Err-turned.ensures.takes
    c.take_turn-turned.ensures.team c.requires.works c.new-ended.ensures.none
    c.in-Ok.ensures.whole c.take_turn-turned.ensures.handed c.in-Ok.ensures.relays in
    record {
      relays = t;
      works = works-again g.V.Service g.D.Duty.answer
          (outside g.L.Link g.C.Clock.gave g.R.Recorder.log) None _ _ t c.requires.works;
      runs = t.runs;
      quiet = tt;
      fault = λ same. c.in-Err-turned.ensures.cause;
      cause = none-risen-by _ _
          (omega (arith, c.take_turn-turned.ensures.no_less, c.in-Ok.ensures.cause));
    }
