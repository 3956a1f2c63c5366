-- the link waits where the run is asleep, the clock is looked at, and the endpoint makes a turn
use Rattle.endpoint_loop.specs.Polls.{turn_of}
use Rattle.rpc_turns.proofs.TurnLemmas.{counts-turn, turn-tells}
use Rattle.rpc_turns.specs.Moments.{outside}
use Rattle.rpc_turns.proofs.turn.take_turn.Goals as goal

pub returns-clause-takes : goal.returns-clause-takes
returns-clause-takes g c = record {
  ready = c.sleep.new.link;
  rests = c.sleep.ensures;
  now = c.now-now.result;
  ticks = c.now-now.ensures;
  turns = c.turn-turned.ensures.turns;
  counts = counts-turn (turn_of c.turn-turned.result) _ _ _ _ c.quiet.ensures c.count.ensures;
}

pub returns-clause-tells : goal.returns-clause-tells
returns-clause-tells g c =
    turn-tells g.V.Service g.W.Workers (outside g.L.Link g.C.Clock.gave g.R.Recorder.log)
    g.K.Continuation.given (turn_of c.turn-turned.result) _ _ _ _ _
    (record {
      ready = c.sleep.new.link;
      rests = c.sleep.ensures;
      now = c.now-now.result;
      ticks = c.now-now.ensures;
      turns = c.turn-turned.ensures.turns;
      counts = counts-turn (turn_of c.turn-turned.result) _ _ _ _ c.quiet.ensures c.count.ensures;
    })
