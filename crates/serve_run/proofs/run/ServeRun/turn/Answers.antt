-- one turn of the endpoint
use Rattle.std.proofs.Common.{refl}
use Rattle.endpoint_loop.specs.Polls.{turn_of}
use Rattle.rpc_turns.proofs.RunLemmas.{one-made}
use Rattle.rpc_turns.specs.Moments.{outside}
use Rattle.serve_run.proofs.run.ServeRun.turn.Goals as goal

pub returns-clause-serves : goal.returns-clause-serves
returns-clause-serves g c = rw (← c.self.view_is) (record {
  told = turn_of c.take_turn-turned.result;
  from = record {};
  to = c.take_turn-turned.new.k;
  takes = c.take_turn-turned.ensures.takes;
  counted = refl;
})

pub returns-clause-tells : goal.returns-clause-tells
returns-clause-tells g c =
    rw (← c.self.view_is)
    (one-made (outside g.L.Link g.C.Clock.gave g.R.Recorder.log) _ _ _ _ _ _
    c.take_turn-turned.ensures.tells c.take_turn-turned.ensures.takes.ticks)
