-- one turn, counted
use Rattle.std.proofs.Common.{◌+◌, arith, refl}
use Rattle.relay_run.proofs.RelayLemmas.{answers-after, cause-after, has-relayed, left-after}
use Rattle.relay_run.proofs.RelayLemmas.{unless-after}
use Rattle.rpc_turns.specs.Moments.{outside}
use Rattle.relay_run.proofs.run.RelayRun.turn.Goals as goal

pub returns-clause-relays : goal.returns-clause-relays
returns-clause-relays g c = rw (← c.self.view_is)
    (unless-after c.relay_turn-turned.result _ _ _ c.going.ensures
    (has-relayed (outside g.L.Link g.C.Clock.gave g.R.Recorder.log) c.relay_turn-turned.result _ _
    refl c.relay_turn-turned.ensures.relays))

pub returns-clause-runs : goal.returns-clause-runs
returns-clause-runs g c = rw (← c.self.view_is) c.relay_turn-turned.ensures.runs

pub returns-clause-works : goal.returns-clause-works
returns-clause-works g c =
    unless-after c.relay_turn-turned.result _ _ _ c.going.ensures c.relay_turn-turned.ensures.works

pub returns-clause-answers : goal.returns-clause-answers
returns-clause-answers g c =
    answers-after c.relay_turn-turned.result _ _ (record {
      endpoint = c.relay_turn-turned.new.endpoint;
      rest = c.relay_turn-turned.new.rest;
      relays = c.relay_turn-turned.new.relays;
      turns = c.self.inside.turns;
      made = c.self.inside.made + 1;
    }) _ c.going.ensures c.relay_turn-turned.ensures.quiet c.relay_turn-turned.ensures.fault

pub returns-clause-cause : goal.returns-clause-cause
returns-clause-cause g c =
    cause-after c.relay_turn-turned.result _ _ _ _ c.going.ensures c.relay_turn-turned.ensures.cause

pub returns-clause-left : goal.returns-clause-left
returns-clause-left g c =
    let left = rw (← c.self.view_is) at c.requires.left in
    left-after c.relay_turn-turned.result _ _ _ c.going.ensures (omega (arith, left))
