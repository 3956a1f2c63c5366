-- turns, one after another, until a call is over
use Rattle.std.proofs.Common.{◌≡◌, refl, sym, arith}
use Rattle.endpoint_loop.proofs.StandingLaw.{goes-nowhere}
use Rattle.rpc_turns.proofs.RunLemmas.{on-then}
use Rattle.rpc_turns.proofs.WaitLemmas.{gathers-as, gathers-none, gathers-then}
use Rattle.rpc_turns.specs.Moments.{outside}
use Rattle.rpc_turns.specs.Whole.{endpoint_in}
use Rattle.rpc_turns.proofs.running.Running.wait_ended.Goals as goal

pub turns-init : goal.turns-init
turns-init g c = (
  goes-nowhere g.R.Recorder.log g.V.Service g.W.Workers _ _ _ _ refl refl,
  gathers-none g.V.Service g.W.Workers (outside g.L.Link g.C.Clock.gave g.R.Recorder.log) _ _ _,
  omega arith,
)

pub turns-preserved : goal.turns-preserved
turns-preserved g c =
    let i = c.turns.invariant in
    let none : c.turns.self.ended.dones.items ≡ c.ended.new.self.ended.dones.items =
    rw c.in_default.is at c.ended.ensures.items in (
      on-then g.R.Recorder.log g.V.Service g.W.Workers _ _ _ _ _ _
          (on-then g.R.Recorder.log g.V.Service g.W.Workers _ _ _ _ _ _ i.0
          (goes-nowhere g.R.Recorder.log g.V.Service g.W.Workers _ _ _ _ c.ended.ensures.endpoint
          c.ended.ensures.rec))
          c.turn.ensures.goes_on,
      gathers-then g.V.Service g.W.Workers (outside g.L.Link g.C.Clock.gave g.R.Recorder.log) _ _ _
          (endpoint_in c.ended.new.self) (endpoint_in c.turn.new.self) _ _
          (gathers-as g.V.Service g.W.Workers (outside g.L.Link g.C.Clock.gave g.R.Recorder.log)
          _ _ _ _ _ _ _ _ _ c.ended.ensures.endpoint c.ended.ensures.rec (sym none)
          c.ended.ensures.whole i.1)
          c.turn.ensures.tells,
      omega (arith, i.2, c.ended.ensures.refused, c.turn.ensures.no_less),
    )

pub returns-in_err-turn-clause-goes_on : goal.returns-in_err-turn-clause-goes_on
returns-in_err-turn-clause-goes_on g c =
    on-then g.R.Recorder.log g.V.Service g.W.Workers _ _ _ _ _ _
    (on-then g.R.Recorder.log g.V.Service g.W.Workers _ _ _ _ _ _ c.turns.invariant.0
    (goes-nowhere g.R.Recorder.log g.V.Service g.W.Workers _ _ _ _ c.ended.ensures.endpoint
    c.ended.ensures.rec))
    c.turn.ensures.goes_on

pub returns-in-Some-clause-gives : goal.returns-in-Some-clause-gives
returns-in-Some-clause-gives g c = record {
  queue = c.turns.self.ended;
  gathers = gathers-as g.V.Service g.W.Workers
      (outside g.L.Link g.C.Clock.gave g.R.Recorder.log) _ _ _ _ _ _ _ _ _
      c.ended.ensures.endpoint c.ended.ensures.rec refl refl c.turns.invariant.1;
  first = c.in-Some.ensures.items;
  whole = c.in-Some.ensures.whole;
}

pub returns-in-Some-ended-clause-gives : goal.returns-in-Some-ended-clause-gives
returns-in-Some-ended-clause-gives g c = record {
  queue = c.turns.self.ended;
  gathers = gathers-as g.V.Service g.W.Workers
      (outside g.L.Link g.C.Clock.gave g.R.Recorder.log) _ _ _ _ _ _ _ _ _
      c.ended-2.ensures.endpoint c.ended-2.ensures.rec refl refl c.turns.invariant.1;
  first = c.in-Some-ended.ensures.items;
  whole = c.in-Some-ended.ensures.whole;
}
