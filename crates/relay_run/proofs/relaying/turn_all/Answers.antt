-- the turns of a run
use Rattle.std.proofs.Common.{arith, refl}
use Rattle.relay_run.proofs.RelayLemmas.{relays-none, turns-on, turns-over, unless-wanting}
use Rattle.relay_run.specs.Runs.{IsRelaying}
use Rattle.rpc_turns.specs.Moments.{outside}
use Rattle.run_status.proofs.LackLemmas.{risen-after}
use Rattle.run_status.specs.declared.status.Status.TheVariants as statuses
use Rattle.relay_run.proofs.relaying.turn_all.Goals as goal

pub turns-init : goal.turns-init
turns-init g c = (
  relays-none (outside g.L.Link g.C.Clock.gave g.R.Recorder.log) _,
  refl,
  c.requires.left,
  c.requires.works,
  omega arith,
)

pub returns-in-Over-clause-ends : goal.returns-in-Over-clause-ends
returns-in-Over-clause-ends g c =
    turns-over (outside g.L.Link g.C.Clock.gave g.R.Recorder.log) _ _ _ c.turns.invariant.0
    c.turns.invariant.1 c.turns.invariant.2 c.turn.ensures.counted c.in-Over.status
    (rw c.in-Over.is at c.turn.ensures.relays) c.turn.ensures.runs
    (rw c.in-Over.is at c.turn.ensures.answers)

pub returns-in-Over-clause-cause : goal.returns-in-Over-clause-cause
returns-in-Over-clause-cause g c =
    risen-after _ _ _ _ c.turns.invariant.4 (rw c.in-Over.is at c.turn.ensures.cause)

pub turns-preserved : goal.turns-preserved
turns-preserved g c =
    let more = turns-on (outside g.L.Link g.C.Clock.gave g.R.Recorder.log) _ _ _
    c.turns.invariant.0 c.turns.invariant.1 c.turns.invariant.2 c.turn.ensures.counted
    c.turn.result c.in_default.not-Over c.turn.ensures.relays c.turn.ensures.answers in (
      more.0,
      more.1,
      more.2,
      unless-wanting c.turn.result (IsRelaying c.turn.new.self)
          (c.in_default.not-Over statuses.NoMemory) c.turn.ensures.works,
      let before = c.turns.invariant.4 in let one = c.turn.ensures.cause.no_less in omega (arith, before, one),
    )
