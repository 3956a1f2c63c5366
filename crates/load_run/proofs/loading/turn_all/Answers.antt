use Rattle.std.proofs.Common.{arith}
use Rattle.load_run.proofs.EndLemmas.{some-ends, some-goes, some-more, some-none}
use Rattle.load_run.proofs.TurnLemmas.{unless-once}
use Rattle.run_status.proofs.LackLemmas.{risen-after}
use Rattle.rpc_turns.specs.Moments.{outside, where_at}
use Rattle.run_status.specs.declared.going.Going.TheVariants.{Over}
use Rattle.load_run.proofs.loading.turn_all.Goals as goal

pub turns-init : goal.turns-init
turns-init g c = (
  some-none (outside g.L.Link g.C.Clock.gave g.R.Recorder.log) _ c.requires.left,
  omega arith,
)

pub returns-in-Over-clause-ends : goal.returns-in-Over-clause-ends
returns-in-Over-clause-ends g c =
    some-ends (outside g.L.Link g.C.Clock.gave g.R.Recorder.log) _ _
    (where_at c.turn.new.self c.turn.new.link c.turn.new.clock c.turn.new.rec) c.turns.invariant.0
    c.turn.ensures.goes_on c.in-Over.status c.in-Over.ensures.answers
    (unless-once (outside g.L.Link g.C.Clock.gave g.R.Recorder.log) _ _ _ (Over c.in-Over.status)
    c.in-Over.ensures.loads)
    c.in-Over.ensures.on

pub returns-in-Over-clause-goes_on : goal.returns-in-Over-clause-goes_on
returns-in-Over-clause-goes_on g c =
    some-goes (outside g.L.Link g.C.Clock.gave g.R.Recorder.log) _ _
    (where_at c.turn.new.self c.turn.new.link c.turn.new.clock c.turn.new.rec) c.turns.invariant.0
    c.turn.ensures.goes_on

pub turns-preserved : goal.turns-preserved
turns-preserved g c = (
  some-more (outside g.L.Link g.C.Clock.gave g.R.Recorder.log) _ _
      (where_at c.turn.new.self c.turn.new.link c.turn.new.clock c.turn.new.rec)
      c.turns.invariant.0 c.turn.ensures.goes_on c.turn.result c.in_default.is
      c.turn.ensures.answers
      (unless-once (outside g.L.Link g.C.Clock.gave g.R.Recorder.log) _ _ _ _ c.turn.ensures.loads)
      c.turn.ensures.on,
  let before = c.turns.invariant.1 in let one = c.turn.ensures.cause.no_less in omega (arith, before, one),
)

pub returns-in-Over-clause-cause : goal.returns-in-Over-clause-cause
returns-in-Over-clause-cause g c =
    risen-after _ _ _ _ c.turns.invariant.1 (rw c.in-Over.is at c.turn.ensures.cause)
