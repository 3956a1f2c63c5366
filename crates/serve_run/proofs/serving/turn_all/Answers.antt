-- the turns of a run
use Rattle.std.proofs.Common.{refl, ◌∙◌, arith}
use Rattle.rpc_turns.specs.Moments.{outside}
use Rattle.serve_run.proofs.ServingLemmas.{serves-none, turns-on, turns-over}
use Rattle.serve_run.proofs.serving.turn_all.Goals as goal

pub turns-init : goal.turns-init
turns-init g c = (
  serves-none (outside g.L.Link g.C.Clock.gave g.R.Recorder.log) _,
  refl,
  c.requires.left,
  refl,
  omega arith,
)

pub returns-in-Over-clause-ends : goal.returns-in-Over-clause-ends
returns-in-Over-clause-ends g c =
    turns-over (outside g.L.Link g.C.Clock.gave g.R.Recorder.log) _ _ _ _ c.turns.invariant.0
    c.turns.invariant.1 c.turns.invariant.2 c.turn.ensures.serves c.turn.ensures.tells
    c.in-Over.status (rw c.in-Over.is at c.turn.ensures.answers)

pub turns-preserved : goal.turns-preserved
turns-preserved g c =
    let more = turns-on (outside g.L.Link g.C.Clock.gave g.R.Recorder.log) _ _ _ _
    c.turns.invariant.0 c.turns.invariant.1 c.turns.invariant.2 c.turn.ensures.serves
    c.turn.ensures.tells c.turn.result c.in_default.not-Over c.turn.ensures.answers in (
      more.0,
      more.1,
      more.2,
      c.turn.ensures.team ∙ c.turns.invariant.3,
      let before = c.turns.invariant.4 in let one = c.turn.ensures.no_less in omega (arith, before, one),
    )
