use Rattle.std.proofs.Common.{ap, subst}
use Rattle.node_steps.specs.Handed.{Holding}
use Rattle.node_steps.proofs.ControlSteps.{CanAnswer, answer-range, can-answer}
use Rattle.node_control.proofs.control.rows.on_control.Goals as goal

pub act-done-requires : goal.act-done-requires
act-done-requires g c = record {
  row = c.control_row-row.ensures.row c.args.node.now.lists c.found-found.ensures;
  cause = rw c.found-found.ensures at c.control_row-row.ensures.cause;
  in_range = c.requires.in_range;
}

pub returns-clause-step : goal.returns-clause-step
returns-clause-step g c = record {
  makes = rw (c.control_reply.ensures, ap (λ (n : Holding). n.lists.life) c.node.view_is)
      c.act-done.ensures.makes;
  rest = c.act-done.ensures.rest;
}

pub returns-clause-in_range : goal.returns-clause-in_range
returns-clause-in_range g c =
    answer-range g.R.Recorder.log _ _ _ _ _ _ _ c.control_reply.result c.requires.in_range
    (subst (λ (n : Holding). CanAnswer n.lists) c.node.view_is
    (can-answer _ _ _ c.node.invariant.0)) (returns-clause-step g c).makes
