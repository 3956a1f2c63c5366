use Rattle.node_steps.proofs.LeavesSteps.{leaves-none}
use Rattle.node_steps.proofs.SessionSteps.{starts-none, starts-rated}
use Rattle.endpoint_node.proofs.node.Node.start_rate.Goals as goal

pub returns-then-rate-eq0 : goal.returns-then-rate-eq0
returns-then-rate-eq0 g c = record {
  makes = starts-none g.R.Recorder.log c.args.session c.args.rate _ _
      c.if-rate-eq0.true;
  rest = leaves-none _;
}

pub returns : goal.returns
returns g c = record {
  makes = starts-rated g.R.Recorder.log c.args.session c.args.rate _ _ _ _
      c.if-rate-eq0.false c.requires.live c.set_rate-rated.ensures.step.makes;
  rest = c.set_rate-rated.ensures.step.rest;
}
