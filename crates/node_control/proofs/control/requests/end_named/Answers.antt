use Rattle.node_steps.specs.Handed.{timed_of}
use Rattle.node_steps.proofs.ControlRows.{acts-ended}
use Rattle.node_control.proofs.control.requests.end_named.Goals as goal

pub returns : goal.returns
returns g c = record {
  makes = acts-ended g.R.Recorder.log c.args.rec.now c.end_session.new.rec c.args.peer c.args.head.now
      (timed_of c.args.node.now) (timed_of c.end_session.new.node) c.in-Some.i
      c.in-Some.ensures.found.1 c.end_session.ensures.step.makes;
  rest = c.end_session.ensures.step.rest;
}
