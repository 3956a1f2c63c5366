use Rattle.std.proofs.Common.{◌∙◌, ap}
use Rattle.node_steps.specs.Handed.{timed_of, Holding}
use Rattle.endpoint_node.specs.contracts.node.Node.{the_view}
use Rattle.node_steps.proofs.ControlSteps.{made-me, made-ring}
use Rattle.node_steps.proofs.ControlSteps.{made-served, makes-handled}
use Rattle.node_control.proofs.control.handle_control.Goals as goal

handles : goal.returns-clause-handles
handles g c =
    rw (← c.node.view_is) (makes-handled g.R.Recorder.log
    c.args.packet.now.peer c.args.packet.now.head c.on_control.result _
    (timed_of (the_view c.node.inside)) (timed_of c.end_outdated.new.node)
    (timed_of c.on_control.new.node) c.args.rec.now c.note.new.self c.end_outdated.new.rec
    c.on_control.new.rec c.note.ensures (rw c.drop_front.ensures at c.end_outdated.ensures.makes)
    c.on_control.ensures.step.makes)

pub returns-clause-handles : goal.returns-clause-handles
returns-clause-handles g c = handles g c

pub returns-clause-rest : goal.returns-clause-rest
returns-clause-rest g c = record {
  ring = made-ring g.R.Recorder.log _ _ _ _ _ _ _ _ (handles g c);
  served = made-served g.R.Recorder.log _ _ _ _ _ _ _ _ (handles g c);
  me = made-me g.R.Recorder.log _ _ _ _ _ _ _ _ (handles g c);
  jobs = c.on_control.ensures.step.rest.jobs ∙ c.end_outdated.ensures.rest.jobs
      ∙ ap (λ (n : Holding). n.lists.jobs) c.node.view_is;
  handed = c.on_control.ensures.step.rest.handed ∙ c.end_outdated.ensures.rest.handed
      ∙ ap (λ (n : Holding). n.handed) c.node.view_is;
}
