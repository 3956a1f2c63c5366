use Rattle.std.proofs.Common.{refl}
use Rattle.node_steps.specs.Handed.{timed_of}
use Rattle.endpoint_node.specs.contracts.node.Node.{the_view}
use Rattle.node_steps.proofs.ControlRemoval.{slot-flushed, slot-idle}
use Rattle.node_control.proofs.control.removal.flush_slot.Goals as goal

pub returns-in_default : goal.returns-in_default
returns-in_default g c = record {
  makes = let known = rw (← c.node.view_is) at c.requires.known in
      rw (← c.node.view_is) (slot-idle g.R.Recorder.log c.args.i c.args.slot
      (timed_of (the_view c.node.inside)) known c.args.rec.now (rw c.in_default.is at c.owner_in_slot.ensures));
  rest = rw (← c.node.view_is) (record {
    clients = refl;
    servers = refl;
    inbox = refl;
    me = refl;
    jobs = refl;
    handed = refl;
  });
}

pub returns : goal.returns
returns g c = record {
  makes = let known = rw (← c.node.view_is) at c.requires.known in
      rw (← c.node.view_is) (slot-flushed g.R.Recorder.log c.args.i c.args.slot
      (timed_of (the_view c.node.inside)) known (timed_of c.flush_replies.new.node) c.args.rec.now c.flush_replies.new.rec
      c.in-Some.owner (rw c.in-Some.is at c.owner_in_slot.ensures)
      (rw (← c.node.view_is) at c.flush_replies.ensures.step.makes));
  rest = c.flush_replies.ensures.step.rest;
}
