-- handing on changes nothing that a link tells
use Rattle.std.proofs.Common.{◌∙◌}
use Rattle.node_steps.proofs.NoteSteps.{none-comes}
use Rattle.node_poll.proofs.sends.send_all.Goals as goal

pub returns : goal.returns
returns g c = record {
  sent = let sent = c.send_ready-sent.ensures.sent in
      record { makes = sent.makes; took = c.flush.ensures.sent ∙ sent.took };
  all = rw c.flush.ensures.busies c.send_ready-sent.ensures.all;
  busy = rw c.flush.ensures.busies c.send_ready-sent.ensures.busy;
  count = c.send_ready-sent.ensures.count;
  few = c.send_ready-sent.ensures.few;
  held = rw (c.flush.ensures.faults, c.flush.ensures.busies) c.send_ready-sent.ensures.held;
  rest = c.send_ready-sent.ensures.rest;
  lists = none-comes g.L.Link.waiting g.L.Link.received _ _ _ c.send_ready-sent.ensures.lists c.flush.ensures.lists;
  cause = rw c.flush.ensures.faults c.send_ready-sent.ensures.cause;
}
