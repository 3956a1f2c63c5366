use Rattle.std.proofs.Common.{◌≡◌, ◌≤◌, length}
use Rattle.node_steps.specs.Notes.{MakesSent}
use Rattle.rpc_laws.specs.PollOrder.{SendsSome}
use Rattle.rpc_outside.specs.Linking.{NoneComes}
use Rattle.node_steps.specs.Handed.{timed_of}
use Rattle.node_steps.specs.Leaves.{LeavesServing}
use Rattle.node_poll.proofs.sends.send_ready.Given as goal

abbrev pub invariant-packets : goal.invariant-packets
invariant-packets g l = record {
  sent : MakesSent g.R.Recorder.log g.L.Link.sent SendsSome (timed_of l.initial.node)
      (timed_of l.node) l.initial.rec l.rec l.initial.link l.link;
  busies : g.L.Link.busies l.link ≡ g.L.Link.busies l.initial.link;
  faults : g.L.Link.faults l.link ≡ g.L.Link.faults l.initial.link;
  lists : NoneComes g.L.Link.waiting g.L.Link.received l.initial.link l.link;
  rest : LeavesServing l.initial.node l.node;
  fewer : length l.node.lists.queued ≤ length l.initial.node.lists.queued;
}

abbrev pub decreases-packets : goal.decreases-packets
decreases-packets g l = length l.node.lists.queued
