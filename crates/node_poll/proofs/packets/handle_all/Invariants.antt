use Rattle.std.proofs.Common.{◌≤◌, length}
use Rattle.rpc_laws.specs.PollOrder.{Handles}
use Rattle.rpc_laws.specs.Steps.{Chain}
use Rattle.node_steps.specs.Changes.{◌⟶◌}
use Rattle.node_steps.specs.Fronts.{LeavesHandled}
use Rattle.node_steps.specs.Handed.{timed_of}
use Rattle.node_steps.specs.Jobs.{staff_change}
use Rattle.node_steps.specs.Packets.{MakesAllHandled}
use Rattle.node_steps.specs.Requests.{service_change}
use Rattle.node_poll.proofs.packets.handle_all.Given as goal

abbrev pub invariant-packets : goal.invariant-packets
invariant-packets g l = record {
  handles : MakesAllHandled g.R.Recorder.log g.K.Continuation.given
      (service_change g.V.Service (l.initial.service ⟶ l.service))
      (staff_change g.W.Workers (l.initial.workers ⟶ l.workers))
      (Chain (Handles g.V.Service.mode_of)) (timed_of l.initial.node ⟶ timed_of l.node)
      (l.initial.rec ⟶ l.rec) (l.initial.k ⟶ l.k) (l.initial.memory ⟶ l.memory);
  rest : LeavesHandled g.V.Service g.W.Workers g.K.Continuation.given
      (l.initial.node ⟶ l.node) (l.initial.service ⟶ l.service)
      (l.initial.workers ⟶ l.workers) (l.initial.k ⟶ l.k);
  fewer : length l.node.lists.ring ≤ length l.initial.node.lists.ring;
}

abbrev pub decreases-packets : goal.decreases-packets
decreases-packets g l = length l.node.lists.ring
