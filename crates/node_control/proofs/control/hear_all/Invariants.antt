use Rattle.std.proofs.Common.{◌≡◌, ℕ, ◌+◌, ◌-◌, ◌≤◌, length}
use Rattle.rpc_laws.specs.ControlSteps.{Hears}
use Rattle.rpc_laws.specs.Deliveries.{inbox_room}
use Rattle.rpc_laws.specs.Steps.{Chain}
use Rattle.rpc_outside.specs.Linking.{NoneComes}
use Rattle.rpc_outside.specs.declared.service.Mode.{Mode}
use Rattle.node_steps.specs.Changes.{◌⟶◌}
use Rattle.node_steps.specs.Handed.{timed_of}
use Rattle.node_steps.specs.Control.{Listens}
use Rattle.node_steps.specs.Requests.{AllServed}
use Rattle.node_control.proofs.control.hear_all.Given as goal

abbrev pub invariant-packets : goal.invariant-packets
invariant-packets g l = record {
  listens : Listens g.R.Recorder.log g.L.Link (Chain Hears) l.told
      (timed_of l.initial.node ⟶ timed_of l.node) (l.initial.rec ⟶ l.rec) (l.initial.link ⟶ l.link)
      (l.initial.memory ⟶ l.memory);
  heard : l.told.heard + length l.node.lists.inbox ≡ l.count;
  few : l.count ≤ inbox_room;
  sent : l.told.sent ≤ l.told.heard;
  ring : l.node.lists.ring ≡ l.initial.node.lists.ring;
  served : (mode : ℕ → Mode) → AllServed mode l.initial.node.lists.servers
      → AllServed mode l.node.lists.servers;
  me : l.node.lists.me ≡ l.initial.node.lists.me;
  jobs : l.node.lists.jobs ≡ l.initial.node.lists.jobs;
  handed : l.node.handed ≡ l.initial.node.handed;
  lists : NoneComes g.L.Link.waiting g.L.Link.received l.initial.link l.link;
}

abbrev pub decreases-packets : goal.decreases-packets
decreases-packets g l = l.count - l.told.heard
