use Rattle.std.proofs.Common.{◌≡◌, ℕ, false, ◌<◌}
use Rattle.node_steps.specs.Peers.{is_with}
use Rattle.endpoint_node.proofs.node.Node.place_with.Given as goal

abbrev pub invariant-places : goal.invariant-places
invariant-places l = (i : ℕ) → i < l.place → is_with i l.peer l.self.lists ≡ false
