-- the sessions before a place rest
use Rattle.std.proofs.Common.{◌≤◌, ◌-◌}
use Rattle.node_steps.specs.Due.{SessionRests}
use Rattle.node_steps.proofs.DueLemmas.{RestUpTo}
use Rattle.endpoint_node.proofs.node.Node.is_due.Given as goal

abbrev pub invariant-sessions : goal.invariant-sessions
invariant-sessions l =
    RestUpTo (λ i x. SessionRests l.at l.self.lists.timeout i l.self.lists.queued x)
    l.self.lists.clients l.from × (l.from ≤ l.count)

abbrev pub decreases-sessions : goal.decreases-sessions
decreases-sessions l = l.count - l.from
