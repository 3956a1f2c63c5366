use Rattle.std.proofs.Common.{◌≤◌, ◌-◌}
use Rattle.node_steps.specs.Due.{IsBetween}
use Rattle.endpoint_node.proofs.node.Node.first_in.Given as goal

abbrev pub invariant-halves : goal.invariant-halves
invariant-halves l =
    IsBetween l.span.resting l.span.due l.self.lists × (l.fn.whole.resting ≤ l.span.resting)
    × (l.span.due ≤ l.fn.whole.due)

abbrev pub decreases-halves : goal.decreases-halves
decreases-halves l = l.span.due - l.span.resting
