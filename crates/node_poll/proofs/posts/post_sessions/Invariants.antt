use Rattle.std.proofs.Common.{◌≤◌, ◌-◌}
use Rattle.node_steps.specs.Notes.{Makes}
use Rattle.rpc_laws.specs.PollOrder.{Serves}
use Rattle.rpc_laws.specs.Steps.{Visits}
use Rattle.node_steps.specs.Handed.{timed_of}
use Rattle.node_steps.specs.Leaves.{LeavesServing}
use Rattle.node_poll.proofs.posts.post_sessions.Given as goal

abbrev pub invariant-sessions : goal.invariant-sessions
invariant-sessions g l =
    Makes g.R.Recorder.log (Visits Serves l.from) (timed_of l.initial.node) (timed_of l.node)
    l.initial.rec l.rec
    × LeavesServing l.initial.node l.node
    × (l.from ≤ l.count)

abbrev pub decreases-sessions : goal.decreases-sessions
decreases-sessions g l = l.count - l.from
