use Rattle.std.proofs.Common.{◌≡◌, length}
use Rattle.std.specs.Prelude.{filter}
use Rattle.session_store.specs.Ends.{is_above}
use Rattle.node_steps.specs.Notes.{Makes}
use Rattle.node_steps.specs.Timers.{calls_at}
use Rattle.node_steps.proofs.TimerFlushes.{FlushesFrom}
use Rattle.node_steps.specs.Handed.{timed_of}
use Rattle.node_steps.specs.Leaves.{LeavesServing}
use Rattle.node_control.proofs.timers.rollbacks.flush_session.Given as goal

abbrev pub invariant-calls : goal.invariant-calls
invariant-calls g l =
    Makes g.R.Recorder.log (FlushesFrom l.i l.after) (timed_of l.initial.node) (timed_of l.node)
    l.initial.rec l.rec
    × (l.node.lists.clients ≡ l.initial.node.lists.clients)
    × LeavesServing l.initial.node l.node

abbrev pub decreases-calls : goal.decreases-calls
decreases-calls g l = length (filter (is_above l.after) (calls_at l.i (timed_of l.initial.node)))
