use Rattle.std.proofs.Common.{length}
use Rattle.node_steps.specs.Notes.{MakesEnds}
use Rattle.node_steps.specs.Timers.{calls_at}
use Rattle.node_steps.proofs.TimerCalls.{Known, Walked, still}
use Rattle.node_steps.specs.Handed.{timed_of}
use Rattle.node_steps.specs.Leaves.{LeavesTimed}
use Rattle.node_control.proofs.timers.watch_calls.Given as goal

abbrev pub invariant-calls : goal.invariant-calls
invariant-calls g l =
    MakesEnds g.R.Recorder.log g.K.Continuation.given
    (Walked l.timeout l.i l.after) (timed_of l.initial.node) (timed_of l.node) l.initial.rec l.rec l.initial.k l.k
    × Known l.i (timed_of l.initial.node) (timed_of l.node)
    × LeavesTimed g.K.Continuation.given l.initial.node l.node l.initial.k l.k

abbrev pub decreases-calls : goal.decreases-calls
decreases-calls g l = length (still l.after (calls_at l.i (timed_of l.initial.node)))
