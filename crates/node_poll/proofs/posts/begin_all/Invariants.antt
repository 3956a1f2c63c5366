use Rattle.node_steps.specs.Measures.{waiting_at}
use Rattle.node_steps.specs.Notes.{Makes}
use Rattle.rpc_laws.specs.Posting.{next_begun}
use Rattle.rpc_laws.specs.Steps.{Chain, NotesNext}
use Rattle.node_steps.specs.Handed.{timed_of}
use Rattle.node_steps.specs.Leaves.{LeavesServing}
use Rattle.node_poll.proofs.posts.begin_all.Given as goal

abbrev pub invariant-calls : goal.invariant-calls
invariant-calls g l =
    Makes g.R.Recorder.log (Chain (NotesNext (next_begun l.i))) (timed_of l.initial.node)
    (timed_of l.node) l.initial.rec l.rec
    × LeavesServing l.initial.node l.node

abbrev pub decreases-calls : goal.decreases-calls
decreases-calls g l = waiting_at l.i l.node.lists.clients
