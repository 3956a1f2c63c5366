use Rattle.node_steps.specs.Measures.{free_at}
use Rattle.node_steps.specs.Notes.{Makes}
use Rattle.rpc_laws.specs.Posting.{next_posted}
use Rattle.rpc_laws.specs.Steps.{Chain, NotesNext}
use Rattle.node_steps.specs.Handed.{timed_of}
use Rattle.node_steps.specs.Leaves.{LeavesServing}
use Rattle.node_poll.proofs.posts.post_all.Given as goal

abbrev pub invariant-packets : goal.invariant-packets
invariant-packets g l =
    Makes g.R.Recorder.log (Chain (NotesNext (next_posted l.i))) (timed_of l.initial.node)
    (timed_of l.node) l.initial.rec l.rec
    × LeavesServing l.initial.node l.node

abbrev pub decreases-packets : goal.decreases-packets
decreases-packets g l = free_at l.i l.node.lists.clients
