-- the calls up to a number rest
use Rattle.std.proofs.Common.{length}
use Rattle.std.specs.Prelude.{filter, slice_get}
use Rattle.session_store.specs.Changes.{calls_in}
use Rattle.session_store.specs.Ends.{is_above}
use Rattle.node_steps.specs.Due.{CallRests}
use Rattle.node_steps.proofs.DueLemmas.{KnownUpTo}
use Rattle.endpoint_node.proofs.node.Node.is_call_due.Given as goal

abbrev pub invariant-calls : goal.invariant-calls
invariant-calls l =
    KnownUpTo (CallRests l.at l.self.lists.timeout l.i l.self.lists.queued) l.after
    (calls_in (slice_get l.self.lists.clients l.i))

abbrev pub decreases-calls : goal.decreases-calls
decreases-calls l =
    length (filter (is_above l.after) (calls_in (slice_get l.self.lists.clients l.i)))
