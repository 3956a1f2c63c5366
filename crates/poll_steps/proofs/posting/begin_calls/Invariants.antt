use Rattle.std.proofs.Common.{◌≡◌, ◌-◌, length}
use Rattle.rpc_laws.specs.Posting.{next_begun}
use Rattle.rpc_laws.specs.Steps.{NotesNext}
use Rattle.node_rules.specs.SingleFacts.{at_clock}
use Rattle.poll_steps.proofs.ChainLemmas.{Leads}
use Rattle.poll_steps.proofs.PostLemmas.{NoNext}
use Rattle.poll_steps.proofs.posting.begin_calls.Given as goal

abbrev pub invariant-calls : goal.invariant-calls
invariant-calls l =
    (Leads (NotesNext (next_begun l.i)) (NoNext (next_begun l.i)) (at_clock l.clock l.initial.lists) l.facts l.count
    (at_clock l.clock l.lists))
    × (l.memory ≡ l.initial.memory)

abbrev pub decreases-calls : goal.decreases-calls
decreases-calls l = length l.facts - l.count
