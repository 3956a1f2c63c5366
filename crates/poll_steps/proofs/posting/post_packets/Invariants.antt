use Rattle.std.proofs.Common.{◌≡◌, ◌-◌, length}
use Rattle.rpc_laws.specs.Posting.{next_posted}
use Rattle.rpc_laws.specs.Steps.{NotesNext}
use Rattle.node_rules.specs.SingleFacts.{at_clock}
use Rattle.poll_steps.proofs.ChainLemmas.{Leads}
use Rattle.poll_steps.proofs.PostLemmas.{NoNext}
use Rattle.poll_steps.proofs.posting.post_packets.Given as goal

abbrev pub invariant-packets : goal.invariant-packets
invariant-packets l =
    (Leads (NotesNext (next_posted l.i)) (NoNext (next_posted l.i)) (at_clock l.clock l.initial.lists) l.facts l.count
    (at_clock l.clock l.lists))
    × (l.memory ≡ l.initial.memory)

abbrev pub decreases-packets : goal.decreases-packets
decreases-packets l = length l.facts - l.count
