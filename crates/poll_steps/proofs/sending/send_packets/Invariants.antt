use Rattle.std.proofs.Common.{◌≡◌, ◌-◌, length}
use Rattle.rpc_laws.specs.PollOrder.{Sends}
use Rattle.node_rules.specs.SingleFacts.{at_clock}
use Rattle.poll_steps.specs.Steps.{is_sent, Stops}
use Rattle.poll_steps.proofs.ChainLemmas.{Leads}
use Rattle.poll_steps.proofs.sending.send_packets.Given as goal

abbrev pub invariant-packets : goal.invariant-packets
invariant-packets l =
    (Leads Sends (Stops is_sent) (at_clock l.clock l.initial.lists) l.facts l.count (at_clock l.clock l.lists))
    × (l.memory ≡ l.initial.memory)

abbrev pub decreases-packets : goal.decreases-packets
decreases-packets l = length l.facts - l.count
