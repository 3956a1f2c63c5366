use Rattle.std.proofs.Common.{◌≡◌, ◌-◌, length}
use Rattle.rpc_laws.specs.PollOrder.{Handles, NoMoreToHandle}
use Rattle.rpc_outside.specs.PlainAnswer.{plain_mode}
use Rattle.node_rules.specs.SingleFacts.{at_clock}
use Rattle.poll_steps.proofs.ChainLemmas.{Leads}
use Rattle.poll_steps.proofs.StepLemmas.{Anyhow}
use Rattle.poll_steps.proofs.handling.handle_all.Given as goal

abbrev pub invariant-packets : goal.invariant-packets
invariant-packets l =
    (Leads (Handles plain_mode) (Anyhow NoMoreToHandle) (at_clock l.clock l.initial.lists) l.facts l.count
    (at_clock l.clock l.lists))
    × (l.memory ≡ l.initial.memory)

abbrev pub decreases-packets : goal.decreases-packets
decreases-packets l = length l.facts - l.count
