use Rattle.std.proofs.Common.{◌≡◌, Some}
use Rattle.rpc_laws.specs.PollOrder.{Serves}
use Rattle.rpc_laws.specs.Steps.{Visits}
use Rattle.node_rules.specs.SingleFacts.{at_clock}
use Rattle.poll_steps.specs.Steps.{IsStep}
use Rattle.poll_steps.proofs.posting.post_all.Given as goal

abbrev pub invariant-sessions : goal.invariant-sessions
invariant-sessions l =
    (IsStep (Visits Serves l.i) (at_clock l.clock l.initial.lists) l.facts (at_clock l.clock l.lists) (Some l.count))
    × (l.memory ≡ l.initial.memory)
