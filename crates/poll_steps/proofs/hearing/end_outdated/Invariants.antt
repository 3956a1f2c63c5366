use Rattle.std.proofs.Common.{◌≡◌, ◌-◌, length}
use Rattle.rpc_laws.specs.ControlSteps.{EndsOutdated}
use Rattle.node_rules.specs.SingleFacts.{at_clock}
use Rattle.poll_steps.proofs.ChainLemmas.{Leads}
use Rattle.poll_steps.proofs.HearLemmas.{NoneOutdated}
use Rattle.poll_steps.proofs.StepLemmas.{Anyhow}
use Rattle.poll_steps.proofs.hearing.end_outdated.Given as goal

abbrev pub invariant-sessions : goal.invariant-sessions
invariant-sessions l =
    (Leads (EndsOutdated l.peer l.head) (Anyhow (NoneOutdated l.peer l.head))
    (at_clock l.clock l.initial.lists)
    l.facts l.count (at_clock l.clock l.lists))
    × (l.memory ≡ l.initial.memory)

abbrev pub decreases-sessions : goal.decreases-sessions
decreases-sessions l = length l.facts - l.count
