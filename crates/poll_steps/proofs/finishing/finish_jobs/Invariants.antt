use Rattle.std.proofs.Common.{◌≡◌, ◌-◌, length}
use Rattle.rpc_laws.specs.PollOrder.{FinishesOne}
use Rattle.node_rules.specs.SingleFacts.{at_clock}
use Rattle.poll_steps.specs.Steps.{is_ran, Stops}
use Rattle.poll_steps.proofs.ChainLemmas.{Leads}
use Rattle.poll_steps.proofs.finishing.finish_jobs.Given as goal

abbrev pub invariant-jobs : goal.invariant-jobs
invariant-jobs l =
    (Leads FinishesOne (Stops is_ran) (at_clock l.clock l.initial.lists) l.facts l.count (at_clock l.clock l.lists))
    × (l.memory ≡ l.initial.memory)

abbrev pub decreases-jobs : goal.decreases-jobs
decreases-jobs l = length l.facts - l.count
