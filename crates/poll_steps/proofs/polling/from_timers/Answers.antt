use Rattle.rpc_laws.specs.ControlSteps.{TimesAll}
use Rattle.front_laws.proofs.PhaseLemmas.{times-one}
use Rattle.node_rules.specs.SingleFacts.{at_clock}
use Rattle.poll_steps.specs.Polling.{FromPosting}
use Rattle.poll_steps.proofs.StepLemmas.{then-found, then-lost, then-unbegun}
use Rattle.poll_steps.proofs.polling.from_timers.Goals as goal

pub returns-in_default-clause-step : goal.returns-in_default-clause-step
returns-in_default-clause-step c =
    then-unbegun TimesAll FromPosting (at_clock c.args.clock c.args.lists.now) c.args.facts.now
    (at_clock c.args.clock c.time_all.new.lists) (at_clock c.args.clock c.time_all.new.lists)
    c.in_ok-timed.field-0 c.in_ok-timed.ensures.step
    c.in_default.is

pub returns-in_default-2-clause-step : goal.returns-in_default-2-clause-step
returns-in_default-2-clause-step c =
    then-lost TimesAll FromPosting times-one (at_clock c.args.clock c.args.lists.now)
    c.args.facts.now c.in-Some.timed
    (at_clock c.args.clock c.time_all.new.lists) (at_clock c.args.clock c.from_posting.new.lists)
    (at_clock c.args.clock c.from_posting.new.lists) c.in_ok-timed.field-0 c.in_ok-more.field-0
    c.in_ok-timed.ensures.step
    c.in-Some.is c.in_ok-more.ensures.step c.in_default-2.is

pub returns-clause-step : goal.returns-clause-step
returns-clause-step c =
    then-found TimesAll FromPosting (at_clock c.args.clock c.args.lists.now) c.args.facts.now
    c.in-Some.timed c.in-Some-2.more
    (at_clock c.args.clock c.time_all.new.lists) (at_clock c.args.clock c.from_posting.new.lists)
    c.in_ok-timed.field-0 c.in_ok-more.field-0 c.in_ok-timed.ensures.step c.in-Some.is
    c.in_ok-more.ensures.step
    c.in-Some-2.is
