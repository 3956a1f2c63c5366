use Rattle.rpc_laws.specs.PollOrder.{HandlesAll}
use Rattle.rpc_outside.specs.PlainAnswer.{plain_mode}
use Rattle.front_laws.proofs.RingOneLemmas.{handles-all-one}
use Rattle.node_rules.specs.SingleFacts.{at_clock}
use Rattle.poll_steps.specs.Polling.{FromTimers}
use Rattle.poll_steps.proofs.StepLemmas.{then-found, then-lost, then-unbegun}
use Rattle.poll_steps.proofs.polling.from_ring.Goals as goal

pub returns-in_default-clause-step : goal.returns-in_default-clause-step
returns-in_default-clause-step c =
    then-unbegun (HandlesAll plain_mode) FromTimers (at_clock c.args.clock c.args.lists.now)
    c.args.facts.now (at_clock c.args.clock c.handle_all.new.lists)
    (at_clock c.args.clock c.handle_all.new.lists) c.in_ok-handled.field-0 c.in_ok-handled.ensures.step
    c.in_default.is

pub returns-in_default-2-clause-step : goal.returns-in_default-2-clause-step
returns-in_default-2-clause-step c =
    then-lost (HandlesAll plain_mode) FromTimers (handles-all-one plain_mode)
    (at_clock c.args.clock c.args.lists.now) c.args.facts.now c.in-Some.handled
    (at_clock c.args.clock c.handle_all.new.lists) (at_clock c.args.clock c.from_timers.new.lists)
    (at_clock c.args.clock c.from_timers.new.lists) c.in_ok-handled.field-0 c.in_ok-more.field-0
    c.in_ok-handled.ensures.step
    c.in-Some.is c.in_ok-more.ensures.step c.in_default-2.is

pub returns-clause-step : goal.returns-clause-step
returns-clause-step c =
    then-found (HandlesAll plain_mode) FromTimers (at_clock c.args.clock c.args.lists.now)
    c.args.facts.now c.in-Some.handled c.in-Some-2.more
    (at_clock c.args.clock c.handle_all.new.lists) (at_clock c.args.clock c.from_timers.new.lists)
    c.in_ok-handled.field-0 c.in_ok-more.field-0 c.in_ok-handled.ensures.step c.in-Some.is
    c.in_ok-more.ensures.step
    c.in-Some-2.is
