use Rattle.rpc_laws.specs.PollOrder.{FinishesOne}
use Rattle.node_rules.specs.SingleFacts.{at_clock}
use Rattle.poll_steps.specs.Polling.{FromInbox}
use Rattle.poll_steps.specs.Steps.{is_ran}
use Rattle.poll_steps.proofs.FinishLemmas.{finishes-one}
use Rattle.poll_steps.proofs.PollLemmas.{finishes-begin, inbox-other-kind}
use Rattle.poll_steps.proofs.StopsLemmas.{stops-found, stops-lost, stops-unbegun}
use Rattle.poll_steps.proofs.polling.from_jobs.Goals as goal

pub returns-in_default-clause-step : goal.returns-in_default-clause-step
returns-in_default-clause-step c =
    stops-unbegun is_ran FinishesOne FromInbox inbox-other-kind
    (at_clock c.args.clock c.args.lists.now) c.args.facts.now
    (at_clock c.args.clock c.finish_jobs.new.lists) (at_clock c.args.clock c.finish_jobs.new.lists)
    c.in_ok-finished.field-0
    c.in_ok-finished.ensures.step c.in_default.is

pub returns-in_default-2-clause-step : goal.returns-in_default-2-clause-step
returns-in_default-2-clause-step c =
    stops-lost is_ran FinishesOne FromInbox finishes-one finishes-begin inbox-other-kind
    (at_clock c.args.clock c.args.lists.now) c.args.facts.now c.in-Some.finished
    (at_clock c.args.clock c.finish_jobs.new.lists) (at_clock c.args.clock c.from_inbox.new.lists)
    (at_clock c.args.clock c.from_inbox.new.lists) c.in_ok-finished.field-0 c.in_ok-more.field-0
    c.in_ok-finished.ensures.step
    c.in-Some.is c.in_ok-more.ensures.step c.in_default-2.is

pub returns-clause-step : goal.returns-clause-step
returns-clause-step c =
    stops-found is_ran FinishesOne FromInbox (at_clock c.args.clock c.args.lists.now)
    c.args.facts.now c.in-Some.finished c.in-Some-2.more
    (at_clock c.args.clock c.finish_jobs.new.lists) (at_clock c.args.clock c.from_inbox.new.lists)
    c.in_ok-finished.field-0 c.in_ok-more.field-0 c.in_ok-finished.ensures.step c.in-Some.is
    c.in_ok-more.ensures.step
    c.in-Some-2.is
