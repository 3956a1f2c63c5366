use Rattle.rpc_laws.specs.PollOrder.{Closes, Sends}
use Rattle.node_rules.specs.SingleFacts.{at_clock}
use Rattle.poll_steps.specs.Steps.{is_sent}
use Rattle.poll_steps.proofs.PollLemmas.{closes-other-kind, sends-begin}
use Rattle.poll_steps.proofs.SendLemmas.{sends-one}
use Rattle.poll_steps.proofs.StopsLemmas.{stops-found, stops-lost, stops-unbegun}
use Rattle.poll_steps.proofs.polling.from_sending.Goals as goal

pub returns-in_default-clause-step : goal.returns-in_default-clause-step
returns-in_default-clause-step c =
    stops-unbegun is_sent Sends Closes closes-other-kind (at_clock c.args.clock c.args.lists.now)
    c.args.facts.now
    (at_clock c.args.clock c.send_packets.new.lists)
    (at_clock c.args.clock c.send_packets.new.lists) c.in_ok-sent.field-0
    c.in_ok-sent.ensures.step c.in_default.is

pub returns-in_default-2-clause-step : goal.returns-in_default-2-clause-step
returns-in_default-2-clause-step c =
    stops-lost is_sent Sends Closes sends-one sends-begin closes-other-kind
    (at_clock c.args.clock c.args.lists.now) c.args.facts.now c.in-Some.sent
    (at_clock c.args.clock c.send_packets.new.lists) (at_clock c.args.clock c.end_poll.new.lists)
    (at_clock c.args.clock c.end_poll.new.lists) c.in_ok-sent.field-0 c.in_ok-more.field-0
    c.in_ok-sent.ensures.step
    c.in-Some.is c.in_ok-more.ensures.step c.in_default-2.is

pub returns-clause-step : goal.returns-clause-step
returns-clause-step c =
    stops-found is_sent Sends Closes (at_clock c.args.clock c.args.lists.now) c.args.facts.now
    c.in-Some.sent c.in-Some-2.more
    (at_clock c.args.clock c.send_packets.new.lists) (at_clock c.args.clock c.end_poll.new.lists)
    c.in_ok-sent.field-0 c.in_ok-more.field-0 c.in_ok-sent.ensures.step c.in-Some.is c.in_ok-more.ensures.step
    c.in-Some-2.is
