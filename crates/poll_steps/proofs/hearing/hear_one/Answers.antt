use Rattle.std.proofs.Common.{ap, sym, ◌∙◌}
use Rattle.rpc_laws.specs.Front.{control_of}
use Rattle.node_rules.specs.SingleFacts.{at_clock}
use Rattle.poll_steps.proofs.HearLemmas.{hears-as, hears-empty, hears-unread, no-items}
use Rattle.poll_steps.proofs.hearing.hear_one.Goals as goal

pub returns-then-is_empty-clause-step : goal.returns-then-is_empty-clause-step
returns-then-is_empty-clause-step c =
    let s = at_clock c.args.clock c.args.lists.now in
    hears-empty s c.args.facts.now s
    (no-items c.args.lists.now.inbox (sym c.is_empty.ensures ∙ c.if-is_empty.true))

pub returns-in_default-clause-step : goal.returns-in_default-clause-step
returns-in_default-clause-step c =
    let s = at_clock c.args.clock c.args.lists.now in
    hears-unread s c.args.facts.now s c.first-front.result.now c.first-front.ensures
    (ap control_of (sym c.bytes.ensures) ∙ sym c.in_default.ensures)

pub returns-clause-step : goal.returns-clause-step
returns-clause-step c =
    hears-as (at_clock c.args.clock c.args.lists.now) c.args.facts.now
    (at_clock c.args.clock c.hear_as.new.lists)
    c.in_ok-count.count c.first-front.result.now c.in-Some.head c.first-front.ensures
    (ap control_of (sym c.bytes.ensures) ∙ sym c.in-Some.ensures) c.in_ok-count.ensures.step
