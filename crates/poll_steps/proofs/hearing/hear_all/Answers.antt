use Rattle.std.proofs.Common.{refl, sym, ◌∙◌}
use Rattle.rpc_laws.specs.declared.tables.Timed.{Timed}
use Rattle.rpc_laws.specs.ControlSteps.{Hears}
use Rattle.front_laws.proofs.RowOneLemmas.{hears-one}
use Rattle.node_rules.specs.SingleFacts.{at_clock}
use Rattle.poll_steps.proofs.HearLemmas.{hears-end, hears-notes, InboxEmpty, no-items, some-items}
use Rattle.poll_steps.proofs.StepLemmas.{step-shorter, until-lost, until-more, until-over}
use Rattle.poll_steps.proofs.StepLemmas.{until-start}
use Rattle.poll_steps.proofs.hearing.hear_all.Goals as goal

pub packets-init : goal.packets-init
packets-init c =
    (until-start Hears InboxEmpty (at_clock c.args.clock c.args.lists.now) c.args.facts.now, refl)

pub returns-in_default-clause-step : goal.returns-in_default-clause-step
returns-in_default-clause-step c =
    let t : Timed = at_clock c.args.clock c.packets.lists in
    let u : Timed = at_clock c.args.clock c.hear_one.new.lists in
    until-lost Hears InboxEmpty (at_clock c.args.clock c.args.lists.now) c.args.facts.now
    c.packets.count t u u
    c.in_ok-more.field-0 c.packets.invariant.0
    (some-items c.packets.lists.inbox (sym c.is_empty.ensures ∙ c.packets-test.true))
    c.in_ok-more.ensures.step
    c.in_default.is

pub packets-preserved : goal.packets-preserved
packets-preserved c =
    let t : Timed = at_clock c.args.clock c.packets.lists in
    let u : Timed = at_clock c.args.clock c.hear_one.new.lists in (
      until-more Hears InboxEmpty hears-one hears-end (at_clock c.args.clock c.args.lists.now)
          c.args.facts.now c.packets.count c.in-Some.more t u c.in_ok-more.field-0 c.packets.invariant.0
          c.in_ok-more.ensures.step c.in-Some.is,
      c.in_ok-more.ensures.cause ∙ c.packets.invariant.1,
    )

pub packets-smaller : goal.packets-smaller
packets-smaller c =
    let t : Timed = at_clock c.args.clock c.packets.lists in
    let u : Timed = at_clock c.args.clock c.hear_one.new.lists in
    step-shorter Hears hears-notes c.args.facts.now c.packets.count c.in-Some.more t u
    c.in_ok-more.field-0
    c.packets.invariant.0.within c.in_ok-more.ensures.step c.in-Some.is

pub returns-clause-step : goal.returns-clause-step
returns-clause-step c =
    until-over Hears InboxEmpty (at_clock c.args.clock c.args.lists.now) c.args.facts.now
    c.packets.count
    (at_clock c.args.clock c.packets.lists) c.packets.invariant.0
    (no-items c.packets.lists.inbox (sym c.is_empty.ensures ∙ c.packets-test.false))
