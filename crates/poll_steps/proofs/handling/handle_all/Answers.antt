use Rattle.std.proofs.Common.{◌∙◌, refl}
use Rattle.rpc_laws.specs.declared.tables.Timed.{Timed}
use Rattle.rpc_laws.specs.PollOrder.{Handles, NoMoreToHandle}
use Rattle.rpc_outside.specs.PlainAnswer.{plain_mode}
use Rattle.front_laws.proofs.RingOneLemmas.{handles-end, handles-one}
use Rattle.node_rules.specs.SingleFacts.{at_clock}
use Rattle.poll_steps.proofs.HandleLemmas.{handles-some}
use Rattle.poll_steps.proofs.StepLemmas.{step-shorter, until-lost, until-more, until-over, until-start}
use Rattle.poll_steps.proofs.handling.handle_all.Goals as goal

pub packets-init : goal.packets-init
packets-init c =
    (until-start (Handles plain_mode) NoMoreToHandle (at_clock c.args.clock c.args.lists.now) c.args.facts.now, refl)

pub returns-in_default-clause-step : goal.returns-in_default-clause-step
returns-in_default-clause-step c =
    let u : Timed = at_clock c.args.clock c.handle_one.new.lists in
    until-lost (Handles plain_mode) NoMoreToHandle (at_clock c.args.clock c.args.lists.now) c.args.facts.now
    c.packets.count (at_clock c.args.clock c.packets.lists) u u c.in_ok-more.field-0 c.packets.invariant.0
    (λ over. let yes = (c.is_over.ensures c.args.clock).1 over in let no = c.packets-test.true in cc)
    c.in_ok-more.ensures.step c.in_default.is

pub packets-preserved : goal.packets-preserved
packets-preserved c = (
  until-more (Handles plain_mode) NoMoreToHandle (handles-one plain_mode) (handles-end plain_mode)
      (at_clock c.args.clock c.args.lists.now) c.args.facts.now c.packets.count c.in-Some.more
      (at_clock c.args.clock c.packets.lists) (at_clock c.args.clock c.handle_one.new.lists) c.in_ok-more.field-0
      c.packets.invariant.0 c.in_ok-more.ensures.step c.in-Some.is,
  c.in_ok-more.ensures.cause ∙ c.packets.invariant.1,
)

pub packets-smaller : goal.packets-smaller
packets-smaller c =
    step-shorter (Handles plain_mode) (handles-some plain_mode) c.args.facts.now c.packets.count c.in-Some.more
    (at_clock c.args.clock c.packets.lists) (at_clock c.args.clock c.handle_one.new.lists) c.in_ok-more.field-0
    c.packets.invariant.0.within c.in_ok-more.ensures.step c.in-Some.is

pub returns-clause-step : goal.returns-clause-step
returns-clause-step c =
    until-over (Handles plain_mode) NoMoreToHandle (at_clock c.args.clock c.args.lists.now) c.args.facts.now
    c.packets.count (at_clock c.args.clock c.packets.lists) c.packets.invariant.0
    ((c.is_over.ensures c.args.clock).0 c.packets-test.false)
