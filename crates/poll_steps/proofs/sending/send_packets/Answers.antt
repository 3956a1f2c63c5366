use Rattle.std.proofs.Common.{refl, ◌∙◌, sym}
use Rattle.rpc_laws.specs.PollOrder.{Sends}
use Rattle.node_rules.specs.SingleFacts.{at_clock}
use Rattle.poll_steps.specs.Steps.{is_sent, Stops}
use Rattle.poll_steps.proofs.ChainLemmas.{leads-none, leads-over}
use Rattle.poll_steps.proofs.SendLemmas.{sends-more, sends-stuck}
use Rattle.poll_steps.proofs.sending.send_packets.Goals as goal

pub packets-init : goal.packets-init
packets-init c =
    (leads-none Sends (Stops is_sent) (at_clock c.args.clock c.args.lists.now) c.args.facts.now, refl)

pub returns-then-not-is_next_sent-clause-step : goal.returns-then-not-is_next_sent-clause-step
returns-then-not-is_next_sent-clause-step c =
    sends-stuck (at_clock c.args.clock c.args.lists.now) c.args.clock c.args.facts.now c.packets.count c.packets.lists
    c.fact_at-fact.result.now (at_clock c.args.clock c.packets.lists) c.packets.invariant.0 c.fact_at-fact.ensures
    (sym c.sent_at.ensures ∙ c.packets-test.true)
    (λ is. let said = c.is_next_sent.ensures.1 is in let clash = sym c.if-not-is_next_sent.true ∙ said in cc)

pub packets-preserved : goal.packets-preserved
packets-preserved c = (
  sends-more (at_clock c.args.clock c.args.lists.now) c.args.clock c.args.facts.now c.packets.count c.packets.lists
      c.apply.new.lists c.fact_at-fact.result.now c.packets.invariant.0 c.fact_at-fact.ensures
      (sym c.sent_at.ensures ∙ c.packets-test.true) (c.is_next_sent.ensures.0 c.if-not-is_next_sent.false)
      c.in_ok-apply.ensures.lists,
  c.in_ok-apply.ensures.cause ∙ c.packets.invariant.1,
)

pub returns-clause-step : goal.returns-clause-step
returns-clause-step c =
    leads-over Sends (Stops is_sent) (at_clock c.args.clock c.args.lists.now) c.args.facts.now c.packets.count
    (at_clock c.args.clock c.packets.lists) c.packets.invariant.0 (sym c.sent_at.ensures ∙ c.packets-test.false)
