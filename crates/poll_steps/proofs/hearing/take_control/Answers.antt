use Rattle.std.proofs.Common.{sym, ◌∙◌}
use Rattle.node_rules.specs.SingleFacts.{at_clock}
use Rattle.poll_steps.proofs.HearLemmas.{no-items, takes-other, takes-past, takes-some}
use Rattle.poll_steps.proofs.hearing.take_control.Goals as goal

pub returns-then-is_empty-clause-step : goal.returns-then-is_empty-clause-step
returns-then-is_empty-clause-step c =
    takes-past c.args.clock c.args.lists.now c.args.facts.now
    (at_clock c.args.clock c.args.lists.now)
    (no-items c.args.facts.now (sym c.is_empty.ensures ∙ c.if-is_empty.true))

pub returns-then-not-is_heard-clause-step : goal.returns-then-not-is_heard-clause-step
returns-then-not-is_heard-clause-step c =
    takes-other c.args.clock c.args.lists.now c.args.facts.now c.fact_at-fact.result.now
    (at_clock c.args.clock c.args.lists.now) c.fact_at-fact.ensures
    (λ is.
    let said = c.is_heard.ensures.1 is in
    let clash = sym c.if-not-is_heard.true ∙ said in
    cc)

pub returns-clause-step : goal.returns-clause-step
returns-clause-step c =
    takes-some c.args.clock c.args.lists.now c.apply.new.lists c.args.facts.now
    c.fact_at-fact.result.now
    c.fact_at-fact.ensures (c.is_heard.ensures.0 c.if-not-is_heard.false) c.in_ok-apply.ensures.lists
