use Rattle.std.proofs.Common.{◌∙◌, length, sym}
use Rattle.std.proofs.lemmas.Bool.{eqb-true}
use Rattle.node_rules.specs.SingleFacts.{at_clock}
use Rattle.poll_steps.proofs.ClosingLemmas.{closes-now, closes-other, closes-past}
use Rattle.poll_steps.proofs.closing.end_poll.Goals as goal

pub returns-then-is_empty-clause-step : goal.returns-then-is_empty-clause-step
returns-then-is_empty-clause-step c =
    closes-past (at_clock c.args.clock c.args.lists.now) c.args.facts.now
    (at_clock c.args.clock c.args.lists.now)
    (eqb-true (length c.args.facts.now) 0 (sym c.is_empty.ensures ∙ c.if-is_empty.true))

pub returns-then-not-is_end-clause-step : goal.returns-then-not-is_end-clause-step
returns-then-not-is_end-clause-step c =
    closes-other (at_clock c.args.clock c.args.lists.now) c.args.facts.now c.fact_at-fact.result.now
    (at_clock c.args.clock c.args.lists.now) c.fact_at-fact.ensures
    (λ is. let said = c.is_end.ensures.1 is in let clash = sym c.if-not-is_end.true ∙ said in cc)

pub returns-clause-step : goal.returns-clause-step
returns-clause-step c =
    closes-now c.args.clock c.args.lists.now c.apply.new.lists c.args.facts.now
    c.fact_at-fact.result.now
    c.fact_at-fact.ensures (c.is_end.ensures.0 c.if-not-is_end.false) c.in_ok-apply.ensures.lists
