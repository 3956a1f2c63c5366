use Rattle.std.proofs.Common.{refl, sym, ◌∙◌}
use Rattle.rpc_laws.specs.Posting.{next_begun}
use Rattle.rpc_laws.specs.Steps.{NotesNext}
use Rattle.node_rules.specs.SingleFacts.{at_clock}
use Rattle.poll_steps.proofs.ChainLemmas.{leads-none}
use Rattle.poll_steps.proofs.PostLemmas.{NoNext, notes-more, notes-other, notes-past}
use Rattle.poll_steps.proofs.posting.begin_calls.Goals as goal

pub calls-init : goal.calls-init
calls-init c = (
  leads-none (NotesNext (next_begun c.args.i)) (NoNext (next_begun c.args.i)) (at_clock c.args.clock c.args.lists.now)
      c.args.facts.now,
  refl,
)

pub returns-then-facts-count-clause-step : goal.returns-then-facts-count-clause-step
returns-then-facts-count-clause-step c =
    notes-past (next_begun c.args.i) (at_clock c.args.clock c.args.lists.now) c.args.facts.now c.calls.count
    (at_clock c.args.clock c.calls.lists) (at_clock c.args.clock c.calls.lists) c.calls.invariant.0
    (sym c.begins.ensures ∙ c.calls-test.true) c.if-facts-count.true

pub returns-then-not-is_next_begun-clause-step : goal.returns-then-not-is_next_begun-clause-step
returns-then-not-is_next_begun-clause-step c =
    notes-other (next_begun c.args.i) (at_clock c.args.clock c.args.lists.now) c.args.facts.now c.calls.count
    (at_clock c.args.clock c.calls.lists) (at_clock c.args.clock c.calls.lists) c.fact_at-fact.result.now c.calls.invariant.0
    (sym c.begins.ensures ∙ c.calls-test.true) c.fact_at-fact.ensures
    (λ is. let said = c.is_next_begun.ensures.1 is in let clash = sym c.if-not-is_next_begun.true ∙ said in cc)

pub calls-preserved : goal.calls-preserved
calls-preserved c = (
  notes-more (next_begun c.args.i) (at_clock c.args.clock c.args.lists.now) c.args.clock c.args.facts.now c.calls.count
      c.calls.lists c.apply.new.lists c.fact_at-fact.result.now c.calls.invariant.0 c.fact_at-fact.ensures
      (sym c.begins.ensures ∙ c.calls-test.true) (c.is_next_begun.ensures.0 c.if-not-is_next_begun.false) c.in_ok-apply.ensures.lists,
  c.in_ok-apply.ensures.cause ∙ c.calls.invariant.1,
)
