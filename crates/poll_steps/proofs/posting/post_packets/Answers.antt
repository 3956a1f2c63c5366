use Rattle.std.proofs.Common.{refl, sym, ◌∙◌}
use Rattle.rpc_laws.specs.Posting.{next_posted}
use Rattle.rpc_laws.specs.Steps.{NotesNext}
use Rattle.node_rules.specs.SingleFacts.{at_clock}
use Rattle.poll_steps.proofs.ChainLemmas.{leads-none}
use Rattle.poll_steps.proofs.PostLemmas.{NoNext, notes-more, notes-other, notes-past}
use Rattle.poll_steps.proofs.posting.post_packets.Goals as goal

pub packets-init : goal.packets-init
packets-init c = (
  leads-none (NotesNext (next_posted c.args.i)) (NoNext (next_posted c.args.i)) (at_clock c.args.clock c.args.lists.now)
      c.args.facts.now,
  refl,
)

pub returns-then-facts-count-clause-step : goal.returns-then-facts-count-clause-step
returns-then-facts-count-clause-step c =
    notes-past (next_posted c.args.i) (at_clock c.args.clock c.args.lists.now) c.args.facts.now c.packets.count
    (at_clock c.args.clock c.packets.lists) (at_clock c.args.clock c.packets.lists) c.packets.invariant.0
    (sym c.posts.ensures ∙ c.packets-test.true) c.if-facts-count.true

pub returns-then-not-is_next_posted-clause-step : goal.returns-then-not-is_next_posted-clause-step
returns-then-not-is_next_posted-clause-step c =
    notes-other (next_posted c.args.i) (at_clock c.args.clock c.args.lists.now) c.args.facts.now c.packets.count
    (at_clock c.args.clock c.packets.lists) (at_clock c.args.clock c.packets.lists) c.fact_at-fact.result.now c.packets.invariant.0
    (sym c.posts.ensures ∙ c.packets-test.true) c.fact_at-fact.ensures
    (λ is. let said = c.is_next_posted.ensures.1 is in let clash = sym c.if-not-is_next_posted.true ∙ said in cc)

pub packets-preserved : goal.packets-preserved
packets-preserved c = (
  notes-more (next_posted c.args.i) (at_clock c.args.clock c.args.lists.now) c.args.clock c.args.facts.now c.packets.count
      c.packets.lists c.apply.new.lists c.fact_at-fact.result.now c.packets.invariant.0 c.fact_at-fact.ensures
      (sym c.posts.ensures ∙ c.packets-test.true) (c.is_next_posted.ensures.0 c.if-not-is_next_posted.false) c.in_ok-apply.ensures.lists,
  c.in_ok-apply.ensures.cause ∙ c.packets.invariant.1,
)
