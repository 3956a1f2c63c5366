use Rattle.std.proofs.Common.{refl, ℕ, List, Option, Some, None, drop, subst, sym, ◌∙◌}
use Rattle.rpc_base.specs.declared.fact.Fact.{Fact}
use Rattle.rpc_laws.specs.declared.tables.Timed.{Timed}
use Rattle.rpc_laws.specs.PollOrder.{FinishesOne}
use Rattle.node_rules.specs.SingleFacts.{at_clock}
use Rattle.poll_steps.specs.Steps.{is_ran, IsStep, Stops}
use Rattle.poll_steps.proofs.ChainLemmas.{leads-none, leads-over}
use Rattle.poll_steps.proofs.FinishLemmas.{finishes-more, finishes-stuck}
use Rattle.poll_steps.proofs.PostLemmas.{rest-from}
use Rattle.poll_steps.proofs.finishing.finish_jobs.Goals as goal

pub jobs-init : goal.jobs-init
jobs-init c =
    (leads-none FinishesOne (Stops is_ran) (at_clock c.args.clock c.args.lists.now) c.args.facts.now, refl)

pub returns-in_default-clause-step : goal.returns-in_default-clause-step
returns-in_default-clause-step c =
    let facts : List Fact = c.args.facts.now in
    let t : Timed = at_clock c.args.clock c.jobs.lists in
    let u : Timed = at_clock c.args.clock c.finish_one.new.lists in
    let two : IsStep FinishesOne t (drop c.jobs.count facts) u None =
    subst (λ (o : Option ℕ). IsStep FinishesOne t (drop c.jobs.count facts) u o) c.in_default.is
    (subst (λ (z : List Fact). IsStep FinishesOne t z u c.in_ok-more.field-0) (rest-from facts c.jobs.count)
    c.in_ok-more.ensures.step) in
    finishes-stuck (at_clock c.args.clock c.args.lists.now) facts c.jobs.count t u u c.jobs.invariant.0 two
    (sym c.ran_at.ensures ∙ c.jobs-test.true)

pub jobs-preserved : goal.jobs-preserved
jobs-preserved c =
    let facts : List Fact = c.args.facts.now in
    let t : Timed = at_clock c.args.clock c.jobs.lists in
    let u : Timed = at_clock c.args.clock c.finish_one.new.lists in
    let two : IsStep FinishesOne t (drop c.jobs.count facts) u (Some c.in-Some.more) =
    subst (λ (o : Option ℕ). IsStep FinishesOne t (drop c.jobs.count facts) u o) c.in-Some.is
    (subst (λ (z : List Fact). IsStep FinishesOne t z u c.in_ok-more.field-0) (rest-from facts c.jobs.count)
    c.in_ok-more.ensures.step) in (
      finishes-more (at_clock c.args.clock c.args.lists.now) facts c.jobs.count c.in-Some.more t u c.jobs.invariant.0 two
          (sym c.ran_at.ensures ∙ c.jobs-test.true),
      c.in_ok-more.ensures.cause ∙ c.jobs.invariant.1,
    )

pub returns-clause-step : goal.returns-clause-step
returns-clause-step c =
    leads-over FinishesOne (Stops is_ran) (at_clock c.args.clock c.args.lists.now) c.args.facts.now c.jobs.count
    (at_clock c.args.clock c.jobs.lists) c.jobs.invariant.0 (sym c.ran_at.ensures ∙ c.jobs-test.false)
