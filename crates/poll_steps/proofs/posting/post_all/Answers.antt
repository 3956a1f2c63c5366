use Rattle.std.proofs.Common.{◌∙◌, ℕ, List, Option, Some, None, drop, subst}
use Rattle.rpc_base.specs.declared.fact.Fact.{Fact}
use Rattle.rpc_laws.specs.declared.tables.Timed.{Timed}
use Rattle.rpc_laws.specs.PollOrder.{Serves}
use Rattle.rpc_laws.specs.Steps.{Visits}
use Rattle.node_rules.specs.SingleFacts.{at_clock}
use Rattle.poll_steps.specs.Steps.{IsStep}
use Rattle.poll_steps.proofs.PostLemmas.{posts-step, rest-from, serves-one, visits-more, visits-stuck}
use Rattle.poll_steps.proofs.posting.post_all.Goals as goal

pub returns-in_default-clause-step : goal.returns-in_default-clause-step
returns-in_default-clause-step c =
    let facts : List Fact = c.args.facts.now in
    let s : Timed = at_clock c.args.clock c.args.lists.now in
    let t : Timed = at_clock c.args.clock c.sessions.lists in
    let u : Timed = at_clock c.args.clock c.serve.new.lists in
    let two : IsStep (Serves c.sessions.i) t (drop c.sessions.count facts) u None =
    subst (λ (o : Option ℕ). IsStep (Serves c.sessions.i) t (drop c.sessions.count facts) u o) c.in_default.is
    (subst (λ (z : List Fact). IsStep (Serves c.sessions.i) t z u c.in_ok-more.field-0)
    (rest-from facts c.sessions.count) c.in_ok-more.ensures.step) in
    posts-step s facts u None
    (subst (λ (n : ℕ). IsStep (Visits Serves n) s facts u None) c.len-sessions.ensures
    (visits-stuck Serves serves-one c.sessions.i c.len-sessions.result s facts c.sessions.count t u u
    c.sessions-test.true c.sessions.invariant.0 two))

pub sessions-preserved : goal.sessions-preserved
sessions-preserved c =
    let facts : List Fact = c.args.facts.now in
    let s : Timed = at_clock c.args.clock c.args.lists.now in
    let t : Timed = at_clock c.args.clock c.sessions.lists in
    let u : Timed = at_clock c.args.clock c.serve.new.lists in
    let two : IsStep (Serves c.sessions.i) t (drop c.sessions.count facts) u (Some c.in-Some.more) =
    subst (λ (o : Option ℕ). IsStep (Serves c.sessions.i) t (drop c.sessions.count facts) u o) c.in-Some.is
    (subst (λ (z : List Fact). IsStep (Serves c.sessions.i) t z u c.in_ok-more.field-0)
    (rest-from facts c.sessions.count) c.in_ok-more.ensures.step) in
    (visits-more Serves c.sessions.i s facts c.sessions.count c.in-Some.more t u c.sessions.invariant.0 two, c.in_ok-more.ensures.cause ∙ c.sessions.invariant.1)
