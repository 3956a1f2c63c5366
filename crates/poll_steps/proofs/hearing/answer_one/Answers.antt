use Rattle.std.proofs.Common.{Option, ℕ, ap, subst, take}
use Rattle.std.specs.Prelude.{IfSome, is_some}
use Rattle.node_rules.specs.SingleFacts.{at_clock}
use Rattle.rule_facts.specs.Speaking.{Answer}
use Rattle.poll_steps.proofs.HearLemmas.{answers-none, answers-some}
use Rattle.poll_steps.proofs.hearing.answer_one.Goals as goal

pub returns-in_default-clause-step : goal.returns-in_default-clause-step
returns-in_default-clause-step c =
    answers-none c.args.clock c.args.lists.now c.args.peer c.args.head.now c.args.facts.now
    (at_clock c.args.clock c.args.lists.now)
    (c.in_ok-told.ensures.only (ap is_some c.in_default.is))

pub returns-clause-step : goal.returns-clause-step
returns-clause-step c =
    let s = c.args.lists.now in
    let peer = c.args.peer in
    let h = c.args.head.now in
    let facts = c.args.facts.now in
    let some : Answer s peer h (take c.in-Some.told facts) =
    subst (λ (o : Option ℕ). IfSome o (λ (n : ℕ). Answer s peer h (take n facts))) c.in-Some.is
    c.in_ok-told.ensures.some in
    answers-some c.args.clock s c.apply_told.new.lists peer h facts c.in-Some.told
    c.in_ok-count.count some
    c.in_ok-count.ensures.count c.in_ok-count.ensures.applied
