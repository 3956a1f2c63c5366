use Rattle.std.proofs.Common.{Option, ℕ, Some, subst}
use Rattle.rpc_laws.specs.ControlTable.{session_end}
use Rattle.rule_facts.specs.Fronts.{Fronts}
use Rattle.node_rules.specs.SingleFacts.{at_clock}
use Rattle.poll_steps.proofs.HearLemmas.{ends-none, ends-other, ends-some}
use Rattle.poll_steps.proofs.hearing.end_one.Goals as goal

pub returns-in_default-clause-step : goal.returns-in_default-clause-step
returns-in_default-clause-step c =
    ends-none c.args.clock c.args.lists.now c.args.peer c.args.head.now c.args.facts.now
    (at_clock c.args.clock c.args.lists.now) c.in_default.ensures

pub returns-in_default-2-clause-step : goal.returns-in_default-2-clause-step
returns-in_default-2-clause-step c =
    let s = c.args.lists.now in
    ends-other c.args.clock s c.args.peer c.args.head.now c.args.facts.now c.in-Some.server.now
    (at_clock c.args.clock s) c.in-Some.ensures
    (subst (λ (o : Option ℕ). Fronts (session_end s.me s.queued (Some c.in-Some.server.now))
    c.args.facts.now o)
    c.in_default-2.is c.in_ok-told.ensures.fronts)

pub returns-clause-step : goal.returns-clause-step
returns-clause-step c =
    let s = c.args.lists.now in
    ends-some c.args.clock s c.apply_told.new.lists c.args.peer c.args.head.now c.args.facts.now
    c.in-Some.server.now c.in-Some-2.told c.in_ok-count.count c.in-Some.ensures
    (subst (λ (o : Option ℕ). Fronts (session_end s.me s.queued (Some c.in-Some.server.now))
    c.args.facts.now o)
    c.in-Some-2.is c.in_ok-told.ensures.fronts)
    c.in_ok-count.ensures.count c.in_ok-count.ensures.applied
