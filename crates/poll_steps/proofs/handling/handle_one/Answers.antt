use Rattle.node_rules.specs.SingleFacts.{at_clock}
use Rattle.poll_steps.proofs.HandleLemmas.{applied-none, applied-some, taken-whole}
use Rattle.poll_steps.proofs.handling.handle_one.Goals as goal

pub returns-in_default-clause-step : goal.returns-in_default-clause-step
returns-in_default-clause-step c =
    applied-none c.args.clock c.args.lists.now c.args.facts.now c.in_ok-count.field-0
    (at_clock c.args.clock c.args.lists.now) c.in_ok-count.ensures.next c.in_default.is

pub slice_bounds-apply_all-end : goal.slice_bounds-apply_all-end
slice_bounds-apply_all-end c =
    taken-whole c.args.lists.now c.args.facts.now c.in_ok-count.field-0 c.in-Some.count
    c.in_ok-count.ensures.next c.in-Some.is

pub returns-clause-step : goal.returns-clause-step
returns-clause-step c =
    applied-some c.args.clock c.args.lists.now c.apply_all.new.lists c.args.facts.now c.in_ok-count.field-0
    c.in-Some.count c.in_ok-count.ensures.next c.in-Some.is c.in_ok-apply_all.ensures.lists
