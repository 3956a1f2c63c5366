use Rattle.std.proofs.Common.{refl}
use Rattle.node_rules.specs.SingleFacts.{at_clock}
use Rattle.poll_steps.proofs.FinishLemmas.{finished-none, finished-some}
use Rattle.poll_steps.proofs.finishing.finish_one.Goals as goal

pub returns-in_default-clause-step : goal.returns-in_default-clause-step
returns-in_default-clause-step c =
    finished-none c.args.clock c.args.lists.now c.args.facts.now (at_clock c.args.clock c.args.lists.now)
    (c.in_default.ensures.only refl)

pub returns-clause-step : goal.returns-clause-step
returns-clause-step c =
    finished-some c.args.clock c.args.lists.now c.apply_all.new.lists c.args.facts.now c.in-Some.told c.min-count.result
    c.in-Some.ensures.some c.min-count.ensures c.in_ok-apply_all.ensures.lists
