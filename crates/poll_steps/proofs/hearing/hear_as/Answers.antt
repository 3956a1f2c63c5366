use Rattle.rpc_laws.specs.declared.tables.Timed.{Timed}
use Rattle.rpc_laws.specs.ControlSteps.{TakesControl}
use Rattle.front_laws.proofs.RowOneLemmas.{takes-one}
use Rattle.node_rules.specs.SingleFacts.{at_clock}
use Rattle.poll_steps.proofs.HearLemmas.{HearsBehind}
use Rattle.poll_steps.proofs.StepLemmas.{then-found, then-lost, then-unbegun}
use Rattle.poll_steps.proofs.hearing.hear_as.Goals as goal

pub returns-in_default-clause-step : goal.returns-in_default-clause-step
returns-in_default-clause-step c =
    let t : Timed = at_clock c.args.clock c.take_control.new.lists in
    then-unbegun TakesControl (HearsBehind c.args.peer c.args.head.now)
    (at_clock c.args.clock c.args.lists.now) c.args.facts.now t t c.in_ok-taken.field-0
    c.in_ok-taken.ensures.step
    c.in_default.is

pub returns-in_default-2-clause-step : goal.returns-in_default-2-clause-step
returns-in_default-2-clause-step c =
    let t : Timed = at_clock c.args.clock c.take_control.new.lists in
    let u : Timed = at_clock c.args.clock c.end_and_answer.new.lists in
    then-lost TakesControl (HearsBehind c.args.peer c.args.head.now)
    takes-one (at_clock c.args.clock c.args.lists.now) c.args.facts.now c.in-Some.taken t u u
    c.in_ok-taken.field-0 c.in_ok-more.field-0 c.in_ok-taken.ensures.step c.in-Some.is
    c.in_ok-more.ensures.step c.in_default-2.is

pub returns-clause-step : goal.returns-clause-step
returns-clause-step c =
    let t : Timed = at_clock c.args.clock c.take_control.new.lists in
    let u : Timed = at_clock c.args.clock c.end_and_answer.new.lists in
    then-found TakesControl (HearsBehind c.args.peer c.args.head.now)
    (at_clock c.args.clock c.args.lists.now) c.args.facts.now c.in-Some.taken c.in-Some-2.more t u
    c.in_ok-taken.field-0 c.in_ok-more.field-0 c.in_ok-taken.ensures.step c.in-Some.is
    c.in_ok-more.ensures.step c.in-Some-2.is
