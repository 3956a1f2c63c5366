use Rattle.rpc_laws.specs.declared.tables.Timed.{Timed}
use Rattle.rpc_laws.specs.ControlSteps.{AnswersControl, EndsAllOutdated}
use Rattle.front_laws.proofs.RowOneLemmas.{ends-all-one}
use Rattle.node_rules.specs.SingleFacts.{at_clock}
use Rattle.poll_steps.proofs.StepLemmas.{then-found, then-lost, then-unbegun}
use Rattle.poll_steps.proofs.hearing.end_and_answer.Goals as goal

pub returns-in_default-clause-step : goal.returns-in_default-clause-step
returns-in_default-clause-step c =
    let t : Timed = at_clock c.args.clock c.end_outdated.new.lists in
    then-unbegun (EndsAllOutdated c.args.peer c.args.head.now)
    (AnswersControl c.args.peer c.args.head.now)
    (at_clock c.args.clock c.args.lists.now) c.args.facts.now t t c.in_ok-ended.field-0
    c.in_ok-ended.ensures.step
    c.in_default.is

pub returns-in_default-2-clause-step : goal.returns-in_default-2-clause-step
returns-in_default-2-clause-step c =
    let t : Timed = at_clock c.args.clock c.end_outdated.new.lists in
    let u : Timed = at_clock c.args.clock c.answer_one.new.lists in
    then-lost (EndsAllOutdated c.args.peer c.args.head.now)
    (AnswersControl c.args.peer c.args.head.now)
    (ends-all-one c.args.peer c.args.head.now) (at_clock c.args.clock c.args.lists.now)
    c.args.facts.now c.in-Some.ended t u u
    c.in_ok-ended.field-0 c.in_ok-said.field-0 c.in_ok-ended.ensures.step c.in-Some.is
    c.in_ok-said.ensures.step c.in_default-2.is

pub returns-clause-step : goal.returns-clause-step
returns-clause-step c =
    let t : Timed = at_clock c.args.clock c.end_outdated.new.lists in
    let u : Timed = at_clock c.args.clock c.answer_one.new.lists in
    then-found (EndsAllOutdated c.args.peer c.args.head.now)
    (AnswersControl c.args.peer c.args.head.now)
    (at_clock c.args.clock c.args.lists.now) c.args.facts.now c.in-Some.ended c.in-Some-2.said t u
    c.in_ok-ended.field-0 c.in_ok-said.field-0 c.in_ok-ended.ensures.step c.in-Some.is
    c.in_ok-said.ensures.step c.in-Some-2.is
