use Rattle.std.proofs.Common.{refl, sym, ◌∙◌}
use Rattle.rpc_laws.specs.declared.tables.Timed.{Timed}
use Rattle.rpc_laws.specs.ControlSteps.{EndsOutdated}
use Rattle.rpc_laws.specs.ControlTable.{outdated}
use Rattle.front_laws.proofs.RowOneLemmas.{ends-one}
use Rattle.node_rules.specs.SingleFacts.{at_clock}
use Rattle.poll_steps.proofs.HearLemmas.{ends-end, ends-notes, none-outdated, NoneOutdated}
use Rattle.poll_steps.proofs.HearLemmas.{some-outdated}
use Rattle.poll_steps.proofs.StepLemmas.{step-shorter, until-lost, until-more, until-over}
use Rattle.poll_steps.proofs.StepLemmas.{until-start}
use Rattle.poll_steps.proofs.hearing.end_outdated.Goals as goal

pub sessions-init : goal.sessions-init
sessions-init c =
    let peer = c.args.peer in
    let h = c.args.head.now in (
      until-start (EndsOutdated peer h) (NoneOutdated peer h) (at_clock c.args.clock c.args.lists.now)
          c.args.facts.now,
      refl,
    )

pub returns-in_default-clause-step : goal.returns-in_default-clause-step
returns-in_default-clause-step c =
    let peer = c.args.peer in
    let h = c.args.head.now in
    let t : Timed = at_clock c.args.clock c.sessions.lists in
    let u : Timed = at_clock c.args.clock c.end_one.new.lists in
    until-lost (EndsOutdated peer h) (NoneOutdated peer h) (at_clock c.args.clock c.args.lists.now)
    c.args.facts.now
    c.sessions.count t u u c.in_ok-more.field-0 c.sessions.invariant.0
    (some-outdated (outdated peer h c.sessions.lists)
    (sym c.outdates.ensures ∙ c.sessions-test.true))
    c.in_ok-more.ensures.step c.in_default.is

pub sessions-preserved : goal.sessions-preserved
sessions-preserved c =
    let peer = c.args.peer in
    let h = c.args.head.now in
    let t : Timed = at_clock c.args.clock c.sessions.lists in
    let u : Timed = at_clock c.args.clock c.end_one.new.lists in (
      until-more (EndsOutdated peer h) (NoneOutdated peer h) (ends-one peer h) (ends-end peer h)
          (at_clock c.args.clock c.args.lists.now) c.args.facts.now c.sessions.count c.in-Some.more t u
          c.in_ok-more.field-0 c.sessions.invariant.0 c.in_ok-more.ensures.step c.in-Some.is,
      c.in_ok-more.ensures.cause ∙ c.sessions.invariant.1,
    )

pub sessions-smaller : goal.sessions-smaller
sessions-smaller c =
    let peer = c.args.peer in
    let h = c.args.head.now in
    let t : Timed = at_clock c.args.clock c.sessions.lists in
    let u : Timed = at_clock c.args.clock c.end_one.new.lists in
    step-shorter (EndsOutdated peer h) (ends-notes peer h) c.args.facts.now c.sessions.count
    c.in-Some.more t u
    c.in_ok-more.field-0 c.sessions.invariant.0.within c.in_ok-more.ensures.step c.in-Some.is

pub returns-clause-step : goal.returns-clause-step
returns-clause-step c =
    let peer = c.args.peer in
    let h = c.args.head.now in
    until-over (EndsOutdated peer h) (NoneOutdated peer h) (at_clock c.args.clock c.args.lists.now)
    c.args.facts.now
    c.sessions.count (at_clock c.args.clock c.sessions.lists) c.sessions.invariant.0
    (none-outdated (outdated peer h c.sessions.lists)
    (sym c.outdates.ensures ∙ c.sessions-test.false))
