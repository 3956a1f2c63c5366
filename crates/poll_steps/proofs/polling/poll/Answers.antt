use Rattle.std.proofs.Common.{sym}
use Rattle.node_rules.specs.SingleFacts.{at_clock}
use Rattle.poll_steps.proofs.PollLemmas.{polls-all, polls-early, polls-endless, polls-short}
use Rattle.poll_steps.proofs.PollLemmas.{polls-stuck}
use Rattle.poll_steps.proofs.polling.poll.Goals as goal

pub returns-in_default-clause-poll : goal.returns-in_default-clause-poll
returns-in_default-clause-poll c =
    polls-endless c.args.clock c.args.lists.now c.args.facts.now c.args.lists.now
    (sym c.in_default.ensures)

pub returns-then-now-clock-clause-poll : goal.returns-then-now-clock-clause-poll
returns-then-now-clock-clause-poll c =
    polls-early c.args.clock c.in-Some.now c.args.lists.now c.args.facts.now c.args.lists.now
    (sym c.in-Some.ensures)
    c.if-now-clock.true

pub returns-in_default-2-clause-poll : goal.returns-in_default-2-clause-poll
returns-in_default-2-clause-poll c =
    polls-stuck c.args.clock c.in-Some.now c.args.lists.now c.args.facts.now
    (at_clock c.in-Some.now c.from_jobs.new.lists) c.from_jobs.new.lists c.in_ok-count.field-0
    (sym c.in-Some.ensures)
    c.in_ok-count.ensures.step c.in_default-2.is

pub returns-then-count-facts-clause-poll : goal.returns-then-count-facts-clause-poll
returns-then-count-facts-clause-poll c =
    polls-short c.args.clock c.in-Some.now c.args.lists.now c.args.facts.now
    (at_clock c.in-Some.now c.from_jobs.new.lists) c.from_jobs.new.lists c.in_ok-count.field-0
    c.in-Some-2.count
    (sym c.in-Some.ensures) c.in_ok-count.ensures.step c.in-Some-2.is c.if-count-facts.true

pub returns-clause-poll : goal.returns-clause-poll
returns-clause-poll c =
    polls-all c.args.clock c.in-Some.now c.args.lists.now c.args.facts.now c.from_jobs.new.lists
    c.in_ok-count.field-0 c.in-Some-2.count c.if-now-clock.false c.in_ok-count.ensures.step
    c.in-Some-2.is
    c.if-count-facts.false
