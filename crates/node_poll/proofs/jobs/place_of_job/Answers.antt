use Rattle.std.proofs.Common.{sym, ap, ◌∙◌, arith}
use Rattle.node_steps.specs.Jobs.{is_named}
use Rattle.node_steps.proofs.JobsPlace.{walk-here, walk-more, walk-none}
use Rattle.node_poll.proofs.jobs.place_of_job.Goals as goal

pub returns-then-is_of : goal.returns-then-is_of
returns-then-is_of c =
    sym (walk-here (is_named c.args.session c.args.request) c.args.jobs.now.items c.jobs.i
    c.index.result.now c.jobs.invariant (omega (arith, c.jobs-test.true, c.len-i-end.ensures))
    (ap (is_named c.args.session c.args.request) (sym c.index.ensures) ∙ sym c.is_of.ensures
    ∙ c.if-is_of.true))

pub jobs-preserved : goal.jobs-preserved
jobs-preserved c =
    walk-more (is_named c.args.session c.args.request) c.args.jobs.now.items c.jobs.i
    c.index.result.now c.jobs.invariant (omega (arith, c.jobs-test.true, c.len-i-end.ensures))
    (ap (is_named c.args.session c.args.request) (sym c.index.ensures) ∙ sym c.is_of.ensures
    ∙ c.if-is_of.false)

pub returns : goal.returns
returns c =
    sym (walk-none (is_named c.args.session c.args.request) c.args.jobs.now.items c.jobs.i
    c.jobs.invariant (omega (arith, c.jobs-test.false, c.len-i-end.ensures)))
