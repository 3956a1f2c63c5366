use Rattle.node_steps.proofs.JobsCrew.{steps-jobs-none, steps-jobs-then}
use Rattle.node_poll.proofs.jobs.finish_all.Goals as goal

pub jobs-init : goal.jobs-init
jobs-init g c = steps-jobs-none g.R.Recorder.log g.W.Workers _ _ _

pub jobs-preserved : goal.jobs-preserved
jobs-preserved g c =
    steps-jobs-then g.R.Recorder.log g.W.Workers _ _ _ _ _ _ _ _ _ c.jobs.invariant
    c.finish_next.ensures.step

pub returns-then-not-finish_next-clause-step : goal.returns-then-not-finish_next-clause-step
returns-then-not-finish_next-clause-step g c =
    steps-jobs-then g.R.Recorder.log g.W.Workers _ _ _ _ _ _ _ _ _ c.jobs.invariant
    c.finish_next.ensures.step
