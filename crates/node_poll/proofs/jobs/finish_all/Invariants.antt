use Rattle.std.proofs.Common.{length}
use Rattle.node_steps.specs.Changes.{◌⟶◌}
use Rattle.node_steps.specs.Steps.{StepsJobs}
use Rattle.node_poll.proofs.jobs.finish_all.Given as goal

abbrev pub invariant-jobs : goal.invariant-jobs
invariant-jobs g l =
    StepsJobs g.R.Recorder.log g.W.Workers (l.initial.node ⟶ l.node) (l.initial.rec ⟶ l.rec)
    (l.initial.workers ⟶ l.workers)

abbrev pub decreases-jobs : goal.decreases-jobs
decreases-jobs g l = length (g.W.Workers.out l.workers)
