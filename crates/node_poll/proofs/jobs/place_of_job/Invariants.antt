use Rattle.std.proofs.Common.{◌≤◌}
use Rattle.std.specs.List.{position_or_len}
use Rattle.node_steps.specs.Jobs.{is_named}
use Rattle.node_poll.proofs.jobs.place_of_job.Given as goal

abbrev pub invariant-jobs : goal.invariant-jobs
invariant-jobs l = l.i ≤ position_or_len (is_named l.session l.request) l.jobs.items
