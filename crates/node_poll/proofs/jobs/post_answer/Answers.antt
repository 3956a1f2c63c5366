use Rattle.std.proofs.Common.{sym, ◌∙◌}
use Rattle.node_steps.proofs.JobsSteps.{session-there}
use Rattle.node_poll.proofs.jobs.post_answer.Goals as goal

pub on_finished-requires-clause-session : goal.on_finished-requires-clause-session
on_finished-requires-clause-session c =
    session-there _ _ _ (sym c.place_of_server.ensures ∙ c.in-Some.is)
