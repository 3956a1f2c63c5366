use Rattle.std.proofs.Common.{rules}
use Rattle.node_steps.proofs.NoteSteps.{makes-then}
use Rattle.node_poll.proofs.posts.post_session.Goals as goal

pub returns : goal.returns
returns g c = record {
  makes = makes-then g.R.Recorder.log _ _ _ _ _ _ _ _ c.begin_all.ensures.makes
      c.post_all.ensures.makes;
  rest = search rules;
}
