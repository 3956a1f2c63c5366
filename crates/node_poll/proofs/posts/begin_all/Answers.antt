use Rattle.node_steps.proofs.NoteSteps.{makes-more, makes-none, notes-one}
use Rattle.node_steps.proofs.LeavesSteps.{leaves-none, leaves-then}
use Rattle.node_poll.proofs.posts.begin_all.Goals as goal

pub calls-init : goal.calls-init
calls-init g c = (makes-none g.R.Recorder.log _ _ _, leaves-none _)

pub calls-preserved : goal.calls-preserved
calls-preserved g c =
    let i = c.calls.invariant in
    let h = c.begin_next.ensures in (
      makes-more g.R.Recorder.log _ _ _ _ _ _ _ i.0
          (notes-one g.R.Recorder.log _ _ _ _ _ _ c.calls-test.true h.notes),
      leaves-then _ _ _ i.1 h.rest,
    )
