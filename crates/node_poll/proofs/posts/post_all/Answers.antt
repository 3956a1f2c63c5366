use Rattle.node_steps.proofs.NoteSteps.{makes-more, makes-none, notes-one}
use Rattle.node_steps.proofs.LeavesSteps.{leaves-none, leaves-then}
use Rattle.node_poll.proofs.posts.post_all.Goals as goal

pub packets-init : goal.packets-init
packets-init g c = (makes-none g.R.Recorder.log _ _ _, leaves-none _)

pub packets-preserved : goal.packets-preserved
packets-preserved g c =
    let i = c.packets.invariant in
    let h = c.post_next.ensures in (
      makes-more g.R.Recorder.log _ _ _ _ _ _ _ i.0
          (notes-one g.R.Recorder.log _ _ _ _ _ _ c.packets-test.true h.notes),
      leaves-then _ _ _ i.1 h.rest,
    )
