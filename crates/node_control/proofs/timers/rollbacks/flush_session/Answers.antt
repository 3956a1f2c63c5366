use Rattle.std.proofs.Common.{refl, ◌∙◌, ap, subst}
use Rattle.node_laws.specs.Valid.{Valid}
use Rattle.node_laws.specs.Windows.{Windows}
use Rattle.node_steps.proofs.TimerBreaks.{flushed-idle}
use Rattle.node_steps.proofs.TimerFlushes.{gather-more, gather-over, gather-start}
use Rattle.node_steps.proofs.TimerNext.{next-calls, next-fewer, next-none, slots-few}
use Rattle.node_steps.proofs.TimerNext.{ascends-calls}
use Rattle.node_steps.proofs.LeavesSteps.{leaves-none, leaves-then}
use Rattle.node_control.proofs.timers.rollbacks.flush_session.Goals as goal

pub calls-init : goal.calls-init
calls-init g c =
    (gather-start g.R.Recorder.log c.args.i _ _, refl, leaves-none _)

pub calls-smaller : goal.calls-smaller
calls-smaller g c =
    let fits = c.node.invariant.0 in
    let same = ap (λ t. t.lists.clients) c.node.view_is ∙ c.calls.invariant.1 in
    next-fewer c.calls.after c.args.i c.node.inside.store.clients c.args.node.now.lists.clients same
    fits.ascends c.in-Some.active (c.requires.known) (rw c.in-Some.is at c.active.ensures)

pub calls-preserved : goal.calls-preserved
calls-preserved g c =
    let fits = c.node.invariant.0 in
    let i = c.calls.invariant in
    let h = c.flush_call.ensures in
    let same = ap (λ t. t.lists.clients) c.node.view_is ∙ i.1 in (
      gather-more g.R.Recorder.log c.args.i c.calls.after c.in-Some.active _ _
          _ _ _ _
          (ascends-calls c.args.i c.node.inside.store.clients c.args.node.now.lists.clients same
          fits.ascends)
          (slots-few c.args.i c.node.inside.store.clients c.args.node.now.lists.clients same
          fits.kept.valid.sound)
          (next-calls c.calls.after c.args.i c.node.inside.store.clients
          c.args.node.now.lists.clients same c.in-Some.active c.requires.known
          (rw c.in-Some.is at c.active.ensures)) i.0 h.makes,
      h.clients ∙ i.1,
      leaves-then _ _ _ i.2 h.rest,
    )

pub returns : goal.returns
returns g c = record {
  makes = let i = c.calls.invariant in
      let same = ap (λ t. t.lists.clients) c.node.view_is ∙ i.1 in
      gather-over g.R.Recorder.log c.args.i c.calls.after _ _ _ _
      (next-none c.calls.after c.args.i c.node.inside.store.clients c.args.node.now.lists.clients same
      c.requires.known (rw c.in_default.is at c.active.ensures)) i.0;
  idle = let i = c.calls.invariant in
      let fits = c.node.invariant.0 in
      let same = ap (λ t. t.lists.clients) c.node.view_is ∙ i.1 in
      flushed-idle g.R.Recorder.log c.args.i _ _ _ _
      (gather-over g.R.Recorder.log c.args.i c.calls.after _ _ _ _
      (next-none c.calls.after c.args.i c.node.inside.store.clients c.args.node.now.lists.clients same
      c.requires.known (rw c.in_default.is at c.active.ensures)) i.0) i.1
      (subst (λ t. Valid t.lists) c.node.view_is fits.kept.valid)
      (subst (λ t. Windows t.lists.clients t.lists.queued) c.node.view_is fits.kept.windows);
  clients = c.calls.invariant.1;
  rest = c.calls.invariant.2;
}
