use Rattle.std.proofs.Common.{◌≡◌, length, ap, ◌∙◌, arith, rules}
use Rattle.rpc_laws.specs.PollOrder.{Serves}
use Rattle.node_steps.proofs.PostCallers.{all-served, serves-up}
use Rattle.node_steps.proofs.NoteSteps.{makes-visit}
use Rattle.node_steps.proofs.LeavesSteps.{leaves-then}
use Rattle.node_poll.proofs.posts.post_sessions.Goals as goal

pub sessions-preserved : goal.sessions-preserved
sessions-preserved g c =
    let i = c.sessions.invariant in
    let h = c.post_session.ensures in
    let next = rw c.in-Some.is at c.next_caller.ensures in
    rw c.forget_idle.ensures (
      makes-visit g.R.Recorder.log Serves c.in-Some.i _ _ _ _ _ _
          (serves-up g.R.Recorder.log c.sessions.from c.in-Some.i _ _ _ _
          next.0 next.2 i.0) h.makes,
      leaves-then _ _ _ i.1 h.rest,
      omega (arith, next.1),
    )

pub returns : goal.returns
returns g c = record {
  makes = let i = c.sessions.invariant in
      let none = rw c.in_default.is at c.next_caller.ensures in
      let many : c.clients-count.result ≡ length c.args.node.now.lists.clients =
      c.clients-count.ensures.count ∙ ap (λ t. length t.lists.clients) c.node.view_is in
      all-served g.R.Recorder.log c.clients-count.result _ _ _ _ many
      (serves-up g.R.Recorder.log c.sessions.from c.clients-count.result _ _ _ _
      i.2 none i.0);
  rest = search rules;
}
