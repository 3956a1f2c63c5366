use Rattle.std.proofs.Common.{◌∙◌, refl}
use Rattle.rpc_laws.specs.Sessions.{comes_to}
use Rattle.rpc_base.specs.declared.state.SessionState.TheVariants.{Failed}
use Rattle.node_steps.specs.Seen.{jobs_in}
use Rattle.session_store.specs.Sides.{has_calls}
use Rattle.node_steps.specs.Callers.{has_request}
use Rattle.node_steps.proofs.PostCallers.{covers-stay, visited-calls}
use Rattle.node_steps.proofs.ControlReplies.{fits-failed, node-failed}
use Rattle.node_control.proofs.control.replies.fail_session.Goals as goal

pub invariant_of-node : goal.invariant_of-node
invariant_of-node g c =
    let h = c.failed.ensures in
    let at = rw (c.from.ensures ∙ c.session.view_is) at h.clients in (
      fits-failed c.node.inside.me c.node.inside.limits
          (record {
            life = c.node.inside.life;
            known = c.node.inside.known;
            asked = c.node.inside.asked;
            server_numbers = c.node.inside.server_numbers;
            inbox = c.node.inside.inbox;
            counts = c.node.inside.counts;
          }) c.node.inside.paces.items (jobs_in c.node.inside.limits.jobs c.node.inside.given
          c.node.inside.jobs.items) c.node.inside.clock c.node.inside.rx c.node.inside.store
          c.failed.new.self g.R.Recorder.log c.args.rec.now c.note.new.self
          c.node.invariant.0 c.args.session h.servers h.queued at
          (rw (← c.node.view_is) at c.requires.stands) h.size h.places,
      c.node.invariant.1,
      covers-stay c.node.inside.callers c.args.session (comes_to Failed) _ _
          (λ x. visited-calls (has_calls x) (has_request x.state)) at c.node.invariant.2,
    )

pub returns : goal.returns
returns g c = record {
  makes = let h = c.failed.ensures in
      let at = rw (c.from.ensures ∙ c.session.view_is) at h.clients in
      rw (← c.node.view_is) (node-failed c.node.inside.me c.node.inside.limits
      (record {
        life = c.node.inside.life;
        known = c.node.inside.known;
        asked = c.node.inside.asked;
        server_numbers = c.node.inside.server_numbers;
        inbox = c.node.inside.inbox;
        counts = c.node.inside.counts;
      }) c.node.inside.paces.items (jobs_in c.node.inside.limits.jobs c.node.inside.given
      c.node.inside.jobs.items) c.node.inside.clock c.node.inside.rx c.node.inside.store
      c.failed.new.self g.R.Recorder.log c.args.rec.now c.note.new.self
      c.node.invariant.0 c.args.session h.servers h.queued at
      (rw (← c.node.view_is) at c.requires.stands) c.note.ensures);
  rest = rw (← c.node.view_is) (record { inbox = refl; jobs = refl; handed = c.failed.ensures.handed });
}
