use Rattle.std.proofs.Common.{refl}
use Rattle.rpc_laws.specs.Sessions.{comes_to}
use Rattle.rpc_base.specs.declared.state.SessionState.TheVariants.{Closed}
use Rattle.node_steps.specs.Seen.{jobs_in}
use Rattle.session_store.specs.Sides.{has_calls}
use Rattle.node_steps.specs.Callers.{has_request}
use Rattle.node_steps.proofs.PostCallers.{covers-stay, visited-calls}
use Rattle.node_steps.proofs.TimerRetries.{fits-unheard, node-unheard}
use Rattle.node_control.proofs.timers.retries.close_unheard.Goals as goal

pub invariant_of-node : goal.invariant_of-node
invariant_of-node g c =
    let h = c.closed.ensures in (
      fits-unheard c.node.inside.me c.node.inside.limits
          (record {
            life = c.node.inside.life;
            known = c.node.inside.known;
            asked = c.node.inside.asked;
            server_numbers = c.node.inside.server_numbers;
            counts = c.node.inside.counts;
            inbox = c.node.inside.inbox;
          }) c.node.inside.paces.items (jobs_in c.node.inside.limits.jobs c.node.inside.given
          c.node.inside.jobs.items) c.node.inside.clock c.node.inside.rx c.node.inside.store
          c.closed.new.self c.node.invariant.0 c.args.i h.servers h.queued h.clients
          (rw (← c.node.view_is) at c.requires.stands) h.size h.places,
      c.node.invariant.1,
      covers-stay c.node.inside.callers c.args.i (comes_to Closed) _ _
          (λ x. visited-calls (has_calls x) (has_request x.state)) h.clients c.node.invariant.2,
    )

pub returns : goal.returns
returns g c = record {
  makes = let h = c.closed.ensures in
      rw (← c.node.view_is) (node-unheard c.node.inside.me c.node.inside.limits
      (record {
        life = c.node.inside.life;
        known = c.node.inside.known;
        asked = c.node.inside.asked;
        server_numbers = c.node.inside.server_numbers;
        counts = c.node.inside.counts;
        inbox = c.node.inside.inbox;
      }) c.node.inside.paces.items (jobs_in c.node.inside.limits.jobs c.node.inside.given
      c.node.inside.jobs.items) c.node.inside.clock c.node.inside.rx c.node.inside.store
      c.closed.new.self c.node.invariant.0 c.args.i h.servers h.queued h.clients
      (rw (← c.node.view_is) at c.requires.stands) g.R.Recorder.log
      c.args.rec.now c.note.new.self c.note.ensures);
  rest = rw (← c.node.view_is) (record { me = refl; servers = c.closed.ensures.servers; jobs = refl; handed = c.closed.ensures.handed });
}
