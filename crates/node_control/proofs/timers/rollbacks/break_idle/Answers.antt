use Rattle.node_steps.proofs.TimerBreaks.{fits-lost, node-lost}
use Rattle.node_steps.specs.Seen.{jobs_in}
use Rattle.node_steps.proofs.PostCallers.{covers-lost}
use Rattle.std.proofs.Common.{refl}
use Rattle.node_control.proofs.timers.rollbacks.break_idle.Goals as goal

pub invariant_of-node : goal.invariant_of-node
invariant_of-node g c =
    let h = c.lose_session.ensures in (
      fits-lost c.node.inside.me c.node.inside.limits
          (record {
            life = c.node.inside.life;
            known = c.node.inside.known;
            asked = c.node.inside.asked;
            server_numbers = c.node.inside.server_numbers;
            inbox = c.node.inside.inbox;
            counts = c.node.inside.counts;
          }) c.node.inside.paces.items (jobs_in c.node.inside.limits.jobs c.node.inside.given
          c.node.inside.jobs.items)
          c.node.inside.clock c.node.inside.rx c.node.inside.store c.lose_session.new.store
          g.R.Recorder.log g.K.Continuation.given c.args.rec.now
          c.lose_session.new.rec c.args.k.now c.lose_session.new.k c.node.invariant.0 c.args.i
          (rw (← c.node.view_is) at c.requires.idle) h.lost h.rest.servers h.rest.queued h.rest.size h.rest.places,
      c.node.invariant.1,
      covers-lost c.node.inside.callers c.args.i h.lost.client _ _ h.lost.place h.lost.changed
          c.node.invariant.2,
    )

pub returns : goal.returns
returns g c = record {
  ended = let h = c.lose_session.ensures in
      rw (← c.node.view_is) (node-lost c.node.inside.me c.node.inside.limits
      (record {
        life = c.node.inside.life;
        known = c.node.inside.known;
        asked = c.node.inside.asked;
        server_numbers = c.node.inside.server_numbers;
        inbox = c.node.inside.inbox;
        counts = c.node.inside.counts;
      }) c.node.inside.paces.items (jobs_in c.node.inside.limits.jobs c.node.inside.given
      c.node.inside.jobs.items)
      c.node.inside.clock c.node.inside.rx c.node.inside.store
      c.lose_session.new.store g.R.Recorder.log g.K.Continuation.given
      c.args.rec.now c.lose_session.new.rec c.args.k.now c.lose_session.new.k c.node.invariant.0
      c.args.i (rw (← c.node.view_is) at c.requires.idle) h.lost h.rest.servers h.rest.queued);
  rest = let h = c.lose_session.ensures in
      rw (← c.node.view_is) (record { me = refl; servers = h.rest.servers; jobs = refl; handed = h.rest.handed });
}
