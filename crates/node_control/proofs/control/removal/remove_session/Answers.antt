use Rattle.std.proofs.Common.{refl}
use Rattle.node_steps.specs.Seen.{jobs_in}
use Rattle.node_steps.proofs.ControlRemoval.{fewer-ended, fits-ended, node-ended, server-there}
use Rattle.node_control.proofs.control.removal.remove_session.Goals as goal

pub invariant_of-node : goal.invariant_of-node
invariant_of-node g c =
    let h = c.end_server.ensures in
    let known = rw (← c.node.view_is) at c.requires.known in
    let at = server-there c.node.inside.store.servers c.args.i known in (
      fits-ended c.node.inside.me c.node.inside.limits
          (record {
            life = c.node.inside.life;
            known = c.node.inside.known;
            asked = c.node.inside.asked;
            server_numbers = c.node.inside.server_numbers;
            inbox = c.node.inside.inbox;
            counts = c.node.inside.counts;
          }) c.node.inside.paces.items (jobs_in c.node.inside.limits.jobs c.node.inside.given
          c.node.inside.jobs.items) c.node.inside.clock c.node.inside.rx c.node.inside.store
          c.end_server.new.self c.node.invariant.0 c.args.i at.server at.place
          (rw (← c.node.view_is) at c.requires.drained) h.servers h.clients h.queued h.size h.places,
      c.node.invariant.1,
      rw h.clients c.node.invariant.2,
    )

pub returns-clause-fewer : goal.returns-clause-fewer
returns-clause-fewer g c =
    let h = c.end_server.ensures in
    let known = rw (← c.node.view_is) at c.requires.known in
    let at = server-there c.node.inside.store.servers c.args.i known in
    rw (← c.node.view_is) (fewer-ended c.node.inside.me c.node.inside.limits
    (record {
      life = c.node.inside.life;
      known = c.node.inside.known;
      asked = c.node.inside.asked;
      server_numbers = c.node.inside.server_numbers;
      inbox = c.node.inside.inbox;
      counts = c.node.inside.counts;
    }) c.node.inside.paces.items (jobs_in c.node.inside.limits.jobs c.node.inside.given
    c.node.inside.jobs.items) c.node.inside.clock c.node.inside.rx c.node.inside.store
    c.end_server.new.self c.node.invariant.0 c.args.i at.server at.place
    (rw (← c.node.view_is) at c.requires.drained) h.servers h.clients h.queued)

pub returns-clause-step : goal.returns-clause-step
returns-clause-step g c = record {
  makes = let h = c.end_server.ensures in
      let known = rw (← c.node.view_is) at c.requires.known in
      let at = server-there c.node.inside.store.servers c.args.i known in
      let own = rw at.place at c.end_of_server-end.ensures in
      rw (← c.node.view_is) (node-ended c.node.inside.me c.node.inside.limits
      (record {
        life = c.node.inside.life;
        known = c.node.inside.known;
        asked = c.node.inside.asked;
        server_numbers = c.node.inside.server_numbers;
        inbox = c.node.inside.inbox;
        counts = c.node.inside.counts;
      }) c.node.inside.paces.items (jobs_in c.node.inside.limits.jobs c.node.inside.given
      c.node.inside.jobs.items) c.node.inside.clock c.node.inside.rx c.node.inside.store
      c.end_server.new.self c.node.invariant.0 c.args.i at.server at.place
      (rw (← c.node.view_is) at c.requires.drained) h.servers h.clients h.queued
      g.R.Recorder.log c.args.rec.now c.note.new.self
      c.end_of_server-end.result.session own.number c.note.ensures);
  rest = rw (← c.node.view_is) (record { inbox = refl; jobs = refl; handed = c.end_server.ensures.handed });
}
