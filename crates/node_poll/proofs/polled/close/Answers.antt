use Rattle.std.proofs.Common.{refl}
use Rattle.node_steps.proofs.SendSteps.{fits-closed, node-closed}
use Rattle.node_steps.specs.Seen.{jobs_in}
use Rattle.node_poll.proofs.polled.close.Goals as goal

pub invariant_of-node : goal.invariant_of-node
invariant_of-node g c = (
  fits-closed c.node.inside.me c.node.inside.limits (record {
    life = c.node.inside.life;
    known = c.node.inside.known;
    asked = c.node.inside.asked;
    server_numbers = c.node.inside.server_numbers;
    inbox = c.node.inside.inbox;
    counts = c.node.inside.counts;
  }) c.node.inside.paces.items (jobs_in c.node.inside.limits.jobs c.node.inside.given
      c.node.inside.jobs.items) c.node.inside.clock c.node.inside.rx c.node.inside.store
      c.make_ready.new.self c.node.invariant.0 c.make_ready.ensures.queued
      c.make_ready.ensures.clients c.make_ready.ensures.servers
      c.make_ready.ensures.size c.make_ready.ensures.places,
  c.node.invariant.1,
  rw c.make_ready.ensures.clients c.node.invariant.2,
)

pub returns : goal.returns
returns g c = record {
  makes = rw (← c.node.view_is) (node-closed c.node.inside.me c.node.inside.limits (record {
    life = c.node.inside.life;
    known = c.node.inside.known;
    asked = c.node.inside.asked;
    server_numbers = c.node.inside.server_numbers;
    inbox = c.node.inside.inbox;
    counts = c.node.inside.counts;
  }) c.node.inside.paces.items (jobs_in c.node.inside.limits.jobs c.node.inside.given
      c.node.inside.jobs.items) c.node.inside.clock c.node.inside.rx c.node.inside.store
      c.make_ready.new.self c.node.invariant.0 c.make_ready.ensures.queued
      c.make_ready.ensures.clients c.make_ready.ensures.servers
      g.R.Recorder.log c.args.rec.now c.note.new.self c.note.ensures);
  rest = rw (← c.node.view_is) (record { me = refl; servers = c.make_ready.ensures.servers; jobs = refl; handed = c.make_ready.ensures.handed });
}
