use Rattle.std.proofs.Common.{refl}
use Rattle.node_steps.proofs.TimerRollbacks.{fits-rolled, may-roll, node-rolled}
use Rattle.node_steps.specs.Seen.{jobs_in}
use Rattle.node_steps.proofs.PostCallers.{covers-rolled}
use Rattle.node_control.proofs.timers.rollbacks.roll_idle.Goals as goal

pub roll-requires-clause-may : goal.roll-requires-clause-may
roll-requires-clause-may g c =
    may-roll c.node.inside.me c.node.inside.limits
    (record {
      life = c.node.inside.life;
      known = c.node.inside.known;
      asked = c.node.inside.asked;
      server_numbers = c.node.inside.server_numbers;
      inbox = c.node.inside.inbox;
      counts = c.node.inside.counts;
    }) c.node.inside.paces.items
    (jobs_in c.node.inside.limits.jobs c.node.inside.given c.node.inside.jobs.items)
    c.node.inside.clock c.node.inside.rx c.node.inside.store c.node.invariant.0 c.args.i
    c.args.active.now (rw (← c.node.view_is) at c.requires.can.active)
    (rw (← c.node.view_is) at c.requires.idle) (rw (← c.node.view_is) at c.requires.can.few)

pub invariant_of-node : goal.invariant_of-node
invariant_of-node g c =
    let h = c.roll.ensures in (
      fits-rolled c.node.inside.me c.node.inside.limits
          (record {
            life = c.node.inside.life;
            known = c.node.inside.known;
            asked = c.node.inside.asked;
            server_numbers = c.node.inside.server_numbers;
            inbox = c.node.inside.inbox;
            counts = c.node.inside.counts;
          }) c.node.inside.paces.items (jobs_in c.node.inside.limits.jobs c.node.inside.given
          c.node.inside.jobs.items)
          c.node.inside.clock c.node.inside.rx c.node.inside.store c.node.invariant.0 c.args.i
          c.args.active.now (rw (← c.node.view_is) at c.requires.can.active)
          (rw (← c.node.view_is) at c.requires.idle) c.roll.new.self h.clients h.servers h.queued
          h.size h.places,
      c.node.invariant.1,
      covers-rolled c.node.inside.callers c.args.i _ _ _ h.clients c.node.invariant.2,
    )

pub returns : goal.returns
returns g c = record {
  makes = let h = c.roll.ensures in
      rw (← c.node.view_is) (node-rolled c.node.inside.me c.node.inside.limits
      (record {
        life = c.node.inside.life;
        known = c.node.inside.known;
        asked = c.node.inside.asked;
        server_numbers = c.node.inside.server_numbers;
        inbox = c.node.inside.inbox;
        counts = c.node.inside.counts;
      }) c.node.inside.paces.items (jobs_in c.node.inside.limits.jobs c.node.inside.given
      c.node.inside.jobs.items)
      c.node.inside.clock c.node.inside.rx c.node.inside.store c.node.invariant.0 c.args.i
      c.args.active.now (rw (← c.node.view_is) at c.requires.can.active)
      (rw (← c.node.view_is) at c.requires.idle) c.roll.new.self h.clients h.servers h.queued
      g.R.Recorder.log c.args.rec.now c.note.new.self _ _ _ refl refl refl
      c.note.ensures);
  rest = rw (← c.node.view_is) (record { me = refl; servers = c.roll.ensures.servers; jobs = refl; handed = c.roll.ensures.handed });
}
