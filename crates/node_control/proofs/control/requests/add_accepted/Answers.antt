use Rattle.std.proofs.Common.{◌+◌, refl}
use Rattle.node_steps.specs.Seen.{jobs_in}
use Rattle.node_steps.proofs.SessionFits.{fits-paired-server, numbers-below}
use Rattle.node_control.proofs.control.requests.add_accepted.Goals as goal

pub pair_server-requires-clause-above : goal.pair_server-requires-clause-above
pair_server-requires-clause-above g c =
    numbers-below c.node.inside.server_numbers c.node.inside.store.servers
    c.node.invariant.0.kept.valid.alone

pub invariant_of-node-2 : goal.invariant_of-node-2
invariant_of-node-2 g c =
    let made = c.in_ok-pair_server.ensures.made in
    let taken = rw (← c.node.view_is) at c.requires.fits.fits in (
      fits-paired-server c.node.inside.me c.node.inside.limits
          (record {
            life = c.node.inside.life;
            known = c.node.inside.known;
            asked = c.node.inside.asked;
            server_numbers = c.node.inside.server_numbers;
            inbox = c.node.inside.inbox;
            counts = c.node.inside.counts;
          }) c.node.inside.paces.items
          (jobs_in c.node.inside.limits.jobs c.node.inside.given c.node.inside.jobs.items)
          c.node.inside.clock c.node.inside.rx c.node.inside.store
          c.pair_server.new.self c.node.invariant.0 c.args.credits c.args.peer c.args.client
          c.args.life c.requires.fits.credits.some c.node.inside.known
          made.queued made.size made.places (c.node.inside.server_numbers + 1) refl
          c.requires.fits.credits.few taken
          made.clients made.servers,
      c.node.invariant.1,
      rw made.clients c.node.invariant.2,
    )
