use Rattle.std.proofs.Common.{◌+◌, refl, rules}
use Rattle.node_steps.specs.Seen.{jobs_in}
use Rattle.node_steps.proofs.SessionFits.{fits-paired-server, numbers-below, served-more}
use Rattle.endpoint_node.proofs.node.Node.add_server.Goals as goal

pub pair_server-requires-clause-above : goal.pair_server-requires-clause-above
pair_server-requires-clause-above g c =
    numbers-below c.self.inside.server_numbers c.self.inside.store.servers
    c.self.invariant.0.kept.valid.alone

pub invariant_of-self-2 : goal.invariant_of-self-2
invariant_of-self-2 g c =
    let made = c.in_ok-pair_server.ensures.made in
    let taken = rw (← c.self.view_is) at c.requires.fits.fits in (
      fits-paired-server c.self.inside.me c.self.inside.limits
          (record {
            life = c.self.inside.life;
            known = c.self.inside.known;
            asked = c.self.inside.asked;
            server_numbers = c.self.inside.server_numbers;
            inbox = c.self.inside.inbox;
            counts = c.self.inside.counts;
          }) c.self.inside.paces.items
          (jobs_in c.self.inside.limits.jobs c.self.inside.given c.self.inside.jobs.items)
          c.self.inside.clock c.self.inside.rx c.self.inside.store
          c.pair_server.new.self c.self.invariant.0 c.args.credits c.args.peer c.args.client
          c.args.life c.requires.fits.credits.some c.raise.new.self
          made.queued made.size made.places (c.self.inside.server_numbers + 1) refl
          c.requires.fits.credits.few taken
          made.clients made.servers,
      c.self.invariant.1,
      rw made.clients c.self.invariant.2,
    )

pub returns-clause-adds : goal.returns-clause-adds
returns-clause-adds g c = record {
  makes = search rules;
  clients = search rules;
  jobs = search rules;
  served = λ mode served.
      served-more mode _ _ _ _ _ _ _ c.in_ok-pair_server.ensures.made.servers
      (rw (← c.self.view_is) at served);
  unchanged = search rules;
  handed = search rules;
}
