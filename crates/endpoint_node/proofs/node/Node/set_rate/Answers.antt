use Rattle.std.proofs.Common.{sym, ap, ◌∙◌, arith, rules, refl}
use Rattle.rpc_laws.specs.Sessions.{is_live}
use Rattle.node_steps.proofs.SessionRates.{fits-rated, live-there, node-rated, node-refused}
use Rattle.node_steps.specs.Seen.{jobs_in}
use Rattle.endpoint_node.proofs.node.Node.set_rate.Goals as goal

pub returns-then-not-lives-clause-step : goal.returns-then-not-lives-clause-step
returns-then-not-lives-clause-step g c = record {
  makes = let seen = rw (← c.self.view_is) at c.state-state.ensures in
      rw (← c.self.view_is) (node-refused c.self.inside.me c.self.inside.limits
      (record {
        life = c.self.inside.life;
        known = c.self.inside.known;
        asked = c.self.inside.asked;
        server_numbers = c.self.inside.server_numbers;
        inbox = c.self.inside.inbox;
        counts = c.self.inside.counts;
      }) c.self.inside.paces.items (jobs_in c.self.inside.limits.jobs c.self.inside.given
      c.self.inside.jobs.items)
      c.self.inside.clock c.self.inside.rx c.self.inside.store c.args.session c.args.rate
      c.state-state.result seen
      (sym c.lives.ensures ∙ c.if-not-lives.true) g.R.Recorder.log c.args.rec.now
      c.note.new.self c.note.ensures);
  rest = search rules;
}

pub set_rate_at-requires : goal.set_rate_at-requires
set_rate_at-requires g c =
    let seen = rw (← c.self.view_is) at c.state-state.ensures in
    let fits = c.self.invariant.0 in
    let there = live-there c.args.session c.self.inside.store.clients fits.kept.valid.numbered
    (ap is_live (sym seen) ∙ sym c.lives.ensures ∙ c.if-not-lives.false) in
    record { known = omega (arith, there, fits.each); numbered = fits.paces }

pub invariant_of-self : goal.invariant_of-self
invariant_of-self g c =
    let seen = rw (← c.self.view_is) at c.state-state.ensures in
    let set = rw (c.from.ensures ∙ c.session.view_is) at c.set_rate_at.ensures.rated in (
      fits-rated c.self.inside.me c.self.inside.limits
          (record {
            life = c.self.inside.life;
            known = c.self.inside.known;
            asked = c.self.inside.asked;
            server_numbers = c.self.inside.server_numbers;
            inbox = c.self.inside.inbox;
            counts = c.self.inside.counts;
          }) c.self.inside.paces.items (jobs_in c.self.inside.limits.jobs c.self.inside.given
          c.self.inside.jobs.items)
          c.self.inside.clock c.self.inside.rx c.self.inside.store c.args.session c.args.rate
          c.state-state.result seen
          (sym c.lives.ensures ∙ c.if-not-lives.false) c.set_rate_at.new.paces.items
          set c.self.invariant.0,
      rw c.set_rate_at.ensures.room c.self.invariant.1,
      c.self.invariant.2,
    )

pub returns-clause-step : goal.returns-clause-step
returns-clause-step g c = record {
  makes = let seen = rw (← c.self.view_is) at c.state-state.ensures in
      let set = rw (c.from.ensures ∙ c.session.view_is) at c.set_rate_at.ensures.rated in
      rw (← c.self.view_is) (node-rated c.self.inside.me c.self.inside.limits
      (record {
        life = c.self.inside.life;
        known = c.self.inside.known;
        asked = c.self.inside.asked;
        server_numbers = c.self.inside.server_numbers;
        inbox = c.self.inside.inbox;
        counts = c.self.inside.counts;
      }) c.self.inside.paces.items (jobs_in c.self.inside.limits.jobs c.self.inside.given
      c.self.inside.jobs.items)
      c.self.inside.clock c.self.inside.rx c.self.inside.store c.args.session c.args.rate
      c.state-state.result seen
      (sym c.lives.ensures ∙ c.if-not-lives.false) c.set_rate_at.new.paces.items
      set g.R.Recorder.log c.args.rec.now c.note-2.new.self
      c.note-2.ensures);
  rest = rw (← c.self.view_is) (record { me = refl; servers = refl; jobs = refl; handed = refl });
}
