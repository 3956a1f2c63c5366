use Rattle.std.proofs.Common.{◌≡◌, refl, sym, ap, subst, ◌∙◌}
use Rattle.std.specs.List.{Contains}
use Rattle.std.proofs.lemmas.Option.{slice_get_within}
use Rattle.rpc_base.specs.declared.state.SessionState.TheVariants.{Closing}
use Rattle.rpc_laws.specs.declared.tables.Client.{Client}
use Rattle.rpc_laws.specs.Sessions.{comes_to, is_connected}
use Rattle.node_steps.specs.Seen.{jobs_in}
use Rattle.node_steps.proofs.PostCallers.{covers-entered}
use Rattle.node_steps.proofs.SessionSteps.{closes-at, fits-closing, node-closing, same-client}
use Rattle.endpoint_node.proofs.node.Node.begin_closing.Goals as goal

pub closing-requires : goal.closing-requires
closing-requires g c =
    let xs = c.self.inside.store.clients in
    let h = closes-at xs c.from.result _ c.self.invariant.0.kept.valid.numbered
    (sym c.session.view_is ∙ sym c.from.ensures) (rw (← c.self.view_is) at c.requires.connected)
    (rw (← c.self.view_is) at c.requires.idle) in
    record {
      known = slice_get_within xs c.from.result h.client h.place;
      connected = rw (h.place) h.connected;
      idle = rw (h.place) h.idle;
    }

pub invariant_of-self : goal.invariant_of-self
invariant_of-self g c =
    let xs = c.self.inside.store.clients in
    let h = closes-at xs c.args.session _ c.self.invariant.0.kept.valid.numbered refl
    (rw (← c.self.view_is) at c.requires.connected) (rw (← c.self.view_is) at c.requires.idle) in
    let to = c.closing.ensures in
    let at = rw (c.from.ensures ∙ c.session.view_is) at to.clients in
    let same : h.client ≡ at.client = same-client h.client at.client (sym h.place ∙ at.place) in (
      fits-closing c.self.inside.me c.self.inside.limits
          (record {
            life = c.self.inside.life;
            known = c.self.inside.known;
            asked = c.self.inside.asked;
            server_numbers = c.self.inside.server_numbers;
            counts = c.self.inside.counts;
            inbox = c.self.inside.inbox;
          }) c.self.inside.paces.items (jobs_in c.self.inside.limits.jobs c.self.inside.given
          c.self.inside.jobs.items) c.self.inside.clock c.self.inside.rx c.self.inside.store
          c.closing.new.self c.self.invariant.0 c.args.session at to.servers to.queued
          (ap (λ (x : Client). is_connected x.state) (sym same) ∙ h.connected)
          (ap (λ (x : Client). x.calls) (sym same) ∙ h.idle) to.size to.places,
      c.self.invariant.1,
      covers-entered c.self.inside.callers c.enter.new.self c.args.session (comes_to Closing) _ _
          at (subst (λ n. Contains c.enter.new.self n) c.session.view_is c.enter.ensures.entered)
          c.enter.ensures.others c.self.invariant.2,
    )

pub returns : goal.returns
returns g c = record {
  makes = let to = c.closing.ensures in
      let at = rw (c.from.ensures ∙ c.session.view_is) at to.clients in
      rw (← c.self.view_is) (node-closing c.self.inside.me c.self.inside.limits
      (record {
        life = c.self.inside.life;
        known = c.self.inside.known;
        asked = c.self.inside.asked;
        server_numbers = c.self.inside.server_numbers;
        counts = c.self.inside.counts;
        inbox = c.self.inside.inbox;
      }) c.self.inside.paces.items (jobs_in c.self.inside.limits.jobs c.self.inside.given
      c.self.inside.jobs.items) c.self.inside.clock c.self.inside.rx c.self.inside.store
      c.closing.new.self c.self.invariant.0 c.args.session at to.servers to.queued
      g.R.Recorder.log c.args.rec.now c.note.new.self c.note.ensures);
  rest = rw (← c.self.view_is) (record { me = refl; servers = c.closing.ensures.servers; jobs = refl; handed = c.closing.ensures.handed });
}
