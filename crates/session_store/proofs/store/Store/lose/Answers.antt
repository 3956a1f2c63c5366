use Rattle.session_ends.specs.Joined.{joined}
use Rattle.session_store.specs.Joined.{undue}
use Rattle.session_store.proofs.LoseLemmas.{lose-clients, lose-kept, lose-places, lose-servers}
use Rattle.session_store.proofs.LoseLemmas.{lost-as, lost-broken, unheld-at, lose-handed}
use Rattle.session_store.proofs.UndueLemmas.{flat, idle-undue}
use Rattle.std.proofs.Common.{sym, ap, ◌∙◌}
use Rattle.std.specs.Prelude.{map, option_map}
use Rattle.rpc_laws.specs.Groups.{live_credits}
use Rattle.client_core.specs.declared.outcome.Done.{Done}
use Rattle.session_store.specs.Sides.{Shown}
use Rattle.session_store.proofs.ShareLemmas.{clients-kept, loses-kept}
use Rattle.session_store.proofs.ChangesLemmas.{changes-calls}
use Rattle.session_store.specs.Changes.{LosesAt}
use Rattle.session_store.specs.Handing.{HandsBackIf}
use Rattle.std.proofs.Common.{refl}
use Rattle.session_store.proofs.RoomLemmas.{room-stays}
use Rattle.session_store.proofs.store.Store.lose.Goals as goal

pub lose_at-requires-clause-unheld : goal.lose_at-requires-clause-unheld
lose_at-requires-clause-unheld c =
    let s = c.self.inside in
    unheld-at s.pool s.sides.items s.servers.items (joined s.queue.tx s.queue.pacer) c.self.invariant.0
    (undue c.args.self.now) (flat c.self.inside.pool c.self.inside.sides.items
    c.self.inside.servers.items c.self.inside.queue.tx c.self.inside.queue.pacer c.args.self.now c.self.view_is)
    c.args.i (idle-undue c.args.i c.args.self.now.queued c.requires.idle)

pub invariant_of-self : goal.invariant_of-self
invariant_of-self c =
    let s = c.self.inside in
    let h = c.lose_at.ensures.loses in
    let broken = lost-broken s.pool s.sides.items s.servers.items (joined s.queue.tx s.queue.pacer) c.self.invariant.0
    (undue c.args.self.now) (flat c.self.inside.pool c.self.inside.sides.items
    c.self.inside.servers.items c.self.inside.queue.tx c.self.inside.queue.pacer c.args.self.now
    c.self.view_is) c.args.i c.requires.lost h.side h.at in (
      lose-kept s.pool c.lose_at.new.pool s.sides.items c.lose_at.new.sides.items s.servers.items (joined s.queue.tx s.queue.pacer)
          c.self.invariant.0 (undue c.args.self.now)
          (flat c.self.inside.pool c.self.inside.sides.items c.self.inside.servers.items
          c.self.inside.queue.tx c.self.inside.queue.pacer c.args.self.now c.self.view_is) c.args.i
          (idle-undue c.args.i c.args.self.now.queued c.requires.idle) c.lose_at.result h
          broken,
      c.self.invariant.1,
      clients-kept s.shares s.pool c.lose_at.new.pool s.sides.items c.lose_at.new.sides.items
          s.servers.items (loses-kept c.args.i (option_map (λ (d : Done). d.call) c.lose_at.result)
          _ _ (lose-clients s.pool c.lose_at.new.pool s.sides.items c.lose_at.new.sides.items
          s.servers.items (joined s.queue.tx s.queue.pacer) c.self.invariant.0 (undue c.args.self.now)
          (flat c.self.inside.pool c.self.inside.sides.items c.self.inside.servers.items
          c.self.inside.queue.tx c.self.inside.queue.pacer c.args.self.now c.self.view_is) c.args.i
          (idle-undue c.args.i c.args.self.now.queued c.requires.idle) c.lose_at.result h broken)
          ∙ ap (λ (v : Shown). map live_credits v.clients) (sym c.self.view_is))
          c.self.invariant.2,
      c.self.invariant.3,
      room-stays refl c.lose_at.ensures.room refl refl c.self.invariant.4,
    )

pub returns-clause-ended_as : goal.returns-clause-ended_as
returns-clause-ended_as c =
    let h = c.lose_at.ensures.loses in
    lost-as h.side.session h.later c.self.inside.pool c.lose_at.new.pool c.lose_at.result h.step

pub returns-clause-loses : goal.returns-clause-loses
returns-clause-loses c =
    let s = c.self.inside in
    let h = c.lose_at.ensures.loses in
    let seen = flat s.pool s.sides.items s.servers.items s.queue.tx s.queue.pacer c.args.self.now c.self.view_is in
    let idle = idle-undue c.args.i c.args.self.now.queued c.requires.idle in
    let broken = lost-broken s.pool s.sides.items s.servers.items (joined s.queue.tx s.queue.pacer)
    c.self.invariant.0 (undue c.args.self.now) seen c.args.i c.requires.lost h.side h.at in
    changes-calls s.pool c.lose_at.new.pool s.sides.items c.lose_at.new.sides.items
    s.servers.items s.servers.items s.queue.tx s.queue.tx s.queue.pacer s.queue.pacer c.args.self.now c.self.view_is
    (LosesAt c.args.i (option_map (λ (d : Done). d.call) c.lose_at.result))
    (lose-clients s.pool c.lose_at.new.pool s.sides.items
    c.lose_at.new.sides.items s.servers.items (joined s.queue.tx s.queue.pacer) c.self.invariant.0
    (undue c.args.self.now) seen c.args.i idle c.lose_at.result h broken)
    (lose-servers s.pool c.lose_at.new.pool s.sides.items
    c.lose_at.new.sides.items s.servers.items (joined s.queue.tx s.queue.pacer) c.self.invariant.0
    (undue c.args.self.now) seen c.args.i idle c.lose_at.result h broken)
    (lose-places s.pool c.lose_at.new.pool s.sides.items
    c.lose_at.new.sides.items s.servers.items (joined s.queue.tx s.queue.pacer) c.self.invariant.0
    (undue c.args.self.now) seen c.args.i idle c.lose_at.result h broken)
    (HandsBackIf c.args.i c.lose_at.result) (lose-handed s.pool c.lose_at.new.pool s.sides.items
    c.lose_at.new.sides.items s.servers.items (joined s.queue.tx s.queue.pacer) c.self.invariant.0
    (undue c.args.self.now) seen c.args.i idle c.lose_at.result h broken) refl refl
