use Rattle.session_ends.specs.Joined.{joined}
use Rattle.session_store.specs.Joined.{undue}
use Rattle.session_store.proofs.RollLemmas.{kept-roll, places-roll, roll-active-at, roll-few-at}
use Rattle.session_store.proofs.RollLemmas.{roll-idle-at, rolled-clients, handed-roll}
use Rattle.session_store.proofs.UndueLemmas.{flat, may-undue}
use Rattle.std.proofs.Common.{sym, ap, ◌∙◌}
use Rattle.std.specs.Prelude.{map}
use Rattle.rpc_laws.specs.Groups.{live_credits}
use Rattle.session_store.specs.Sides.{Shown}
use Rattle.session_store.proofs.ShareLemmas.{clients-kept, rolls-kept}
use Rattle.session_store.proofs.ChangesLemmas.{changes-clients}
use Rattle.session_store.specs.Changes.{RollsAt}
use Rattle.std.proofs.Common.{refl}
use Rattle.session_store.proofs.RoomLemmas.{room-stays}
use Rattle.session_store.proofs.store.Store.roll.Goals as goal

pub roll_at-requires-clause-active : goal.roll_at-requires-clause-active
roll_at-requires-clause-active c =
    roll-active-at c.self.inside.pool c.self.inside.sides.items c.self.inside.servers.items
    (joined c.self.inside.queue.tx c.self.inside.queue.pacer) c.args.i c.args.call (undue c.args.self.now)
    (flat c.self.inside.pool c.self.inside.sides.items c.self.inside.servers.items
    c.self.inside.queue.tx c.self.inside.queue.pacer c.args.self.now c.self.view_is)
    (may-undue c.args.i c.args.call c.args.self.now c.requires.may)

pub roll_at-requires-clause-few : goal.roll_at-requires-clause-few
roll_at-requires-clause-few c =
    roll-few-at c.self.inside.pool c.self.inside.sides.items c.self.inside.servers.items
    (joined c.self.inside.queue.tx c.self.inside.queue.pacer) c.args.i c.args.call (undue c.args.self.now)
    (flat c.self.inside.pool c.self.inside.sides.items c.self.inside.servers.items
    c.self.inside.queue.tx c.self.inside.queue.pacer c.args.self.now c.self.view_is)
    (may-undue c.args.i c.args.call c.args.self.now c.requires.may)

pub roll_at-requires-clause-idle : goal.roll_at-requires-clause-idle
roll_at-requires-clause-idle c =
    roll-idle-at c.self.inside.pool c.self.inside.sides.items c.self.inside.servers.items
    (joined c.self.inside.queue.tx c.self.inside.queue.pacer) c.args.i c.args.call (undue c.args.self.now)
    (flat c.self.inside.pool c.self.inside.sides.items c.self.inside.servers.items
    c.self.inside.queue.tx c.self.inside.queue.pacer c.args.self.now c.self.view_is)
    (may-undue c.args.i c.args.call c.args.self.now c.requires.may)
    c.self.invariant.0

pub invariant_of-self : goal.invariant_of-self
invariant_of-self c = (
  kept-roll c.self.inside.pool c.self.inside.sides.items c.self.inside.servers.items
      (joined c.self.inside.queue.tx c.self.inside.queue.pacer) c.args.i c.args.call (undue c.args.self.now)
      (flat c.self.inside.pool c.self.inside.sides.items c.self.inside.servers.items
      c.self.inside.queue.tx c.self.inside.queue.pacer c.args.self.now c.self.view_is)
      (may-undue c.args.i c.args.call c.args.self.now c.requires.may)
      c.roll_at.new.sides.items c.self.invariant.0 c.roll_at.ensures.rolls,
  c.self.invariant.1,
  clients-kept c.self.inside.shares c.self.inside.pool c.self.inside.pool
      c.self.inside.sides.items c.roll_at.new.sides.items c.self.inside.servers.items
      (rolls-kept c.args.i c.args.call _ _ (rolled-clients c.self.inside.pool
      c.self.inside.sides.items c.self.inside.servers.items
      (joined c.self.inside.queue.tx c.self.inside.queue.pacer) c.args.i c.args.call (undue c.args.self.now)
      (flat c.self.inside.pool c.self.inside.sides.items c.self.inside.servers.items
      c.self.inside.queue.tx c.self.inside.queue.pacer c.args.self.now c.self.view_is)
      (may-undue c.args.i c.args.call c.args.self.now c.requires.may)
      c.roll_at.new.sides.items c.self.invariant.0 c.roll_at.ensures.rolls)
      ∙ ap (λ (v : Shown). map live_credits v.clients) (sym c.self.view_is))
      c.self.invariant.2,
  c.self.invariant.3,
  room-stays refl c.roll_at.ensures.room refl refl c.self.invariant.4,
)

pub returns : goal.returns
returns c =
    let s = c.self.inside in
    let seen = flat s.pool s.sides.items s.servers.items s.queue.tx s.queue.pacer c.args.self.now c.self.view_is in
    let may = may-undue c.args.i c.args.call c.args.self.now c.requires.may in
    changes-clients s.pool s.pool s.sides.items c.roll_at.new.sides.items s.servers.items
    s.servers.items s.queue.tx s.queue.tx s.queue.pacer s.queue.pacer c.args.self.now c.self.view_is
    (RollsAt c.args.i c.args.call) (rolled-clients s.pool s.sides.items s.servers.items (joined s.queue.tx s.queue.pacer) c.args.i c.args.call
    (undue c.args.self.now) seen may c.roll_at.new.sides.items c.self.invariant.0
    c.roll_at.ensures.rolls)
    refl (places-roll s.pool s.sides.items s.servers.items (joined s.queue.tx s.queue.pacer) c.args.i c.args.call
    (undue c.args.self.now) seen may c.roll_at.new.sides.items c.self.invariant.0
    c.roll_at.ensures.rolls)
    (handed-roll s.pool s.sides.items s.servers.items (joined s.queue.tx s.queue.pacer) c.args.i c.args.call
    (undue c.args.self.now) seen may c.roll_at.new.sides.items c.self.invariant.0
    c.roll_at.ensures.rolls) refl refl
