use Rattle.session_ends.specs.Joined.{joined}
use Rattle.session_store.specs.Joined.{undue}
use Rattle.session_store.proofs.AskLemmas.{calls-ask, clients-ask, has-turns, kept-ask}
use Rattle.session_store.proofs.UndueLemmas.{flat}
use Rattle.std.proofs.Common.{refl, sym, ap}
use Rattle.rpc_laws.specs.Sessions.{asks}
use Rattle.session_store.specs.Effects.{asking_in}
use Rattle.session_store.specs.Sides.{Shown}
use Rattle.session_store.proofs.ShareLemmas.{asks-kept, clients-kept, unchanged-shown}
use Rattle.session_store.proofs.RoomLemmas.{room-stays}
use Rattle.session_store.proofs.store.Store.ask.Goals as goal

pub enqueue_at-requires-clause-turns : goal.enqueue_at-requires-clause-turns
enqueue_at-requires-clause-turns c =
    has-turns c.self.inside.pool c.self.inside.sides.items c.self.inside.servers.items
    (joined c.self.inside.queue.tx c.self.inside.queue.pacer) c.args.i (undue c.args.self.now)
    (flat c.self.inside.pool c.self.inside.sides.items c.self.inside.servers.items
    c.self.inside.queue.tx c.self.inside.queue.pacer c.args.self.now c.self.view_is) c.requires.connected

pub invariant_of-self : goal.invariant_of-self
invariant_of-self c = (
  kept-ask c.self.inside.pool c.self.inside.sides.items c.self.inside.servers.items
      (joined c.self.inside.queue.tx c.self.inside.queue.pacer) c.args.i (undue c.args.self.now)
      (flat c.self.inside.pool c.self.inside.sides.items c.self.inside.servers.items
      c.self.inside.queue.tx c.self.inside.queue.pacer c.args.self.now c.self.view_is) c.requires.connected
      c.args.waiting
      c.enqueue_at.new.sides.items c.enqueue_at.result c.self.invariant.0 c.requires.above
      c.enqueue_at.ensures.waits c.enqueue_at.ensures.unchanged,
  c.self.invariant.1,
  clients-kept c.self.inside.shares c.self.inside.pool c.self.inside.pool
      c.self.inside.sides.items c.enqueue_at.new.sides.items c.self.inside.servers.items
      (asks-kept c.args.i (asks (asking_in c.args.waiting)) _ _ c.enqueue_at.result (λ x. refl)
      (rw (ap (λ (v : Shown). v.clients) (sym c.self.view_is)) at (clients-ask c.self.inside.pool
      c.self.inside.sides.items c.self.inside.servers.items
      (joined c.self.inside.queue.tx c.self.inside.queue.pacer) c.args.i (undue c.args.self.now)
      (flat c.self.inside.pool c.self.inside.sides.items c.self.inside.servers.items
      c.self.inside.queue.tx c.self.inside.queue.pacer c.args.self.now c.self.view_is) c.requires.connected
      c.args.waiting
      c.enqueue_at.new.sides.items c.enqueue_at.result c.self.invariant.0 c.requires.above
      c.enqueue_at.ensures.waits)) (unchanged-shown c.self.inside.pool c.self.inside.sides.items
      c.enqueue_at.new.sides.items c.enqueue_at.result c.enqueue_at.ensures.unchanged))
      c.self.invariant.2,
  c.self.invariant.3,
  room-stays refl c.enqueue_at.ensures.room refl refl c.self.invariant.4,
)

pub returns-clause-asks : goal.returns-clause-asks
returns-clause-asks c =
    let s = c.self.inside in
    calls-ask s.pool s.sides.items c.enqueue_at.new.sides.items s.servers.items s.queue.tx s.queue.pacer
    c.args.self.now c.self.view_is c.args.i c.requires.connected c.args.waiting
    c.enqueue_at.result c.self.invariant.0 c.requires.above c.enqueue_at.ensures.waits
