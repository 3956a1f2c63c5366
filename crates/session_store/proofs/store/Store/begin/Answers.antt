use Rattle.std.proofs.Common.{sym, ◌∙◌}
use Rattle.session_ends.specs.Joined.{joined}
use Rattle.session_store.specs.Joined.{undue}
use Rattle.session_store.proofs.StoreLemmas.{clients-begin, connected-at, kept-begin, servers-begin}
use Rattle.session_store.proofs.StoreLemmas.{size-begin, two-spare, handed-begin}
use Rattle.session_store.proofs.UndueLemmas.{flat}
use Rattle.session_store.proofs.ShareLemmas.{begins-kept, clients-kept}
use Rattle.session_store.proofs.ChangesLemmas.{changes-clients}
use Rattle.session_store.specs.Changes.{BeginsAt}
use Rattle.std.proofs.Common.{refl}
use Rattle.session_store.proofs.RoomLemmas.{room-stays}
use Rattle.session_store.proofs.store.Store.begin.Goals as goal

pub begin_at-requires-clause-spare : goal.begin_at-requires-clause-spare
begin_at-requires-clause-spare c =
    two-spare c.self.inside.pool c.self.inside.sides.items c.self.inside.servers.items
    (joined c.self.inside.queue.tx c.self.inside.queue.pacer) (undue c.args.self.now) c.self.invariant.0
    (flat c.self.inside.pool c.self.inside.sides.items c.self.inside.servers.items
    c.self.inside.queue.tx c.self.inside.queue.pacer c.args.self.now c.self.view_is) c.requires.room

pub invariant_of-self : goal.invariant_of-self
invariant_of-self c =
    let h = c.begin_at.ensures.begins in
    let connected = connected-at c.self.inside.sides.items c.args.i c.index.result.now h.side
    c.index.ensures h.at (sym c.is_connected.ensures ∙ c.if-not-is_connected.false) in (
      kept-begin c.self.inside.pool c.begin_at.new.pool c.self.inside.sides.items
          c.begin_at.new.sides.items c.self.inside.servers.items (joined c.self.inside.queue.tx c.self.inside.queue.pacer) c.args.i
          c.self.invariant.0 c.begin_at.result h connected,
      c.self.invariant.1,
      clients-kept c.self.inside.shares c.self.inside.pool c.begin_at.new.pool
          c.self.inside.sides.items c.begin_at.new.sides.items c.self.inside.servers.items
          (begins-kept c.args.i c.begin_at.result _ _ (clients-begin c.self.inside.pool
          c.begin_at.new.pool c.self.inside.sides.items c.begin_at.new.sides.items
          c.self.inside.servers.items (joined c.self.inside.queue.tx c.self.inside.queue.pacer) c.args.i
          c.self.invariant.0 c.begin_at.result h connected)) c.self.invariant.2,
      c.self.invariant.3,
      room-stays refl c.begin_at.ensures.room refl refl c.self.invariant.4,
    )

pub returns : goal.returns
returns c =
    let s = c.self.inside in
    let h = c.begin_at.ensures.begins in
    let connected = connected-at s.sides.items c.args.i c.index.result.now h.side
    c.index.ensures h.at (sym c.is_connected.ensures ∙ c.if-not-is_connected.false) in
    changes-clients s.pool c.begin_at.new.pool s.sides.items c.begin_at.new.sides.items
    s.servers.items s.servers.items s.queue.tx s.queue.tx s.queue.pacer s.queue.pacer c.args.self.now c.self.view_is
    (BeginsAt c.args.i c.begin_at.result) (rw (← c.self.view_is) (clients-begin s.pool c.begin_at.new.pool s.sides.items
    c.begin_at.new.sides.items s.servers.items (joined s.queue.tx s.queue.pacer) c.args.i c.self.invariant.0
    c.begin_at.result h connected))
    (servers-begin s.pool c.begin_at.new.pool s.sides.items
    c.begin_at.new.sides.items s.servers.items (joined s.queue.tx s.queue.pacer) c.args.i c.self.invariant.0
    c.begin_at.result h connected)
    (size-begin s.pool c.begin_at.new.pool s.sides.items
    c.begin_at.new.sides.items s.servers.items (joined s.queue.tx s.queue.pacer) c.args.i c.self.invariant.0
    c.begin_at.result h connected)
    (handed-begin s.pool c.begin_at.new.pool s.sides.items
    c.begin_at.new.sides.items s.servers.items (joined s.queue.tx s.queue.pacer) c.args.i c.self.invariant.0
    c.begin_at.result h connected) refl refl
