use Rattle.session_ends.specs.Joined.{joined}
use Rattle.session_store.specs.Joined.{undue}
use Rattle.session_store.proofs.FlushLemmas.{there-at}
use Rattle.session_store.proofs.MovedLemmas.{moved-connected}
use Rattle.session_store.proofs.UndueLemmas.{flat}
use Rattle.rpc_base.specs.declared.state.SessionState.{SessionState}
use Rattle.std.proofs.Common.{refl}
use Rattle.session_store.proofs.ShareLemmas.{live-in, share-stays}
use Rattle.session_store.proofs.ChangesLemmas.{changes-clients}
use Rattle.session_store.specs.Changes.{ChangesAt}
use Rattle.rpc_laws.specs.Sessions.{connects}
use Rattle.session_store.proofs.store.Store.connected.Goals as goal

pub invariant_of-self : goal.invariant_of-self
invariant_of-self c =
    let s = c.self.inside in
    let seen = flat s.pool s.sides.items s.servers.items s.queue.tx s.queue.pacer c.args.self.now c.self.view_is in
    let at = there-at s.pool s.sides.items s.servers.items (joined s.queue.tx s.queue.pacer) c.self.invariant.0
    (undue c.args.self.now) seen c.args.i c.index_mut-side.result.now c.requires.known
    c.index_mut-side.ensures.value in
    let moved = moved-connected s.pool s.sides.items s.servers.items (joined s.queue.tx s.queue.pacer) c.self.invariant.0
    (undue c.args.self.now) seen c.args.i c.index_mut-side.result.now at
    c.args.server c.args.life c.connected.new.self c.connected.ensures c.requires.connecting in (
      moved.kept,
      c.self.invariant.1,
      share-stays s.shares s.pool s.sides.items s.servers.items c.self.invariant.2 c.args.i
          c.index_mut-side.result.now at s.queue.tx s.queue.pacer c.args.self.now c.self.view_is
          (live-in SessionState.Connecting refl _ c.requires.connecting) _ (rw c.connected.ensures refl),
      c.self.invariant.3,
      c.self.invariant.4,
    )

pub returns : goal.returns
returns c =
    let s = c.self.inside in
    let seen = flat s.pool s.sides.items s.servers.items s.queue.tx s.queue.pacer c.args.self.now c.self.view_is in
    let at = there-at s.pool s.sides.items s.servers.items (joined s.queue.tx s.queue.pacer) c.self.invariant.0
    (undue c.args.self.now) seen c.args.i c.index_mut-side.result.now c.requires.known
    c.index_mut-side.ensures.value in
    let moved = moved-connected s.pool s.sides.items s.servers.items (joined s.queue.tx s.queue.pacer) c.self.invariant.0
    (undue c.args.self.now) seen c.args.i c.index_mut-side.result.now at c.args.server c.args.life c.connected.new.self
    c.connected.ensures c.requires.connecting in
    changes-clients s.pool s.pool s.sides.items _ s.servers.items s.servers.items s.queue.tx s.queue.tx s.queue.pacer
    s.queue.pacer c.args.self.now c.self.view_is (ChangesAt c.args.i (connects c.args.server c.args.life)) moved.clients refl
    moved.places moved.handed refl refl
