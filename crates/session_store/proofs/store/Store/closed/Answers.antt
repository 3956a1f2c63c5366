use Rattle.session_ends.specs.Joined.{joined}
use Rattle.session_store.specs.Joined.{undue}
use Rattle.session_store.proofs.FlushLemmas.{there-at}
use Rattle.session_store.proofs.MovedLemmas.{moved-closed}
use Rattle.session_store.proofs.UndueLemmas.{flat}
use Rattle.rpc_base.specs.declared.state.SessionState.{SessionState}
use Rattle.std.proofs.Common.{refl, ◌∙◌}
use Rattle.session_ends.specs.declared.stage.Stage.TheVariants.{Closed}
use Rattle.session_store.proofs.ShareLemmas.{live-in, share-ended, share-within}
use Rattle.session_store.proofs.ChangesLemmas.{changes-clients}
use Rattle.session_store.specs.Changes.{ChangesAt}
use Rattle.rpc_laws.specs.Sessions.{comes_to}
use Rattle.session_store.proofs.store.Store.closed.Goals as goal

pub overflow_sub-self : goal.overflow_sub-self
overflow_sub-self c =
    let s = c.self.inside in
    let seen = flat s.pool s.sides.items s.servers.items s.queue.tx s.queue.pacer c.args.self.now c.self.view_is in
    let at = there-at s.pool s.sides.items s.servers.items (joined s.queue.tx s.queue.pacer) c.self.invariant.0
    (undue c.args.self.now) seen c.args.i c.index_mut-side.result.now c.requires.known
    c.index_mut-side.ensures.value in
    share-within s.shares s.pool s.sides.items s.servers.items c.self.invariant.2 c.args.i
    c.index_mut-side.result.now at s.queue.tx s.queue.pacer c.args.self.now c.self.view_is
    (live-in SessionState.Closing refl _ c.requires.closing) c.from.result
    (c.from.ensures ∙ c.limit.ensures)

pub invariant_of-self : goal.invariant_of-self
invariant_of-self c =
    let s = c.self.inside in
    let seen = flat s.pool s.sides.items s.servers.items s.queue.tx s.queue.pacer c.args.self.now c.self.view_is in
    let at = there-at s.pool s.sides.items s.servers.items (joined s.queue.tx s.queue.pacer) c.self.invariant.0
    (undue c.args.self.now) seen c.args.i c.index_mut-side.result.now c.requires.known
    c.index_mut-side.ensures.value in
    let moved = moved-closed s.pool s.sides.items s.servers.items (joined s.queue.tx s.queue.pacer) c.self.invariant.0
    (undue c.args.self.now) seen c.args.i c.index_mut-side.result.now at c.requires.closing in (
      moved.kept,
      c.self.invariant.1,
      share-ended s.shares s.pool s.sides.items s.servers.items c.self.invariant.2 c.args.i
          c.index_mut-side.result.now at s.queue.tx s.queue.pacer c.args.self.now c.self.view_is
          (live-in SessionState.Closing refl _ c.requires.closing)
          c.from.result (c.from.ensures ∙ c.limit.ensures)
          (record c.index_mut-side.result.now { stage = Closed }) refl,
      c.self.invariant.3,
      c.self.invariant.4,
    )

pub returns : goal.returns
returns c =
    let s = c.self.inside in
    let seen = flat s.pool s.sides.items s.servers.items s.queue.tx s.queue.pacer c.args.self.now c.self.view_is in
    let at = there-at s.pool s.sides.items s.servers.items (joined s.queue.tx s.queue.pacer) c.self.invariant.0
    (undue c.args.self.now) seen c.args.i c.index_mut-side.result.now c.requires.known
    c.index_mut-side.ensures.value in
    let moved = moved-closed s.pool s.sides.items s.servers.items (joined s.queue.tx s.queue.pacer) c.self.invariant.0
    (undue c.args.self.now) seen c.args.i c.index_mut-side.result.now at c.requires.closing in
    changes-clients s.pool s.pool s.sides.items _ s.servers.items s.servers.items s.queue.tx s.queue.tx s.queue.pacer
    s.queue.pacer c.args.self.now c.self.view_is (ChangesAt c.args.i (comes_to SessionState.Closed)) moved.clients refl
    moved.places moved.handed refl refl
