use Rattle.session_ends.specs.Joined.{joined}
use Rattle.session_store.specs.Joined.{undue}
use Rattle.session_store.proofs.FlushLemmas.{there-at}
use Rattle.session_store.proofs.LoseLemmas.{breaks-clients, breaks-handed, breaks-kept}
use Rattle.session_store.proofs.LoseLemmas.{breaks-places}
use Rattle.session_store.proofs.UndueLemmas.{flat, idle-undue}
use Rattle.std.proofs.Common.{refl, ◌∙◌}
use Rattle.session_ends.specs.declared.stage.Stage.TheVariants.{Broken}
use Rattle.session_store.proofs.ShareLemmas.{live-connected, share-ended, share-within}
use Rattle.session_store.proofs.ChangesLemmas.{changes-clients}
use Rattle.session_store.specs.Changes.{ChangesAt}
use Rattle.rpc_laws.specs.Sessions.{breaks}
use Rattle.session_store.proofs.store.Store.lose_peer.Goals as goal

pub overflow_sub-self : goal.overflow_sub-self
overflow_sub-self c =
    let s = c.self.inside in
    let at = there-at s.pool s.sides.items s.servers.items (joined s.queue.tx s.queue.pacer) c.self.invariant.0
    (undue c.args.self.now) (flat s.pool s.sides.items s.servers.items s.queue.tx s.queue.pacer
    c.args.self.now c.self.view_is) c.args.i c.index_mut-side.result.now c.requires.known
    c.index_mut-side.ensures.value in
    share-within s.shares s.pool s.sides.items s.servers.items c.self.invariant.2 c.args.i
    c.index_mut-side.result.now at s.queue.tx s.queue.pacer c.args.self.now c.self.view_is
    (live-connected _ c.requires.connected) c.from.result
    (c.from.ensures ∙ c.limit.ensures)

pub invariant_of-self : goal.invariant_of-self
invariant_of-self c =
    let s = c.self.inside in
    let at = there-at s.pool s.sides.items s.servers.items (joined s.queue.tx s.queue.pacer) c.self.invariant.0
    (undue c.args.self.now) (flat c.self.inside.pool c.self.inside.sides.items
    c.self.inside.servers.items c.self.inside.queue.tx c.self.inside.queue.pacer c.args.self.now
    c.self.view_is) c.args.i c.index_mut-side.result.now c.requires.known
    c.index_mut-side.ensures.value in (
      breaks-kept s.pool s.sides.items s.servers.items (joined s.queue.tx s.queue.pacer) c.self.invariant.0
          (undue c.args.self.now) (flat c.self.inside.pool c.self.inside.sides.items
          c.self.inside.servers.items c.self.inside.queue.tx c.self.inside.queue.pacer c.args.self.now
          c.self.view_is) c.args.i c.index_mut-side.result.now at
          (idle-undue c.args.i c.args.self.now.queued c.requires.idle) c.requires.connected,
      c.self.invariant.1,
      share-ended s.shares s.pool s.sides.items s.servers.items c.self.invariant.2 c.args.i
          c.index_mut-side.result.now at s.queue.tx s.queue.pacer c.args.self.now c.self.view_is
          (live-connected _ c.requires.connected)
          c.from.result (c.from.ensures ∙ c.limit.ensures)
          (record c.index_mut-side.result.now { stage = Broken }) refl,
      c.self.invariant.3,
      c.self.invariant.4,
    )

pub returns : goal.returns
returns c =
    let s = c.self.inside in
    let seen = flat s.pool s.sides.items s.servers.items s.queue.tx s.queue.pacer c.args.self.now c.self.view_is in
    let at = there-at s.pool s.sides.items s.servers.items (joined s.queue.tx s.queue.pacer) c.self.invariant.0
    (undue c.args.self.now) seen c.args.i c.index_mut-side.result.now c.requires.known
    c.index_mut-side.ensures.value in
    let idle = idle-undue c.args.i c.args.self.now.queued c.requires.idle in
    changes-clients s.pool s.pool s.sides.items _ s.servers.items s.servers.items s.queue.tx s.queue.tx s.queue.pacer
    s.queue.pacer c.args.self.now c.self.view_is (ChangesAt c.args.i breaks)
    (breaks-clients s.pool s.sides.items s.servers.items (joined s.queue.tx s.queue.pacer) c.self.invariant.0
    (undue c.args.self.now) seen c.args.i c.index_mut-side.result.now at idle c.requires.connected)
    refl (breaks-places s.pool s.sides.items s.servers.items (joined s.queue.tx s.queue.pacer)
    c.self.invariant.0 (undue c.args.self.now) seen c.args.i c.index_mut-side.result.now at idle
    c.requires.connected) (breaks-handed s.pool s.sides.items s.servers.items
    (joined s.queue.tx s.queue.pacer) c.self.invariant.0 (undue c.args.self.now) seen c.args.i
    c.index_mut-side.result.now at idle c.requires.connected) refl refl
