use Rattle.std.proofs.Common.{◌≡◌, sym, ap, ◌∙◌}
use Rattle.std.specs.List.{list_any}
use Rattle.rpc_base.specs.declared.owner.Owner.TheVariants.{Ask}
use Rattle.rpc_laws.specs.Queues.{is_queued}
use Rattle.session_ends.specs.declared.side.Side.{Side}
use Rattle.session_ends.specs.Joined.{joined}
use Rattle.session_store.specs.Joined.{undue}
use Rattle.session_store.proofs.FlushLemmas.{there-at}
use Rattle.session_ends.proofs.ListLemmas.{got-same}
use Rattle.session_store.proofs.ReplyLemmas.{unconnected-clients, heard-clients, heard-kept}
use Rattle.session_store.proofs.ReplyLemmas.{heard-places, heard-servers, other-clients}
use Rattle.session_store.proofs.ReplyLemmas.{peer-differs, peer-same, seen-unheld, seen-waits}
use Rattle.session_store.proofs.ReplyLemmas.{seen-windows, heard-handed}
use Rattle.session_store.proofs.StageLemmas.{connected-stage}
use Rattle.session_store.proofs.StoreLemmas.{connected-at}
use Rattle.session_store.proofs.UndueLemmas.{flat, queued-undue, windows-undue}
use Rattle.session_store.proofs.ShareLemmas.{clients-kept, replies-kept}
use Rattle.session_store.proofs.ChangesLemmas.{changes-calls}
use Rattle.session_store.specs.Hearing.{RepliesAt}
use Rattle.session_store.specs.Handing.{HandsBackIf, ended_by}
use Rattle.std.proofs.Common.{refl}
use Rattle.session_store.proofs.RoomLemmas.{room-stays}
use Rattle.session_store.proofs.store.Store.on_reply.Goals as goal

pub heard_at-requires-clause-unheld : goal.heard_at-requires-clause-unheld
heard_at-requires-clause-unheld c =
    let s = c.self.inside in
    seen-unheld s.pool s.sides.items s.servers.items (joined s.queue.tx s.queue.pacer) (undue c.args.self.now)
    (flat c.self.inside.pool c.self.inside.sides.items c.self.inside.servers.items c.self.inside.queue.tx
    c.self.inside.queue.pacer c.args.self.now c.self.view_is) c.args.i
    c.args.head.now c.is_waiting-is_waiting.result c.self.invariant.0
    (windows-undue c.args.self.now.clients c.args.self.now.queued c.requires.windows)
    (c.is_waiting-is_waiting.ensures ∙ sym (queued-undue (Ask c.args.i c.args.head.now.request)
    c.args.head.now.number c.args.self.now.queued) ∙ seen-waits s.pool s.sides.items
    s.servers.items (joined s.queue.tx s.queue.pacer)
    (undue c.args.self.now) (flat c.self.inside.pool c.self.inside.sides.items
    c.self.inside.servers.items c.self.inside.queue.tx c.self.inside.queue.pacer c.args.self.now
    c.self.view_is) c.args.i c.args.head.now.request c.args.head.now.number)

pub invariant_of-self : goal.invariant_of-self
invariant_of-self c =
    let s = c.self.inside in
    let h = c.heard_at.ensures.replies in
    let connected = connected-at s.sides.items c.args.i c.index.result.now h.side c.index.ensures
    h.at (sym c.is_connected.ensures ∙ c.if-not-is_connected.false) in
    let windows = seen-windows s.pool s.sides.items s.servers.items (joined s.queue.tx s.queue.pacer)
    (undue c.args.self.now) (flat c.self.inside.pool c.self.inside.sides.items
    c.self.inside.servers.items c.self.inside.queue.tx c.self.inside.queue.pacer c.args.self.now
    c.self.view_is) c.args.i (windows-undue c.args.self.now.clients c.args.self.now.queued
    c.requires.windows) in
    let same = c.index-2.ensures ∙ got-same s.sides.items c.args.i h.side c.index-2.result.now h.at in
    let peer : c.args.peer ≡ h.side.peer =
    peer-same c.args.peer c.index-2.result.now.peer (sym c.if-ne.false ∙ c.ne.ensures)
    ∙ ap (λ (x : Side). x.peer) same in
    let waits = c.is_waiting-is_waiting.ensures ∙ sym
    (queued-undue (Ask c.args.i c.args.head.now.request) c.args.head.now.number
    c.args.self.now.queued) ∙ seen-waits s.pool s.sides.items s.servers.items
    (joined s.queue.tx s.queue.pacer) (undue c.args.self.now)
    (flat c.self.inside.pool c.self.inside.sides.items c.self.inside.servers.items
    c.self.inside.queue.tx c.self.inside.queue.pacer c.args.self.now c.self.view_is)
    c.args.i c.args.head.now.request c.args.head.now.number in (
      heard-kept s.pool c.heard_at.new.pool s.sides.items c.heard_at.new.sides.items s.servers.items
          (joined s.queue.tx s.queue.pacer) c.args.i c.args.now c.args.head.now c.args.body.now c.is_waiting-is_waiting.result
          c.heard_at.result c.self.invariant.0 h connected c.requires.session windows waits,
      c.self.invariant.1,
      clients-kept s.shares s.pool c.heard_at.new.pool s.sides.items c.heard_at.new.sides.items
          s.servers.items (replies-kept c.args.i c.args.now c.args.peer c.args.head.now
          c.args.body.now _ c.heard_at.result _ _ (heard-clients s.pool
          c.heard_at.new.pool s.sides.items c.heard_at.new.sides.items s.servers.items
          (joined s.queue.tx s.queue.pacer) c.args.i c.args.now c.args.head.now c.args.body.now
          c.is_waiting-is_waiting.result c.heard_at.result c.self.invariant.0 h connected
          c.requires.session windows waits c.args.peer peer)) c.self.invariant.2,
      c.self.invariant.3,
      room-stays refl c.heard_at.ensures.room refl refl c.self.invariant.4,
    )

pub returns-then-not-is_connected : goal.returns-then-not-is_connected
returns-then-not-is_connected c =
    let s = c.self.inside in
    let there = there-at s.pool s.sides.items s.servers.items (joined s.queue.tx s.queue.pacer)
    c.self.invariant.0 (undue c.args.self.now)
    (flat c.self.inside.pool c.self.inside.sides.items c.self.inside.servers.items
    c.self.inside.queue.tx c.self.inside.queue.pacer c.args.self.now c.self.view_is) c.args.i
    c.index.result.now c.requires.known c.index.ensures in
    record {
      clients = rw (← c.self.view_is) (unconnected-clients s.pool s.sides.items c.args.i c.args.now c.args.peer
          c.args.head.now c.args.body.now _ c.index.result.now there (sym c.is_connected.ensures ∙ c.if-not-is_connected.true));
      servers = rw (← c.self.view_is) refl;
      queued = rw (← c.self.view_is) refl;
      size = rw (← c.self.view_is) refl;
      places = rw (← c.self.view_is) refl;
      handed = rw (← c.self.view_is) refl;
    }

pub returns-then-ne : goal.returns-then-ne
returns-then-ne c =
    let s = c.self.inside in
    let there = there-at s.pool s.sides.items s.servers.items (joined s.queue.tx s.queue.pacer)
    c.self.invariant.0 (undue c.args.self.now)
    (flat c.self.inside.pool c.self.inside.sides.items c.self.inside.servers.items
    c.self.inside.queue.tx c.self.inside.queue.pacer c.args.self.now c.self.view_is) c.args.i
    c.index.result.now c.requires.known c.index.ensures in
    let differs = peer-differs c.args.peer c.index-2.result.now.peer (sym c.if-ne.true ∙ c.ne.ensures) in
    let same = c.index-2.ensures ∙ got-same s.sides.items c.args.i c.index.result.now c.index-2.result.now there in
    let connected = connected-stage c.index.result.now.stage
    (sym c.is_connected.ensures ∙ c.if-not-is_connected.false) in
    record {
      clients = rw (← c.self.view_is) (other-clients s.pool s.sides.items c.args.i c.args.now c.args.peer
          c.args.head.now c.args.body.now _ c.index.result.now there connected
          (λ t. differs (t ∙ ap (λ (x : Side). x.peer) (sym same))));
      servers = rw (← c.self.view_is) refl;
      queued = rw (← c.self.view_is) refl;
      size = rw (← c.self.view_is) refl;
      places = rw (← c.self.view_is) refl;
      handed = rw (← c.self.view_is) refl;
    }

pub returns : goal.returns
returns c =
    let s = c.self.inside in
    let h = c.heard_at.ensures.replies in
    let connected = connected-at s.sides.items c.args.i c.index.result.now h.side c.index.ensures
    h.at (sym c.is_connected.ensures ∙ c.if-not-is_connected.false) in
    let windows = seen-windows s.pool s.sides.items s.servers.items (joined s.queue.tx s.queue.pacer)
    (undue c.args.self.now) (flat c.self.inside.pool c.self.inside.sides.items
    c.self.inside.servers.items c.self.inside.queue.tx c.self.inside.queue.pacer c.args.self.now
    c.self.view_is) c.args.i (windows-undue c.args.self.now.clients c.args.self.now.queued
    c.requires.windows) in
    let same = c.index-2.ensures ∙ got-same s.sides.items c.args.i h.side c.index-2.result.now h.at in
    let peer : c.args.peer ≡ h.side.peer =
    peer-same c.args.peer c.index-2.result.now.peer (sym c.if-ne.false ∙ c.ne.ensures)
    ∙ ap (λ (x : Side). x.peer) same in
    let waits = c.is_waiting-is_waiting.ensures ∙ sym
    (queued-undue (Ask c.args.i c.args.head.now.request) c.args.head.now.number
    c.args.self.now.queued) ∙ seen-waits s.pool s.sides.items s.servers.items
    (joined s.queue.tx s.queue.pacer) (undue c.args.self.now)
    (flat c.self.inside.pool c.self.inside.sides.items c.self.inside.servers.items
    c.self.inside.queue.tx c.self.inside.queue.pacer c.args.self.now c.self.view_is)
    c.args.i c.args.head.now.request c.args.head.now.number in
    let seen : c.is_waiting-is_waiting.result
    ≡ list_any (is_queued (Ask c.args.head.now.session c.args.head.now.request)
    c.args.head.now.number) c.args.self.now.queued = c.is_waiting-is_waiting.ensures
    ∙ ap (λ n. list_any (is_queued (Ask n c.args.head.now.request) c.args.head.now.number)
    c.args.self.now.queued) (sym c.requires.session) in
    let told = rw seen at (heard-clients s.pool c.heard_at.new.pool s.sides.items
    c.heard_at.new.sides.items s.servers.items (joined s.queue.tx s.queue.pacer) c.args.i c.args.now
    c.args.head.now c.args.body.now c.is_waiting-is_waiting.result c.heard_at.result
    c.self.invariant.0 h connected c.requires.session windows waits c.args.peer peer) in
    changes-calls s.pool c.heard_at.new.pool s.sides.items c.heard_at.new.sides.items
    s.servers.items s.servers.items s.queue.tx s.queue.tx s.queue.pacer s.queue.pacer c.args.self.now c.self.view_is
    (RepliesAt c.args.i c.args.now c.args.peer c.args.head.now c.args.body.now
    (list_any (is_queued (Ask c.args.head.now.session c.args.head.now.request)
    c.args.head.now.number) c.args.self.now.queued) c.heard_at.result)
    (rw (ap (λ v. v.clients) (sym c.self.view_is)) told)
    (heard-servers s.pool c.heard_at.new.pool s.sides.items
    c.heard_at.new.sides.items s.servers.items (joined s.queue.tx s.queue.pacer) c.args.i c.args.now
    c.args.head.now c.args.body.now c.is_waiting-is_waiting.result c.heard_at.result
    c.self.invariant.0 h connected c.requires.session windows waits)
    (heard-places s.pool c.heard_at.new.pool s.sides.items
    c.heard_at.new.sides.items s.servers.items (joined s.queue.tx s.queue.pacer) c.args.i c.args.now
    c.args.head.now c.args.body.now c.is_waiting-is_waiting.result c.heard_at.result
    c.self.invariant.0 h connected c.requires.session windows waits)
    (HandsBackIf c.args.i (ended_by c.heard_at.result)) (heard-handed s.pool c.heard_at.new.pool s.sides.items
    c.heard_at.new.sides.items s.servers.items (joined s.queue.tx s.queue.pacer) c.args.i c.args.now
    c.args.head.now c.args.body.now c.is_waiting-is_waiting.result c.heard_at.result
    c.self.invariant.0 h connected c.requires.session windows waits) refl refl
