use Rattle.std.proofs.Common.{sym, ◌∙◌}
use Rattle.rpc_base.specs.declared.owner.Owner.TheVariants.{Ask}
use Rattle.session_ends.specs.Joined.{joined}
use Rattle.session_store.specs.Joined.{undue}
use Rattle.session_store.proofs.FlushLemmas.{there-at}
use Rattle.session_store.proofs.LoseLemmas.{late-row, watched-active}
use Rattle.session_store.proofs.UndueLemmas.{flat, queued-undue, row-undue}
use Rattle.session_store.proofs.store.Store.late_row.Goals as goal

pub check-timer-requires : goal.check-timer-requires
check-timer-requires c =
    let s = c.self.inside in
    let at = there-at s.pool s.sides.items s.servers.items (joined s.queue.tx s.queue.pacer) c.self.invariant.0
    (undue c.args.self.now) (flat c.self.inside.pool c.self.inside.sides.items
    c.self.inside.servers.items c.self.inside.queue.tx c.self.inside.queue.pacer c.args.self.now
    c.self.view_is) c.args.i c.index.result.now c.requires.known c.index.ensures in
    record {
      active = watched-active s.pool s.sides.items s.servers.items (joined s.queue.tx s.queue.pacer)
          (undue c.args.self.now) (flat c.self.inside.pool c.self.inside.sides.items
          c.self.inside.servers.items c.self.inside.queue.tx c.self.inside.queue.pacer c.args.self.now
          c.self.view_is) c.args.i c.args.active.now c.requires.active c.index.result.now at;
    }

pub returns : goal.returns
returns c =
    let s = c.self.inside in
    let at = there-at s.pool s.sides.items s.servers.items (joined s.queue.tx s.queue.pacer) c.self.invariant.0
    (undue c.args.self.now) (flat c.self.inside.pool c.self.inside.sides.items
    c.self.inside.servers.items c.self.inside.queue.tx c.self.inside.queue.pacer c.args.self.now
    c.self.view_is) c.args.i c.index.result.now c.requires.known c.index.ensures in
    row-undue c.args.now c.args.timeout c.args.i c.args.active.now.call _ c.args.self.now
    (late-row s.pool s.sides.items s.servers.items (joined s.queue.tx s.queue.pacer) (undue c.args.self.now)
    (flat c.self.inside.pool c.self.inside.sides.items c.self.inside.servers.items c.self.inside.queue.tx
    c.self.inside.queue.pacer c.args.self.now c.self.view_is) c.args.i
    c.args.active.now c.requires.active c.index.result.now at c.args.now c.args.timeout
    c.is_waiting-is_waiting.result c.check-timer.result c.told_row.result
    (c.is_waiting-is_waiting.ensures ∙ sym (queued-undue (Ask c.args.i c.args.active.now.request)
    c.args.active.now.got c.args.self.now.queued)) c.check-timer.ensures.told
    c.told_row.ensures)
