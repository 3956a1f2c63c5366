use Rattle.std.proofs.Common.{refl}
use Rattle.session_ends.specs.Joined.{joined}
use Rattle.session_store.specs.Joined.{undue}
use Rattle.session_store.proofs.FlushLemmas.{there-at}
use Rattle.session_store.proofs.LoseLemmas.{quiet-row, watched-active}
use Rattle.session_store.proofs.UndueLemmas.{flat, row-undue}
use Rattle.session_store.proofs.store.Store.timer.Goals as goal

pub check-requires : goal.check-requires
check-requires c =
    let s = c.self.inside in
    let at = there-at s.pool s.sides.items s.servers.items (joined s.queue.tx s.queue.pacer) c.self.invariant.0
    (undue c.args.self.now) (flat c.self.inside.pool c.self.inside.sides.items
    c.self.inside.servers.items c.self.inside.queue.tx c.self.inside.queue.pacer c.args.self.now
    c.self.view_is) c.args.i c.index.result.now c.requires.known c.index.ensures in
    record {
      active = watched-active s.pool s.sides.items s.servers.items (joined s.queue.tx s.queue.pacer)
          (undue c.args.self.now) (flat c.self.inside.pool c.self.inside.sides.items
          c.self.inside.servers.items c.self.inside.queue.tx c.self.inside.queue.pacer c.args.self.now
          c.self.view_is) c.args.i c.args.active.now c.requires.active c.index.result.now at;
    }

pub returns-in-Quiet : goal.returns-in-Quiet
returns-in-Quiet c =
    let s = c.self.inside in
    let at = there-at s.pool s.sides.items s.servers.items (joined s.queue.tx s.queue.pacer) c.self.invariant.0
    (undue c.args.self.now) (flat c.self.inside.pool c.self.inside.sides.items
    c.self.inside.servers.items c.self.inside.queue.tx c.self.inside.queue.pacer c.args.self.now
    c.self.view_is) c.args.i c.index.result.now c.requires.known c.index.ensures in
    row-undue c.args.now c.args.timeout c.args.i c.args.active.now.call _ c.args.self.now
    (quiet-row s.pool s.sides.items s.servers.items (joined s.queue.tx s.queue.pacer) (undue c.args.self.now)
    (flat c.self.inside.pool c.self.inside.sides.items c.self.inside.servers.items c.self.inside.queue.tx
    c.self.inside.queue.pacer c.args.self.now c.self.view_is) c.args.i
    c.args.active.now c.requires.active c.index.result.now at c.args.now c.args.timeout
    (c.check.ensures.quiet refl c.in-Quiet.is))
