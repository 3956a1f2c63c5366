use Rattle.std.proofs.Common.{◌≡◌, ◌∙◌}
use Rattle.std.specs.List.{list_any}
use Rattle.session_store.specs.Ends.{is_late}
use Rattle.session_ends.specs.Joined.{joined}
use Rattle.session_store.specs.Joined.{undue}
use Rattle.session_store.proofs.EndLemmas.{late-end}
use Rattle.session_store.proofs.FlushLemmas.{there-at}
use Rattle.session_store.proofs.ReadLemmas.{read-at}
use Rattle.session_store.proofs.UndueLemmas.{flat}
use Rattle.session_store.proofs.store.Store.has_late.Goals as goal

pub returns : goal.returns
returns c =
    let s = c.self.inside in
    let x = c.index.result.now in
    let at = there-at s.pool s.sides.items s.servers.items (joined s.queue.tx s.queue.pacer) c.self.invariant.0
    (undue c.args.self.now) (flat c.self.inside.pool c.self.inside.sides.items
    c.self.inside.servers.items c.self.inside.queue.tx c.self.inside.queue.pacer c.args.self.now
    c.self.view_is) c.args.i x c.requires.known c.index.ensures in
    read-at s.pool s.sides.items s.servers.items (joined s.queue.tx s.queue.pacer) (undue c.args.self.now)
    (flat c.self.inside.pool c.self.inside.sides.items c.self.inside.servers.items c.self.inside.queue.tx
    c.self.inside.queue.pacer c.args.self.now c.self.view_is) c.args.i x
    at (λ y. c.has_late.result ≡ list_any (is_late c.args.now c.args.timeout) y.calls)
    (c.has_late.ensures ∙ late-end c.args.now c.args.timeout x.stage s.pool x.peer x.session)
