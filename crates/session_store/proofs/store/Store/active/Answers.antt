use Rattle.std.proofs.Common.{◌≡◌, ◌∙◌}
use Rattle.std.specs.Prelude.{option_and_then}
use Rattle.rpc_base.proofs.PlaceLemmas.{all-at}
use Rattle.session_store.specs.Ends.{next_above, told_call}
use Rattle.session_store.specs.Sides.{SideAscends}
use Rattle.session_ends.specs.Joined.{joined}
use Rattle.session_store.specs.Joined.{undue}
use Rattle.session_store.proofs.EndLemmas.{next-end}
use Rattle.session_store.proofs.FlushLemmas.{there-at}
use Rattle.session_store.proofs.ReadLemmas.{read-at}
use Rattle.session_store.proofs.UndueLemmas.{flat}
use Rattle.session_store.proofs.store.Store.active.Goals as goal

pub returns : goal.returns
returns c =
    let s = c.self.inside in
    let x = c.index.result.now in
    let at = there-at s.pool s.sides.items s.servers.items (joined s.queue.tx s.queue.pacer) c.self.invariant.0
    (undue c.args.self.now) (flat c.self.inside.pool c.self.inside.sides.items
    c.self.inside.servers.items c.self.inside.queue.tx c.self.inside.queue.pacer c.args.self.now
    c.self.view_is) c.args.i x c.requires.known c.index.ensures in
    let told = next-end x.stage s.pool x.peer x.session c.args.after
    (all-at (SideAscends s.pool) s.sides.items c.args.i x c.self.invariant.0.ascends at) in
    read-at s.pool s.sides.items s.servers.items (joined s.queue.tx s.queue.pacer) (undue c.args.self.now)
    (flat c.self.inside.pool c.self.inside.sides.items c.self.inside.servers.items c.self.inside.queue.tx
    c.self.inside.queue.pacer c.args.self.now c.self.view_is) c.args.i x
    at (λ y. c.active.result ≡ option_and_then told_call (next_above c.args.after y))
    (c.active.ensures.told ∙ told)
