use Rattle.std.proofs.Common.{◌≡◌, List, [], sym, ap, ◌∙◌}
use Rattle.std.specs.Option.{option_copied}
use Rattle.rpc_laws.specs.Calls.{asking}
use Rattle.rpc_laws.specs.declared.tables.Asking.{Asking}
use Rattle.rpc_laws.specs.declared.tables.Call.{Call}
use Rattle.session_ends.specs.Joined.{joined}
use Rattle.session_store.specs.Joined.{undue}
use Rattle.session_store.proofs.EndLemmas.{calls-end}
use Rattle.session_store.proofs.FlushLemmas.{there-at}
use Rattle.session_store.proofs.NewestLemmas.{newest-bytes, newest-none}
use Rattle.session_store.proofs.ReadLemmas.{read-at}
use Rattle.session_store.proofs.UndueLemmas.{flat}
use Rattle.session_store.proofs.store.Store.newest_ask.Goals as goal

pub returns-in-Some : goal.returns-in-Some
returns-in-Some c =
    let s = c.self.inside in
    let x = c.index.result.now in
    let at = there-at s.pool s.sides.items s.servers.items (joined s.queue.tx s.queue.pacer) c.self.invariant.0
    (undue c.args.self.now) (flat c.self.inside.pool c.self.inside.sides.items
    c.self.inside.servers.items c.self.inside.queue.tx c.self.inside.queue.pacer c.args.self.now
    c.self.view_is) c.args.i x c.requires.known c.index.ensures in
    read-at s.pool s.sides.items s.servers.items (joined s.queue.tx s.queue.pacer) (undue c.args.self.now)
    (flat c.self.inside.pool c.self.inside.sides.items c.self.inside.servers.items c.self.inside.queue.tx
    c.self.inside.queue.pacer c.args.self.now c.self.view_is) c.args.i x at
    (λ y. (calls : List Call) → (what : Asking) → y.calls ≡ asking what calls
    → c.bytes.result.now ≡ what.ask)
    (λ calls what e. c.bytes.ensures.message
    ∙ newest-bytes s.pool x.session.active x.session.slots.waiting (option_copied c.newest.result)
    c.newest.ensures calls what (sym (calls-end x.stage s.pool x.peer x.session) ∙ e)
    c.in-Some.waiting.now (ap option_copied c.in-Some.is))

pub returns-in-None : goal.returns-in-None
returns-in-None c =
    let s = c.self.inside in
    let x = c.index.result.now in
    let at = there-at s.pool s.sides.items s.servers.items (joined s.queue.tx s.queue.pacer) c.self.invariant.0
    (undue c.args.self.now) (flat c.self.inside.pool c.self.inside.sides.items
    c.self.inside.servers.items c.self.inside.queue.tx c.self.inside.queue.pacer c.args.self.now
    c.self.view_is) c.args.i x c.requires.known c.index.ensures in
    read-at s.pool s.sides.items s.servers.items (joined s.queue.tx s.queue.pacer) (undue c.args.self.now)
    (flat c.self.inside.pool c.self.inside.sides.items c.self.inside.servers.items c.self.inside.queue.tx
    c.self.inside.queue.pacer c.args.self.now c.self.view_is) c.args.i x at
    (λ y. (calls : List Call) → (what : Asking) → y.calls ≡ asking what calls
    → [] ≡ what.ask)
    (λ calls what e. newest-none s.pool x.session.active x.session.slots.waiting
    (option_copied c.newest.result) c.newest.ensures calls what
    (sym (calls-end x.stage s.pool x.peer x.session) ∙ e) []
    (ap option_copied c.in-None.is))
