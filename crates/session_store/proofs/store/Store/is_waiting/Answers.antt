use Rattle.std.proofs.Common.{sym, ap, ◌∙◌}
use Rattle.std.specs.List.{list_any}
use Rattle.rpc_base.specs.declared.owner.Owner.TheVariants.{Ask}
use Rattle.packet_rings.specs.Entries.{is_entry}
use Rattle.session_ends.specs.Joined.{joined}
use Rattle.session_store.specs.Joined.{undue}
use Rattle.session_store.proofs.FlushLemmas.{number-at, there-at}
use Rattle.session_store.proofs.UnheldLemmas.{entry-seen, idle-packet}
use Rattle.session_store.proofs.UndueLemmas.{flat}
use Rattle.session_store.proofs.store.Store.is_waiting.Goals as goal

pub returns : goal.returns
returns c =
    let s = c.self.inside in
    let number = c.session.ensures ∙ number-at s.pool s.sides.items s.servers.items (joined s.queue.tx s.queue.pacer)
    c.self.invariant.0 (undue c.args.self.now) (flat c.self.inside.pool c.self.inside.sides.items
    c.self.inside.servers.items c.self.inside.queue.tx c.self.inside.queue.pacer c.args.self.now c.self.view_is)
    c.args.i c.index-2.result.now
    c.requires.known c.index-2.ensures in
    rw (← c.self.view_is) (c.holds.ensures ∙ ap
    (λ n. list_any (is_entry (Ask n c.args.request) c.args.number) (joined s.queue.tx s.queue.pacer).items) number
    ∙ sym (entry-seen c.args.i c.args.request c.args.number s.queue.tx s.queue.pacer))

pub returns-then-queued-eq0 : goal.returns-then-queued-eq0
returns-then-queued-eq0 c =
    let s = c.self.inside in
    let at = there-at s.pool s.sides.items s.servers.items (joined s.queue.tx s.queue.pacer) c.self.invariant.0
    (undue c.args.self.now) (flat c.self.inside.pool c.self.inside.sides.items
    c.self.inside.servers.items c.self.inside.queue.tx c.self.inside.queue.pacer c.args.self.now
    c.self.view_is) c.args.i c.index.result.now c.requires.known c.index.ensures in
    let none = idle-packet s.pool s.sides.items s.servers.items (joined s.queue.tx s.queue.pacer) c.self.invariant.0 c.args.i
    c.args.request c.index.result.now at c.args.number
    (sym c.queued.ensures ∙ c.if-queued-eq0.true) in
    rw (← c.self.view_is) (sym (entry-seen c.args.i c.args.request c.args.number s.queue.tx s.queue.pacer ∙ none))
