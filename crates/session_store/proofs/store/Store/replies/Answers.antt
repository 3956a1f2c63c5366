use Rattle.std.proofs.Common.{sym, ◌∙◌}
use Rattle.session_store.proofs.CountLemmas.{replies-counted}
use Rattle.session_store.proofs.UndueLemmas.{replies-ready}
use Rattle.session_store.proofs.store.Store.replies.Goals as goal

pub returns : goal.returns
returns c =
    let s = c.self.inside in
    rw (← c.self.view_is) (c.replies.ensures ∙ replies-counted s.queue.tx.items
    ∙ sym (replies-ready s.queue.tx s.queue.pacer c.self.invariant.1))
