use Rattle.session_store.proofs.EndingLemmas.{owner-at}
use Rattle.session_store.proofs.store.Store.owner_in_slot.Goals as goal

pub returns : goal.returns
returns c =
    let s = c.self.inside in
    owner-at s.pool c.args.slot c.requires.slot s.sides.items s.servers.items s.queue.tx s.queue.pacer
    c.args.self.now c.self.view_is c.args.i c.requires.known c.index.result.now c.owner.result
    c.index.ensures c.owner.ensures
