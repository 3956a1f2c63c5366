use Rattle.std.proofs.Common.{sym, ◌∙◌}
use Rattle.session_store.proofs.ReplyGoneLemmas.{position-seen}
use Rattle.session_store.proofs.store.Store.place_of_server.Goals as goal

pub returns : goal.returns
returns c = rw (← c.self.view_is) (c.place_of.ensures
    ∙ sym (position-seen c.self.inside.pool c.args.number c.self.inside.servers.items))
