use Rattle.std.proofs.Common.{sym, ◌∙◌}
use Rattle.session_store.proofs.EndingLemmas.{older-seen}
use Rattle.session_store.proofs.store.Store.place_of_older.Goals as goal

pub returns : goal.returns
returns c = rw (← c.self.view_is) (c.older_in.ensures
    ∙ sym (older-seen c.self.inside.pool c.args.peer c.args.life c.self.inside.servers.items))
