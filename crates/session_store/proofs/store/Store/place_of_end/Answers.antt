use Rattle.std.proofs.Common.{sym, ◌∙◌}
use Rattle.session_store.proofs.EndingLemmas.{end-seen}
use Rattle.session_store.proofs.store.Store.place_of_end.Goals as goal

pub returns : goal.returns
returns c = rw (← c.self.view_is) (c.end_in.ensures
    ∙ sym (end-seen c.self.inside.pool c.args.peer c.args.client c.args.life
    c.self.inside.servers.items))
