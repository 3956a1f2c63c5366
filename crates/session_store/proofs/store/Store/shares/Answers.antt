use Rattle.session_store.proofs.store.Store.shares.Goals as goal

pub returns : goal.returns
returns c = rw (← c.self.view_is) c.self.invariant.2.all
