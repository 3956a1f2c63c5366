use Rattle.session_store.proofs.HandingLemmas.{of-calls}
use Rattle.session_store.proofs.store.Store.sound.Goals as goal

pub returns : goal.returns
returns c = rw (← c.self.view_is) (record {
  handed = of-calls c.self.inside.pool c.self.inside.sides.items;
})
