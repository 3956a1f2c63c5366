use Rattle.call_book.proofs.shelf.Shelf.put.Goals as goal

pub returns-in-Ok-clause-put : goal.returns-in-Ok-clause-put
returns-in-Ok-clause-put g c = λ m j.
    rw (← c.self.view_is) (c.in-Ok.ensures.updates.0 (m.node, m.life, j))
