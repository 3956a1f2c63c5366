use Rattle.std.proofs.Common.{◌∙◌}
use Rattle.call_book.proofs.BookLemmas.{own-in}
use Rattle.call_book.proofs.book.Book.is_own.Goals as goal

pub returns : goal.returns
returns c = λ past t.
    rw (← c.node.view_is) (c.holds.ensures ∙ own-in c.args.self.now past t _ c.args.event.now c.args.first.now)
