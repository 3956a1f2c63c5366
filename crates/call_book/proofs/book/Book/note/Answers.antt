use Rattle.std.proofs.lemmas.Result.{on_ok_weaker}
use Rattle.call_book.proofs.NextLemmas.{tells-next}
use Rattle.call_book.specs.SoFar.{so_far}
use Rattle.call_book.proofs.book.Book.note.Goals as goal

pub returns-clause-noted : goal.returns-clause-noted
returns-clause-noted c =
    on_ok_weaker c.enter.result
    (λ told h lives t. tells-next c.enter.new.self h c.args.fact.now c.args.life lives (told (so_far h) t))
    c.enter.ensures.entered
