use Rattle.shared_pool.specs.Seats.{places_of, view_of}
use Rattle.share_rows.proofs.TryLemmas.{kept_any}
use Rattle.share_rows.proofs.lending.try_any.Goals as goal

pub returns-clause-held : goal.returns-clause-held
returns-clause-held c =
    kept_any (places_of c.args.pool.now) c.args.start c.in-Some.loan (view_of c.args.seat.now)
    (view_of c.borrow_any.new.seat) (view_of c.give_back.new.seat) c.in-Some.ensures.apart
    c.in-Some.ensures.lent c.give_back.ensures.back
