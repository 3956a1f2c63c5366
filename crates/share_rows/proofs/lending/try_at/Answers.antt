use Rattle.shared_pool.specs.Seats.{view_of}
use Rattle.share_rows.proofs.TryLemmas.{kept_at}
use Rattle.share_rows.proofs.lending.try_at.Goals as goal

pub returns-clause-held : goal.returns-clause-held
returns-clause-held c =
    kept_at c.in-Some.loan (view_of c.args.seat.now) (view_of c.borrow.new.seat)
    (view_of c.give_back.new.seat) c.in-Some.ensures.apart c.in-Some.ensures.lent
    c.give_back.ensures.back
