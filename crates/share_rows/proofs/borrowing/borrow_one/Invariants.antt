-- a try that gives nothing leaves the seat with no loan
use Rattle.share_rows.specs.Borrowing.{IsFreeSeat}
use Rattle.share_rows.proofs.borrowing.borrow_one.Given as goal

abbrev pub invariant-loop-try : goal.invariant-loop-try
invariant-loop-try l = IsFreeSeat l.fn.pool l.seat
