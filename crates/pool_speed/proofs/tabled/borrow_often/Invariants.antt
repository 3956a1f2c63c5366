-- between two tries the seat holds no loan
use Rattle.pool_speed.specs.Seats.{IsFreeSeat}
use Rattle.pool_speed.proofs.tabled.borrow_often.Given as goal

abbrev pub invariant-loop-time : goal.invariant-loop-time
invariant-loop-time l = IsFreeSeat l.fn.pool l.seat
