-- each place so far had a try that gave nothing
use Rattle.shared_pool.specs.Seats.{IsSeatOf, view_of, MissedFrom}
use Rattle.shared_pool.proofs.pool.SharedPool.borrow_any.Given as goal

abbrev pub invariant-loop-k : goal.invariant-loop-k
invariant-loop-k l =
    IsSeatOf l.fn.self l.seat × MissedFrom l.fn.self.places l.fn.start l.k (view_of l.fn.seat) (view_of l.seat)
