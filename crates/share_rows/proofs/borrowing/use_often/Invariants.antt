-- between two calls the seat holds no loan, and the spare buffer has the pool's capacity
use Rattle.std.proofs.Common.{◌≡◌}
use Rattle.message_buffer.specs.Buffer.{capacity_of}
use Rattle.share_rows.specs.Borrowing.{IsFreeSeat}
use Rattle.share_rows.specs.declared.borrowing.TheConstants.{CAPACITY}
use Rattle.share_rows.proofs.borrowing.use_often.Given as goal

abbrev pub invariant-loop-number : goal.invariant-loop-number
invariant-loop-number l = record {
  free : IsFreeSeat l.fn.pool l.seat;
  spare : capacity_of l.spare ≡ CAPACITY;
}
