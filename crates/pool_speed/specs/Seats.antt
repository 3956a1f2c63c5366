-- A seat between two loans.
use Rattle.shared_pool.specs.Seats.{HoldsNone, IsSeatOf, view_of}
use Rattle.shared_pool.specs.declared.pool.SharedPool.{SharedPool}
use Rattle.shared_pool.specs.declared.pool.PoolSeat.{PoolSeat}

-- the seat is this pool's, and holds no loan
pub record IsFreeSeat (b : SharedPool) (s : PoolSeat) : Type 0 where
  pub own : IsSeatOf b s
  pub none : HoldsNone (view_of s)
