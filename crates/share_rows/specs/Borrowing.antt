-- A seat between two loans, and with one.
use Rattle.std.specs.Prelude.{◌≡◌, List, [], ◌∷◌}
use Rattle.shared_pool.specs.Loans.{LoanNo}
use Rattle.shared_pool.specs.Seats.{HoldsNone, IsSeatOf, view_of}
use Rattle.shared_pool.specs.declared.pool.SharedPool.{SharedPool}
use Rattle.shared_pool.specs.declared.pool.PoolSeat.{PoolSeat}

-- the seat is this pool's, and holds no loan
pub record IsFreeSeat (b : SharedPool) (s : PoolSeat) : Type 0 where
  pub own : IsSeatOf b s
  pub none : HoldsNone (view_of s)

-- the seat holds this loan and no other
abbrev pub HoldsOnly : LoanNo → PoolSeat → Type 0
HoldsOnly l s = (view_of s).held ≡ l ∷ []
