use Rattle.std.proofs.Common.{rules}
use Rattle.shared_pool.proofs.SeatsLemmas.{joins}
use Rattle.shared_pool.proofs.pool.SharedPool.join.Goals as goal

pub join_seat-requires : goal.join_seat-requires
join_seat-requires c = (
  search rules,
  search rules,
  c.args.seat.empty,
  search rules,
  joins c.args.self.now.table.shared.key _ _ _ _ c.args.seat.idle c.requires.free,
)
