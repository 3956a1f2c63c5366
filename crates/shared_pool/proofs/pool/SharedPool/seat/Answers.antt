use Rattle.std.proofs.Common.{rules}
use Rattle.shared_pool.proofs.SeatsLemmas.{splits}
use Rattle.shared_pool.proofs.pool.SharedPool.seat.Goals as goal

pub split_seat-seat-requires : goal.split_seat-seat-requires
split_seat-seat-requires c = (search rules, search rules, splits c.args.self.now.table.shared.key _ _)
