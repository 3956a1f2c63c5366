-- the hands so far are out or kept, and those that are left come behind them
use Rattle.std.proofs.Common.{◌+◌, ◌≤◌, ◌++◌, length, vec_len, vec_capacity}
use Rattle.memory_count.specs.Faults.{HasRisenBy}
use Rattle.worker_crew.specs.Crews.{names}
use Rattle.worker_crew.specs.Starting.{Shared}
use Rattle.worker_crew.proofs.crew.starting.start_each.Given as goal

abbrev pub invariant-loop-hand : goal.invariant-loop-hand
invariant-loop-hand g l =
    Shared (names l.initial.made.items) (g.P.Spawner.hands_out l.spawner)
    (names l.kept.items ++ names l.made.items)
    × HasRisenBy (vec_len l.kept) (g.P.Spawner.refused l.fn.spawner) (g.P.Spawner.refused l.spawner)
    × (vec_len l.kept + length l.made.items ≤ vec_capacity l.kept)

abbrev pub decreases-loop-hand : goal.decreases-loop-hand
decreases-loop-hand g l = length l.made.items
