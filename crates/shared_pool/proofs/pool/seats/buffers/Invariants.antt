-- one more buffer at each turn, and no memory was refused
use Rattle.std.proofs.Common.{◌≡◌, ◌≤◌, length, vec_capacity, All}
use Rattle.shared_pool.specs.Rule.{IsFilled}
use Rattle.shared_pool.proofs.pool.seats.buffers.Given as goal

abbrev pub invariant-loop-i : goal.invariant-loop-i
invariant-loop-i l =
    (length l.slots.items ≡ l._i) × (l.count ≤ vec_capacity l.slots)
    × All (IsFilled l.fn.capacity) l.slots.items × (l.memory ≡ l.fn.memory)
