-- the places so far stand in it once each
use Rattle.std.proofs.Common.{◌≡◌, ◌≤◌, ◌<◌, ℕ, length, vec_capacity}
use Rattle.pacing_wheel.specs.Chains.{times}
use Rattle.pacing_wheel.proofs.chains.all_places.Given as goal

abbrev pub invariant-loop-k : goal.invariant-loop-k
invariant-loop-k l = (length l.free.items ≡ l.k) × (l.size ≤ vec_capacity l.free)
    × ((m : ℕ) → times m l.free.items ≤ 1) × ((m : ℕ) → 0 < times m l.free.items → m < l.k)
