-- one more place at each turn
use Rattle.std.proofs.Common.{◌≡◌, ◌≤◌, length, vec_capacity}
use Rattle.pacing_wheel.proofs.chains.unused_links.Given as goal

abbrev pub invariant-loop-k : goal.invariant-loop-k
invariant-loop-k l = (length l.links.items ≡ l._k) × (l.size ≤ vec_capacity l.links)
