-- one more list at each turn
use Rattle.std.proofs.Common.{◌≡◌, ◌≤◌, replicate, vec_capacity}
use Rattle.pacing_wheel.specs.Chains.{no_ends}
use Rattle.pacing_wheel.proofs.chains.empty_lists.Given as goal

abbrev pub invariant-loop-i : goal.invariant-loop-i
invariant-loop-i l = (l.places.items ≡ replicate l._i no_ends) × (l.count ≤ vec_capacity l.places)
