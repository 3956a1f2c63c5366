-- with the least number so far that of the lists from this place on is that of all of them
use Rattle.std.proofs.Common.{◌≡◌, ◌≤◌, ◌-◌, drop}
use Rattle.rpc_base.specs.Least.{least_number}
use Rattle.rpc_base.proofs.LeastLemmas.{lesser}
use Rattle.pacing_wheel.specs.Wheel.{is_of, number_of, together}
use Rattle.pacing_wheel.proofs.WalkLemmas.{Walked}
use Rattle.pacing_wheel.proofs.dial.least_between.Given as goal

abbrev pub invariant-loop-place : goal.invariant-loop-place
invariant-loop-place l = (l.from ≤ l.place)
    × (least_number (is_of l.owner) number_of (together (drop l.from l.chains.lists))
    ≡ lesser l.best (least_number (is_of l.owner) number_of (together (drop l.place l.chains.lists))))
    × Walked l.chains.lists l.from l.place l.to l.left l.unseen

abbrev pub decreases-loop-place : goal.decreases-loop-place
decreases-loop-place l = l.to - l.place
