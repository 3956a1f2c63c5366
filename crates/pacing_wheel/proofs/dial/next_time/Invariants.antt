-- the cursor may go as far as the walk went
use Rattle.std.proofs.Common.{◌≤◌, ◌-◌}
use Rattle.pacing_wheel.specs.Wheel.{AllStand}
use Rattle.pacing_wheel.proofs.dial.next_time.Given as goal

abbrev pub invariant-loop-time : goal.invariant-loop-time
invariant-loop-time l = AllStand l.time 0 l.chains.lists × (l.cursor ≤ l.time) × (l.time ≤ l.limit)

abbrev pub decreases-loop-time : goal.decreases-loop-time
decreases-loop-time l = l.limit - l.time
