use Rattle.std.proofs.Common.{◌≡◌, ◌-◌, ◌++◌, true, false, replicate}
use Rattle.buffer_pool.proofs.lowest.LowestEmpty.new.Given as goal

abbrev pub invariant-loop-place : goal.invariant-loop-place
invariant-loop-place l = l.all ≡ replicate l.place true ++ replicate (l.places - l.place) false
