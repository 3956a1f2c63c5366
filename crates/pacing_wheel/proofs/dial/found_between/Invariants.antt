-- with what was found so far what the lists from this place on have is what all of them have
use Rattle.std.proofs.Common.{◌≡◌, ◌≤◌, ◌-◌, drop}
use Rattle.std.specs.List.{find}
use Rattle.pacing_wheel.specs.Wheel.{earlier, is_entry_of, together}
use Rattle.pacing_wheel.proofs.WalkLemmas.{Walked}
use Rattle.pacing_wheel.proofs.dial.found_between.Given as goal

abbrev pub invariant-loop-place : goal.invariant-loop-place
invariant-loop-place l = (l.from ≤ l.place)
    × (find (is_entry_of l.owner l.number) (together (drop l.from l.chains.lists))
    ≡ earlier l.best (find (is_entry_of l.owner l.number) (together (drop l.place l.chains.lists))))
    × Walked l.chains.lists l.from l.place l.to l.left l.unseen

abbrev pub decreases-loop-place : goal.decreases-loop-place
decreases-loop-place l = l.to - l.place
