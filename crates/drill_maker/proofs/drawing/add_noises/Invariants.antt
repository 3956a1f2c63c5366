use Rattle.std.proofs.Common.{◌≡◌, ◌+◌, ◌++◌, length}
use Rattle.drill_maker.specs.Drill.{drawn_noises}
use Rattle.drill_maker.proofs.drawing.add_noises.Given as goal

abbrev pub invariant-loop-i : goal.invariant-loop-i
invariant-loop-i l =
    (l.draft ≡ l.initial.draft ++ (drawn_noises l._i l.initial.rng).0)
    × (l.rng ≡ (drawn_noises l._i l.initial.rng).1)
    × (length l.draft ≡ length l.initial.draft + l._i) × (l.memory ≡ l.initial.memory)
