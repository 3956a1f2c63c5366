use Rattle.std.proofs.Common.{◌≡◌, ◌+◌, ◌*◌, ◌++◌, length}
use Rattle.drill_maker.specs.Drill.{rounds}
use Rattle.drill_maker.proofs.drill.add_rounds.Given as goal

abbrev pub invariant-loop-i : goal.invariant-loop-i
invariant-loop-i l =
    (l.draft ≡ l.initial.draft ++ rounds l._i)
    × (length l.draft ≡ length l.initial.draft + 2 * l._i) × (l.memory ≡ l.initial.memory)
