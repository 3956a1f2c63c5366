use Rattle.std.proofs.Common.{◌≡◌, ◌+◌, ◌*◌, ◌%◌, ◌<◌, ◌≤◌, ◌++◌, length}
use Rattle.drill_maker.specs.Draws.{seeded}
use Rattle.drill_maker.specs.Drill.{drawn_calls, nodes, pairs}
use Rattle.drill_maker.proofs.drill.drill_script.Given as goal

-- a rest takes 13 lines, and each call 8
abbrev pub invariant-loop-call : goal.invariant-loop-call
invariant-loop-call l =
    (l.draft ≡ nodes ++ pairs ++ (drawn_calls l.calls l.call (seeded l.seed)).0)
    × (l.rng ≡ (drawn_calls l.calls l.call (seeded l.seed)).1)
    × (l.call < l.calls → 16 * length l.draft + 13 * (l.call % 16) ≤ 96 + 141 * l.call)
    × (l.memory ≡ l.initial.memory)
