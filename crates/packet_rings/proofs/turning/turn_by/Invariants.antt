-- the first i entries stand at the back
use Rattle.std.proofs.Common.{◌≡◌, ◌++◌, drop, take}
use Rattle.circular_buffer.specs.Buffer.{buffer}
use Rattle.packet_rings.proofs.turning.turn_by.Given as goal

abbrev pub invariant-loop-i : goal.invariant-loop-i
invariant-loop-i l =
    l.entries ≡ buffer (drop l._i l.initial.entries.items ++ take l._i l.initial.entries.items)
    l.initial.entries.capacity
