-- the first i entries stand at the back, and none of them passes
use Rattle.std.proofs.Common.{◌≡◌, ◌+◌, ◌++◌, drop, take}
use Rattle.std.specs.List.{position_or_len}
use Rattle.circular_buffer.specs.Buffer.{buffer}
use Rattle.packet_rings.specs.Entries.{is_entry}
use Rattle.packet_rings.proofs.turning.turn_to.Given as goal

abbrev pub invariant-loop-i : goal.invariant-loop-i
invariant-loop-i l = record {
  turned : l.entries ≡ buffer (drop l.i l.initial.entries.items ++ take l.i l.initial.entries.items)
      l.initial.entries.capacity;
  passed : position_or_len (is_entry l.owner l.number) l.initial.entries.items
      ≡ l.i + position_or_len (is_entry l.owner l.number) (drop l.i l.initial.entries.items);
}
