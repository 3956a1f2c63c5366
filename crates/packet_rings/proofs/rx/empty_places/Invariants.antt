-- one more place at each turn
use Rattle.std.proofs.Common.{◌≡◌, ◌≤◌, length, vec_capacity}
use Rattle.packet_rings.proofs.rx.empty_places.Given as goal

abbrev pub invariant-loop-i : goal.invariant-loop-i
invariant-loop-i l = (length l.places.items ≡ l._i) × (l.count ≤ vec_capacity l.places)
    × (l.memory ≡ l.initial.memory)
