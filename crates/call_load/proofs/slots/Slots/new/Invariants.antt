-- no memory was refused
use Rattle.std.proofs.Common.{◌≡◌}
use Rattle.call_load.proofs.slots.Slots.new.Given as goal

abbrev pub invariant-places : goal.invariant-places
invariant-places l = l.memory ≡ l.fn.memory
