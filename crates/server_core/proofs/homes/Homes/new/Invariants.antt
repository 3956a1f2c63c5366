-- the buffers that were made are at home, and no memory was refused
use Rattle.std.proofs.Common.{◌≡◌, length}
use Rattle.server_core.proofs.HomeLemmas.{AreAllHome}
use Rattle.server_core.proofs.homes.Homes.new.Given as goal

abbrev pub invariant-loop-slot : goal.invariant-loop-slot
invariant-loop-slot l = record {
  all : length l.buffers.items ≡ l._slot;
  each : AreAllHome l.buffers.items;
  quiet : l.memory ≡ l.fn.memory;
}
