use Rattle.std.proofs.Common.{◌≤◌}
use Rattle.command_line.proofs.telling.known_types.Given as goal

abbrev pub invariant-types : goal.invariant-types
invariant-types l = l.initial.memory ≤ l.memory
