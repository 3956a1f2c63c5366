use Rattle.std.proofs.Common.{◌≡◌}
use Rattle.command_line.proofs.telling.wrong_value.Given as goal

abbrev pub invariant-loop-number : goal.invariant-loop-number
invariant-loop-number l = l.memory ≡ l.initial.memory
