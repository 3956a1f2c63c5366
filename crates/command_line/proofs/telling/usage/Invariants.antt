use Rattle.std.proofs.Common.{◌≤◌}
use Rattle.command_line.proofs.telling.usage.Given as goal

abbrev pub invariant-forms : goal.invariant-forms
invariant-forms l = l.initial.memory ≤ l.memory
