use Rattle.std.proofs.Common.{◌≤◌}
use Rattle.command_line.proofs.telling.first_paragraph.Given as goal

abbrev pub invariant-parts : goal.invariant-parts
invariant-parts l = l.initial.memory ≤ l.memory
