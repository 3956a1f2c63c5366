use Rattle.std.proofs.Common.{◌≡◌}
use Rattle.command_line.proofs.near.all_names.Given as goal

abbrev pub invariant-names : goal.invariant-names
invariant-names l = l.memory ≡ l.initial.memory
