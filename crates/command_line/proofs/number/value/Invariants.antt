use Rattle.std.proofs.Common.{◌≡◌, min, take}
use Rattle.script_grammar.specs.Numbers.{value_of}
use Rattle.command_line.proofs.number.value.Given as goal

abbrev pub invariant-loop-digit : goal.invariant-loop-digit
invariant-loop-digit l = l.value ≡ min 18446744073709551615 (value_of (take l.digit-index l.digits))
