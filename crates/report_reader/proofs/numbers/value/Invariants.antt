use Rattle.std.proofs.Common.{◌≡◌, min, take}
use Rattle.script_grammar.specs.Numbers.{value_of}
use Rattle.report_reader.proofs.numbers.value.Given as goal

abbrev pub invariant-loop-digit : goal.invariant-loop-digit
invariant-loop-digit l = l.value ≡ min 18446744073709551616 (value_of (take l.digit-index l.digits))
