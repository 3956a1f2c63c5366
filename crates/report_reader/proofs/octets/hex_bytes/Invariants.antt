use Rattle.std.proofs.Common.{◌≡◌, ◌++◌, length}
use Rattle.std.specs.Option.{option_map}
use Rattle.script_grammar.specs.Ask.{hex_bytes}
use Rattle.report_reader.proofs.octets.hex_bytes.Given as goal

abbrev pub invariant-loop-rest : goal.invariant-loop-rest
invariant-loop-rest l =
    (option_map (λ after. l.bytes.items ++ after) (hex_bytes l.rest) ≡ hex_bytes l.word)
    × (l.memory ≡ l.initial.memory)

abbrev pub decreases-loop-rest : goal.decreases-loop-rest
decreases-loop-rest l = length l.rest
