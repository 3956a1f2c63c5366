use Rattle.std.proofs.Common.{◌≡◌, ◌+◌, ◌*◌, ◌++◌, length}
use Rattle.std.specs.Option.{option_map}
use Rattle.script_grammar.specs.Ask.{hex_bytes}
use Rattle.script_grammar.proofs.ask.bytes_of.Given as goal

abbrev pub invariant-loop-rest : goal.invariant-loop-rest
invariant-loop-rest l =
    (option_map (λ after. l.bytes.items ++ after) (hex_bytes l.rest) ≡ hex_bytes l.word)
    × (2 * length l.bytes.items + length l.rest ≡ length l.word) × (l.memory ≡ l.initial.memory)

abbrev pub decreases-loop-rest : goal.decreases-loop-rest
decreases-loop-rest l = length l.rest
