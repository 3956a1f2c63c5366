-- Digits, two by two: `front` was read, `rest` is left, and `said` is what the whole word says.
use Rattle.std.proofs.Common.{◌≡◌, ℕ, ◌-◌, ◌<◌, ◌≤◌, List, [], ◌∷◌, ◌++◌, length, get_or, take}
use Rattle.std.proofs.Common.{drop, Option, Some, None, Err, refl, sym}
use Rattle.std.specs.Option.{ok_or}
use Rattle.script_grammar.specs.declared.bad.BadWhy.TheVariants.{Hex}
use Rattle.script_grammar.specs.Ask.{hex_byte}
use Rattle.script_grammar.proofs.AskLemmas.{reads_on, hex_more, hex_wrong, hex_odd, hex_end}

none-of : (said : Option (List ℕ)) → ok_or said Hex ≡ Err Hex → None ≡ said
none-of None e = refl
none-of (Some bytes) e = cc

pub more : (front items : List ℕ) (byte : ℕ) (rest : List ℕ) (said : Option (List ℕ))
    → 2 ≤ length rest
    → hex_byte (get_or rest 0 0) (get_or rest 1 0) ≡ Some byte → items ≡ front ++ byte ∷ []
    → reads_on front rest ≡ said
    → reads_on items (take (length rest - 2) (drop 2 rest)) ≡ said
more front items byte rest said long digits grown reads =
    hex_more front items byte rest said long digits grown reads

pub wrong : (front rest : List ℕ) (said : Option (List ℕ)) → 2 ≤ length rest
    → hex_byte (get_or rest 0 0) (get_or rest 1 0) ≡ None → reads_on front rest ≡ said → None ≡ said
wrong front rest said long digits reads = none-of said (hex_wrong front rest said long digits reads)

pub odd : (front rest : List ℕ) (said : Option (List ℕ)) → 0 < length rest → length rest < 2
    → reads_on front rest ≡ said → None ≡ said
odd front rest said some few reads = none-of said (hex_odd front rest said some few reads)

pub end : (front rest : List ℕ) (said : Option (List ℕ)) → length rest ≡ 0
    → reads_on front rest ≡ said → Some front ≡ said
end front rest said none reads = sym (hex_end front rest said none reads)
