-- Hexadecimal digits, two by two: `front` was read, `rest` is left, and `said` is what the whole word says.
use Rattle.std.proofs.Common.{◌≡◌, ℕ, ◌-◌, ◌<◌, ◌≤◌, List, [], ◌∷◌, ◌++◌, length, get_or, take}
use Rattle.std.proofs.Common.{drop, take_all, Option, Some, None, Err, refl, sym, ap, ◌∙◌}
use Rattle.std.proofs.Common.{append_assoc, append-nil, arith}
use Rattle.std.specs.Option.{option_map, ok_or}
use Rattle.script_grammar.specs.declared.bad.BadWhy.TheVariants.{Hex}
use Rattle.script_grammar.specs.Ask.{hex_byte, hex_bytes}

abbrev pub reads_on : List ℕ → List ℕ → Option (List ℕ)
reads_on front rest = option_map (λ after. front ++ after) (hex_bytes rest)

map_front : (front : List ℕ) (byte : ℕ) (rest : Option (List ℕ))
    → option_map (λ after. (front ++ byte ∷ []) ++ after) rest
    ≡ option_map (λ after. front ++ after) (option_map (λ bytes. byte ∷ bytes) rest)
map_front front byte None = refl
map_front front byte (Some bytes) = ap (λ bytes. Some bytes) (append_assoc front (byte ∷ []) bytes)

-- two digits more
pub hex_more : (front items : List ℕ) (byte : ℕ) (rest : List ℕ) (said : Option (List ℕ)) → 2 ≤ length rest
    → hex_byte (get_or rest 0 0) (get_or rest 1 0) ≡ Some byte → items ≡ front ++ byte ∷ []
    → reads_on front rest ≡ said
    → reads_on items (take (length rest - 2) (drop 2 rest)) ≡ said
unfolding hex_bytes
hex_more front items byte [] said long digits grown reads = absurd (omega arith)
hex_more front items byte (high ∷ []) said long digits grown reads = absurd (omega arith)
hex_more front items byte (high ∷ low ∷ rest) said long digits grown reads =
    let whole : take (length (high ∷ low ∷ rest) - 2) (drop 2 (high ∷ low ∷ rest)) ≡ rest =
    take_all _ _ (omega arith) in
    rw (whole, grown) (map_front front byte (hex_bytes rest) ∙ (rw digits at reads))

-- two that are no digits
pub hex_wrong : (front rest : List ℕ) (said : Option (List ℕ)) → 2 ≤ length rest
    → hex_byte (get_or rest 0 0) (get_or rest 1 0) ≡ None → reads_on front rest ≡ said → ok_or said Hex ≡ Err Hex
unfolding hex_bytes
hex_wrong front [] said long digits reads = absurd (omega arith)
hex_wrong front (high ∷ []) said long digits reads = absurd (omega arith)
hex_wrong front (high ∷ low ∷ rest) said long digits reads = ap (λ o. ok_or o Hex) (sym (rw digits at reads))

-- one digit left
pub hex_odd : (front rest : List ℕ) (said : Option (List ℕ)) → 0 < length rest → length rest < 2
    → reads_on front rest ≡ said → ok_or said Hex ≡ Err Hex
unfolding hex_bytes
hex_odd front [] said some few reads = absurd (omega arith)
hex_odd front (digit ∷ []) said some few reads = ap (λ o. ok_or o Hex) (sym reads)
hex_odd front (high ∷ low ∷ rest) said some few reads = absurd (omega arith)

-- none left
pub hex_end : (front rest : List ℕ) (said : Option (List ℕ)) → length rest ≡ 0
    → reads_on front rest ≡ said → said ≡ Some front
unfolding hex_bytes
hex_end front [] said none reads = sym reads ∙ ap (λ bytes. Some bytes) (append-nil front)
hex_end front (digit ∷ rest) said none reads = absurd (omega arith)
