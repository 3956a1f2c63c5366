-- How numbers are spelled.
use Rattle.std.specs.Prelude.{◌==◌, ℕ, ◌+◌, ◌-◌, ◌*◌, Bool, ◌&&◌, ◌||◌, not, List, fold, length}
use Rattle.std.specs.Prelude.{slice_index, min, nat_le, Result, Ok, Err, if◌then◌else◌}
use Rattle.std.specs.Char.{is_ascii_digit}
use Rattle.std.specs.List.{list_all}
use Rattle.script_grammar.specs.declared.bad.BadWhy.{BadWhy}
use Rattle.script_grammar.specs.declared.bad.BadWhy.TheVariants.{Number}

-- a number is spelled in decimal digits, without sign; none but 0 itself begins with a 0
unfoldable pub is_numeral : List ℕ → Bool
is_numeral word =
    not (length word == 0) && list_all is_ascii_digit word
    && (length word == 1 || not (slice_index word 0 == 48))

-- the number that decimal digits write
unfoldable pub value_of : List ℕ → ℕ
value_of digits = fold (λ value digit. 10 * value + (digit - 48)) 0 digits

-- the number that a word spells, in its range
unfoldable pub number_in : ℕ → ℕ → List ℕ → Result ℕ BadWhy
number_in low high word =
    if is_numeral word && nat_le low (value_of word)
    && nat_le (value_of word) high then Ok (value_of word) else Err Number

-- the number of a node. No script has that many nodes: past 255 all numbers stand for the same
-- missing node
unfoldable pub node_in : List ℕ → Result ℕ BadWhy
node_in word = if is_numeral word then Ok (min 255 (value_of word)) else Err Number
