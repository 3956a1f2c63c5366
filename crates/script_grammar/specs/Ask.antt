-- The bytes that a call sends, in their three forms.
use Rattle.std.specs.Prelude.{ℕ, ◌+◌, ◌-◌, ◌*◌, ◌&&◌, nat_le, nat_lt, List, [], ◌∷◌, length, drop}
use Rattle.std.specs.Prelude.{codes, nat_eq, Option, Some, None, option_map, option_and_then}
use Rattle.std.specs.Prelude.{Result, Ok, Err, ok_or, if◌then◌else◌}
use Rattle.std.specs.List.{starts_with}
use Rattle.std.specs.Result.{result_ok}
use Rattle.script_grammar.specs.declared.ask.TheConstants.{MOST_BYTES}
use Rattle.script_grammar.specs.declared.bad.BadWhy.{BadWhy}
use Rattle.script_grammar.specs.declared.bad.BadWhy.TheVariants.{Hex}
use Rattle.script_grammar.specs.declared.line.AskBytes.{AskBytes}
use Rattle.script_grammar.specs.declared.line.AskBytes.TheVariants.{Given, Count}
use Rattle.script_grammar.specs.Numbers.{number_in}
use Rattle.script_grammar.specs.Words.{is_word}

-- a digit 0 to 9, or a to f in lower case
unfoldable pub hex_digit : ℕ → Option ℕ
hex_digit b =
    if nat_le 48 b && nat_le b 57 then Some (b - 48)
    else (if nat_le 97 b && nat_le b 102 then Some (b - 87) else None)

-- two digits, the high one first
unfoldable pub hex_byte : ℕ → ℕ → Option ℕ
hex_byte high low =
    option_and_then (λ h. option_map (λ l. 16 * h + l) (hex_digit low)) (hex_digit high)

-- an even count of digits
unfoldable pub hex_bytes : List ℕ → Option (List ℕ)
hex_bytes [] = Some []
hex_bytes (high ∷ []) = None
hex_bytes (high ∷ low ∷ rest) =
    option_and_then (λ byte. option_map (λ bytes. byte ∷ bytes) (hex_bytes rest))
    (hex_byte high low)

-- hexadecimal digits, at most 4,194,304
unfoldable pub given_in : List ℕ → Result AskBytes BadWhy
given_in word =
    if nat_lt 4194304 (length word) then Err Hex
    else ok_or (option_map (λ bytes. Given bytes) (hex_bytes word)) Hex

-- a count of bytes, at most 2,097,152
unfoldable pub count_in : List ℕ → Result AskBytes BadWhy
count_in word =
    ok_or (option_map (λ count. Count count) (result_ok (number_in 0 MOST_BYTES word))) Hex

-- `-`, `*` with a count, or digits
unfoldable pub ask_in : List ℕ → Result AskBytes BadWhy
ask_in word =
    if is_word word (codes "-") then Ok (Given [])
    else (if starts_with nat_eq word (codes "*") then count_in (drop 1 word)
    else given_in word)
