-- Numbers and texts among the words.
use Rattle.std.specs.Prelude.{ℕ, ◌==◌, ◌&&◌, Bool, nat_le, List, [], ◌∷◌, Option, Some, None}
use Rattle.std.specs.Prelude.{codes, option_and_then, option_map, if◌then◌else◌}
use Rattle.std.specs.List.{list_any}
use Rattle.std.specs.Str.{bytes_eq}
use Rattle.clap.specs.Words.{Row, Text, first_of}
use Rattle.command_line.specs.declared.task.Idle.{Idle}
use Rattle.command_line.specs.declared.task.Idle.TheVariants.{Sleep, Spin}
use Rattle.script_grammar.specs.Numbers.{is_numeral, value_of}

-- the number that a text spells in decimal, without sign and without leading zeros, in its range
unfoldable pub number_in : (low high : ℕ) → Text → Option ℕ
number_in low high text =
    if is_numeral text && nat_le low (value_of text) && nat_le (value_of text) high
    then Some (value_of text) else None

-- the number that is the value of an argument
abbrev pub number_at : (low high : ℕ) → Text → List Row → Option ℕ
number_at low high id rows = option_and_then (λ text. number_in low high text) (first_of id rows)

-- the same of an argument that may be left out: none where it is
abbrev pub number_if : (low high : ℕ) → Option Text → Option (Option ℕ)
number_if low high None = Some None
number_if low high (Some text) = option_map (λ number. Some number) (number_in low high text)

abbrev pub some_number_at : (low high : ℕ) → Text → List Row → Option (Option ℕ)
some_number_at low high id rows = number_if low high (first_of id rows)

-- no thread works jobs of which another server is asked
abbrev pub most_workers : (relay : Option Text) → ℕ
most_workers None = 16
most_workers (Some addr) = 0

-- how many threads work jobs: the value of `--workers`
abbrev pub workers_at : List Row → Option ℕ
workers_at rows = number_at 0 (most_workers (first_of (codes "relay") rows)) (codes "workers") rows

-- an idle run turns on where `--spin` is given, and sleeps where it isn't
abbrev pub idle_by : Option Text → Idle
idle_by None = Sleep
idle_by (Some text) = if bytes_eq text (codes "true") then Spin else Sleep

abbrev pub idle_at : List Row → Idle
idle_at rows = idle_by (first_of (codes "spin") rows)

-- the request types that `load` may ask
abbrev pub is_type : ℕ → Bool
is_type number = list_any (λ known. known == number) (1 ∷ 2 ∷ 3 ∷ 4 ∷ 129 ∷ 130 ∷ 132 ∷ [])

abbrev pub listed : ℕ → Option ℕ
listed number = if is_type number then Some number else None

-- the request type that is the value of `--type`
unfoldable pub type_at : List Row → Option ℕ
type_at rows = option_and_then (λ number. listed number) (number_at 0 255 (codes "type") rows)
