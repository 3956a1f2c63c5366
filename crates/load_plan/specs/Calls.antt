-- What the calls of a load ask, and which answers are right.
use Rattle.std.specs.Prelude.{ℕ, ◌+◌, ◌%◌, ◌==◌, ◌||◌, Bool, List, [], length, map, if◌then◌else◌}
use Rattle.std.specs.List.{range_with_len}
use Rattle.std.specs.Str.{bytes_eq}
use Rattle.byteorder.specs.Endian.{big_bytes}
use Rattle.command_line.specs.Words.{LoadWords}
use Rattle.load_plan.specs.declared.plan.Manner.{Manner}
use Rattle.load_plan.specs.declared.plan.Manner.TheVariants.{Echo, Reverse, Tally, Fill}
use Rattle.rpc_outside.specs.PlainAnswer.{plain_answer}

-- how many calls there are, their type, their size, and the number that their bytes begin with
pub record Calls : Type 0 where
  pub calls : ℕ
  pub req_type : ℕ
  pub size : ℕ
  pub seed : ℕ

abbrev pub calls_of : LoadWords → Calls
calls_of w = record { calls = w.calls; req_type = w.req_type; size = w.size; seed = w.seed }

-- how the calls of a type ask, and what answers them
abbrev pub manner_of : ℕ → Manner
manner_of y =
    if y == 2 || y == 130 then Reverse
    else (if y == 3 then Tally else (if y == 4 || y == 132 then Fill else Echo))

-- n bytes, of which byte j is (first + j) modulo 256
abbrev pub counted_from : (first n : ℕ) → List ℕ
counted_from first n = map (λ j. (first + j) % 256) (range_with_len 0 n)

-- the bytes of the number that a call of a type asks, where it asks one
abbrev pub number_bytes : Manner → ℕ → List ℕ
number_bytes Tally n = big_bytes 8 n
number_bytes Fill n = big_bytes 4 n
number_bytes Echo n = []
number_bytes Reverse n = []

-- the bytes that call i asks, from 0 on
abbrev pub asked_as : Manner → Calls → ℕ → List ℕ
asked_as Echo c i = counted_from (c.seed + i) c.size
asked_as Reverse c i = counted_from (c.seed + i) c.size
asked_as Tally c i = number_bytes Tally c.size
asked_as Fill c i = number_bytes Fill c.size

abbrev pub asked_bytes : Calls → ℕ → List ℕ
asked_bytes c i = asked_as (manner_of c.req_type) c i

-- the room for an answer
abbrev pub room_of : Calls → ℕ
room_of c = if c.req_type == 3 then 8 else c.size

-- a right answer to call i: to a tally any 8 bytes, and else what the plain service answers
abbrev pub is_right : Calls → ℕ → List ℕ → Bool
is_right c i answer =
    if c.req_type == 3 then length answer == 8
    else bytes_eq answer (plain_answer [] c.req_type (asked_bytes c i))
