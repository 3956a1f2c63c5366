-- The plain service: what it serves, and what it answers. Numbers are big-endian.
use Rattle.std.specs.Prelude.{ℕ, ◌+◌, ◌-◌, ◌%◌, ◌^◌, Bool, ◌&&◌, ◌||◌, ◌==◌, nat_le, if◌then◌else◌}
use Rattle.std.specs.Prelude.{List, [], length, map, reverse, sum_by}
use Rattle.std.specs.List.{range_with_len}
use Rattle.rpc_base.specs.declared.limits.TheConstants.{MOST_MESSAGE_BYTES}
use Rattle.byteorder.specs.Endian.{big_number, big_bytes}
use Rattle.rpc_outside.specs.declared.service.Mode.{Mode}
use Rattle.rpc_outside.specs.declared.service.Mode.TheVariants.{Inline, Background, Unserved}
use Rattle.rpc_outside.specs.Served.{Served}

-- types 1 to 4 run in the event loop; 129, 130 and 132 are the same as 1, 2 and 4 by a worker
abbrev pub is_in_background : ℕ → Bool
is_in_background req_type = (req_type == 129 || req_type == 130) || req_type == 132

abbrev pub plain_mode : ℕ → Mode
plain_mode req_type =
    if nat_le 1 req_type && nat_le req_type 4 then Inline
    else (if is_in_background req_type then Background else Unserved)

-- what a request adds to the total: a tally of 8 bytes adds their number
abbrev pub added : ℕ → List ℕ → ℕ
added req_type ask = if req_type == 3 && length ask == 8 then big_number 8 ask else 0

-- the total with one more request
abbrev pub total_with : ℕ → ℕ → List ℕ → ℕ
total_with total req_type ask = (total + added req_type ask) % 2 ^ 64

-- the total of the tallies served so far, modulo 2 ^ 64
abbrev pub total_of : Served → ℕ
total_of served = sum_by (λ request. added request.0 request.1) served % 2 ^ 64

-- tally: the total with this request, in 8 bytes; no bytes where the request hasn't 8
abbrev pub tally : ℕ → List ℕ → List ℕ
tally total ask = if length ask == 8 then big_bytes 8 (total_with total 3 ask) else []

-- n bytes, of which byte j is j mod 256
abbrev pub counted : ℕ → List ℕ
counted n = map (λ j. j % 256) (range_with_len 0 n)

-- fill: as many bytes as the request's 4 bytes say; none where it hasn't 4, or says more than a
-- message has
abbrev pub fill : List ℕ → List ℕ
fill ask =
    if length ask == 4 && nat_le (big_number 4 ask) MOST_MESSAGE_BYTES then counted
    (big_number 4 ask) else []

-- echo, reverse and fill look at nothing but the request
abbrev pub steady_answer : ℕ → List ℕ → List ℕ
steady_answer req_type ask =
    if req_type == 1 then ask
    else (if req_type == 2 then reverse ask
    else (if req_type == 4 then fill ask else []))

-- a worker's answer: none to the types that it doesn't serve
abbrev pub background_answer : ℕ → List ℕ → List ℕ
background_answer req_type ask =
    if is_in_background req_type then steady_answer (req_type - 128) ask else []

abbrev pub plain_answer : Served → ℕ → List ℕ → List ℕ
plain_answer served req_type ask =
    if req_type == 3 then tally (total_of served) ask
    else (if nat_le req_type 4 then steady_answer req_type ask else background_answer req_type ask)
