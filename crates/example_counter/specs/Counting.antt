-- A service that answers how many requests it served before.
use Rattle.std.specs.Prelude.{◌≡◌, ℕ, ◌%◌, ◌^◌, List, length}
use Rattle.byteorder.specs.Endian.{big_bytes}
use Rattle.example_counter.specs.declared.counter.Counter.{Counter}
use Rattle.rpc_outside.specs.declared.service.Mode.{Mode}
use Rattle.rpc_outside.specs.declared.service.Mode.TheVariants.{Inline, Background}
use Rattle.rpc_outside.specs.Served.{Served}

-- it serves every type in the event loop
abbrev pub counting_mode : ℕ → Mode
counting_mode req_type = Inline

-- how many requests those are, modulo 2 ^ 64
abbrev pub count_of : Served → ℕ
count_of served = length served % 2 ^ 64

-- the number of requests before this one, in 8 bytes
abbrev pub count_answer : Served → ℕ → List ℕ → List ℕ
count_answer served req_type ask = big_bytes 8 (count_of served)

-- a counter stands for as many requests as it counted
abbrev pub CountStands : Counter → Served → Type 0
CountStands counter served = counter.count ≡ count_of served

pub not-background : (req_type : ℕ) → counting_mode req_type ≡ Background → ⊥
not-background req_type e = cc

pub steady-count : (req_type : ℕ) (ask : List ℕ) (one other : Served)
    → counting_mode req_type ≡ Background
    → count_answer one req_type ask ≡ count_answer other req_type ask
steady-count req_type ask one other h = absurd (not-background req_type h)
