-- Jobs for workers: what is given, and what comes back.
use Rattle.std.specs.Prelude.{◌≡◌, ◌+◌, ℕ, ◌≤◌, ◌⊎◌, true, List, [], ◌∷◌, length, Option, Some}
use Rattle.std.specs.Prelude.{None}
use Rattle.rpc_base.specs.declared.limits.TheConstants.{MOST_GIVEN}
use Rattle.message_buffer.specs.Buffer.{bytes_of}
use Rattle.worker_board.specs.declared.Parcel.{Parcel}
use Rattle.worker_crew.specs.declared.workers.Finished.{Finished}

-- a job: whose request it is, its type, and the bytes asked
pub record Job : Type 0 where
  pub session : ℕ
  pub request : ℕ
  pub req_type : ℕ
  pub ask : List ℕ

abbrev pub job_of : Parcel → Job
job_of p =
    record { session = p.session; request = p.request; req_type = p.req_type; ask = bytes_of p.ask }

-- the buffer for the answer has the answer's length
abbrev pub HasRoom : (ℕ → List ℕ → List ℕ) → Parcel → Type 0
HasRoom answer p = length (answer p.req_type (bytes_of p.ask)) ≡ p.out.len

-- the buffer has the answer
abbrev pub IsAnswered : (ℕ → List ℕ → List ℕ) → Parcel → Type 0
IsAnswered answer p = bytes_of p.out ≡ answer p.req_type (bytes_of p.ask)

-- as many jobs as the limit are given and not taken, or 2 ^ 61 were given so far
abbrev pub IsFull : ℕ → ℕ → ℕ → Type 0
IsFull limit out given = (limit ≤ out) ⊎ (MOST_GIVEN ≤ given)

-- where the worked jobs are told, the first of them is taken; there is none exactly where none is
-- worked
abbrev pub TakesFirst : Option (List Parcel) → Option (List Parcel) → Option Finished → Type 0
TakesFirst None new result = new ≡ None
TakesFirst (Some []) new result = (result ≡ None) × (new ≡ Some [])
TakesFirst (Some (p ∷ ps)) new result =
    (result ≡ Some (record { parcel = p; worked = true })) × (new ≡ Some ps)

-- where they aren't told, nothing is taken only where no job is out, or where each job that is out
-- was found unfinished in this call
abbrev pub FoundUnfinished : Option (List Parcel) → ℕ → ℕ → ℕ → Type 0
FoundUnfinished None out looks later = (out ≡ 0) ⊎ (looks + out ≤ later)
FoundUnfinished (Some ps) out looks later = Unit {0}
