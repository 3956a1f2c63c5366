-- The server sessions in the order of whose other end they are: by the peer, then by its life, then
-- by their number at the client, then by their own.
use Rattle.std.specs.Prelude.{◌≡◌, ℕ, ◌+◌, ◌*◌, ◌<◌, ◌==◌, List, count_by}
use Rattle.std.specs.List.{AllByRecursion}
use Rattle.std.specs.List.Sorted.{IsNonDecreasing}
use Rattle.rpc_laws.specs.declared.tables.Way.{Way}
use Rattle.session_ends.specs.declared.ends.TheConstants.{LIVES, SPAN}

-- the code of a session: the four as one number
abbrev pub end_code : (peer life client number : ℕ) → ℕ
end_code peer life client number = ((peer * LIVES + life) * SPAN + client) * SPAN + number

abbrev pub code_of : Way → ℕ
code_of w = end_code w.peer w.life w.other w.number

-- each part of a code has its range
abbrev pub HasParts : Way → Type 0
HasParts w = (w.life < LIVES) × (w.other < SPAN) × (w.number < SPAN)

-- the codes of these sessions, and no others, in rising order
pub record EndOrder (ends : List ℕ) (ways : List Way) : Type 0 where
  pub rises : IsNonDecreasing ends
  -- each is there as often as there are sessions with it
  pub each : (n : ℕ) → count_by (λ code. code == n) ends ≡ count_by (λ w. code_of w == n) ways
  -- numbers have 16 bits and lives 32, so two ends never have one code
  pub small : AllByRecursion HasParts ways
