-- How much a client session has left to post and to begin.
use Rattle.std.specs.Prelude.{ℕ, Option, Some, None, List, count_by, slice_get}
use Rattle.rpc_laws.specs.declared.tables.Client.{Client}
use Rattle.rpc_laws.specs.Calls.{is_waiting}

abbrev pub free_in : Option Client → ℕ
free_in None = 0
free_in (Some x) = x.free

-- the free credits of session i
abbrev pub free_at : ℕ → List Client → ℕ
free_at i xs = free_in (slice_get xs i)

abbrev pub waiting_in : Option Client → ℕ
waiting_in None = 0
waiting_in (Some x) = count_by is_waiting x.calls

-- its calls that wait for a slot
abbrev pub waiting_at : ℕ → List Client → ℕ
waiting_at i xs = waiting_in (slice_get xs i)
