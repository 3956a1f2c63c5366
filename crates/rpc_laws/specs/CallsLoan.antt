-- What the calls of a session end as, once a `&mut` to one of them has ended.
use Rattle.std.specs.Prelude.{ℕ, List, slice_set}
use Rattle.std.specs.Borrow.{Fml, MutBor, Lends}
use Rattle.rpc_laws.specs.declared.tables.Call.{Call}
use Rattle.rpc_laws.specs.contracts.tables.Call.{the_row as call_row}
use Rattle.rpc_laws.specs.contracts.calls.Calls.{the_row}

-- call i is the last value that was written through r
abbrev pub lends_call : MutBor (List Call) → ℕ → MutBor Call → Fml
lends_call s i r = Lends the_row call_row s r (slice_set s.now i)
