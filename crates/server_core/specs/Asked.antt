-- What a session tells of a request's bytes and of its answer.
use Rattle.std.specs.Prelude.{ℕ, List, [], Option, Some, None}
use Rattle.rpc_laws.specs.declared.tables.Served.{Served}

-- the bytes taken so far of a request, if there is one
abbrev pub bytes_taken : Option Served → List ℕ
bytes_taken None = []
bytes_taken (Some l) = l.ask

abbrev pub bytes_in : Option (List ℕ) → List ℕ
bytes_in None = []
bytes_in (Some bytes) = bytes

-- those of its answer, if that is there
abbrev pub bytes_answered : Option Served → List ℕ
bytes_answered None = []
bytes_answered (Some l) = bytes_in l.answer
