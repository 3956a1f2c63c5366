-- Want of memory as an answer of a run.
use Rattle.std.specs.Prelude.{ℕ, Result, Ok, Err}
use Rattle.rpc_turns.specs.declared.error.RpcError.{RpcError}
use Rattle.rpc_turns.specs.declared.error.RpcError.TheVariants.{NoMemory}

-- how many refusals of memory an error tells
abbrev pub lacks_for : RpcError → ℕ
lacks_for NoMemory = 1
lacks_for why = 0

-- and how many an answer does
abbrev pub lacks : {T : Type 0} → Result T RpcError → ℕ
lacks (Ok x) = 0
lacks (Err why) = lacks_for why
