-- What is answered where a rate is set.
use Rattle.std.specs.Prelude.{◌≡◌, true, false, Result, Ok, Err}
use Rattle.rpc_base.specs.declared.state.SessionState.{SessionState}
use Rattle.rpc_laws.specs.Sessions.{is_live}

-- refused exactly where the session isn't live, with its state
abbrev pub RatedAs : SessionState → Result (Unit {0}) SessionState → Type 0
RatedAs state (Ok done) = is_live state ≡ true
RatedAs state (Err told) = (is_live state ≡ false) × (told ≡ state)
