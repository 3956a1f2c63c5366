-- Client sessions of which a poll notes nothing, whatever its clock.
use Rattle.std.specs.Prelude.{ℕ, ◌==◌, Bool, true, false, ◌&&◌, Option, Some, None, length}
use Rattle.std.specs.Prelude.{slice_get}
use Rattle.rpc_base.specs.declared.state.SessionState.{SessionState}
use Rattle.rpc_base.specs.declared.state.SessionState.TheVariants.{Connecting, Closing}
use Rattle.rpc_laws.specs.declared.tables.Client.{Client}
use Rattle.rpc_laws.specs.declared.tables.Lists.{Lists}

-- whether a session in this state has no request of its own to send
abbrev pub asks_nothing : SessionState → Bool
asks_nothing Connecting = false
asks_nothing Closing = false
asks_nothing _ = true

-- whether a session has neither a request of its own to send nor calls
abbrev pub is_at_rest : Client → Bool
is_at_rest x = asks_nothing x.state && length x.calls == 0

abbrev pub rests_if : Option Client → Bool
rests_if None = true
rests_if (Some x) = is_at_rest x

abbrev pub rests : ℕ → Lists → Bool
rests i s = rests_if (slice_get s.clients i)
