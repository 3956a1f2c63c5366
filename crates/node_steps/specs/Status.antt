-- What an endpoint tells of itself.
use Rattle.std.specs.Prelude.{◌≡◌, ℕ, Bool, true, false, Option, Some, None, [], length}
use Rattle.std.specs.Prelude.{if◌then◌else◌}
use Rattle.rpc_base.specs.declared.state.SessionState.{SessionState}
use Rattle.rpc_base.specs.declared.state.SessionState.TheVariants.{Closing, Connected, Spent}
use Rattle.rpc_laws.specs.declared.tables.Client.{Client}
use Rattle.rpc_laws.specs.declared.tables.Lists.{Lists}

-- a session that takes calls, or took them and is closing
abbrev pub has_credits : SessionState → Bool
has_credits Connected = true
has_credits Spent = true
has_credits Closing = true
has_credits _ = false

-- the free credits of such a session
abbrev pub free_told : Option Client → Option ℕ
free_told None = None
free_told (Some x) = if has_credits x.state then Some x.free else None

-- how many calls of a session are active or wait
abbrev pub pending_told : Option Client → ℕ
pending_told None = 0
pending_told (Some x) = length x.calls

-- every datagram that came was handled
pub record IsDrained (s : Lists) : Type 0 where
  pub ring : s.ring ≡ []
  pub inbox : s.inbox ≡ []

-- no datagram stands in the ring or the inbox, no packet is queued, and no job is out
pub record IsQuiet (s : Lists) : Type 0 where
  pub ring : s.ring ≡ []
  pub inbox : s.inbox ≡ []
  pub queued : s.queued ≡ []
  pub jobs : s.jobs.out ≡ []
