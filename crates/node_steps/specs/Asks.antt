-- Which calls are refused.
use Rattle.std.specs.Prelude.{◌≡◌, ◌≢◌, ◌⊎◌, ℕ, nat_lt, Option, Some, None, Result, Ok, Err}
use Rattle.std.specs.Prelude.{if◌then◌else◌}
use Rattle.node_steps.specs.declared.refusals.AskError.{AskError}
use Rattle.node_steps.specs.declared.refusals.AskError.TheVariants.{TooLarge, NotConnected}
use Rattle.node_steps.specs.declared.refusals.AskError.TheVariants.{NoMemory}
use Rattle.node_steps.specs.declared.refusals.Refused.{Refused}
use Rattle.message_buffer.specs.Buffer.{Buffer}
use Rattle.rpc_base.specs.declared.limits.TheConstants.{MOST_MESSAGE_BYTES}
use Rattle.rpc_base.specs.declared.state.SessionState.{SessionState}
use Rattle.rpc_base.specs.declared.state.SessionState.TheVariants.{Connected}

-- a session that isn't Connected takes no call
abbrev pub refusal_in : SessionState → Option AskError
refusal_in Connected = None
refusal_in state = Some (NotConnected state)

-- why a call of so many bytes is refused on a session in this state
abbrev pub refusal_of : ℕ → SessionState → Option AskError
refusal_of len state =
    if nat_lt MOST_MESSAGE_BYTES len then Some (TooLarge len) else refusal_in state

-- a call that nothing refuses has the next number, unless memory is wanting. One that is refused
-- comes back as it was
abbrev pub IsAskedAs : Option AskError → ℕ → (req resp : Buffer) → Result ℕ Refused → Type 0
IsAskedAs refusal next req resp (Ok call) = (call ≡ next) × (refusal ≡ None)
IsAskedAs refusal next req resp (Err r) =
    (r.req ≡ req) × (r.resp ≡ resp)
    × ((refusal ≡ Some r.why) ⊎ ((r.why ≡ NoMemory) × (refusal ≡ None)))

-- what holds unless memory was wanting
abbrev pub UnlessWanting : Result ℕ Refused → Type 0 → Type 0
UnlessWanting (Ok call) claim = claim
UnlessWanting (Err r) claim = r.why ≢ NoMemory → claim

-- and what holds where it was
abbrev pub IfWanting : Result ℕ Refused → Type 0 → Type 0
IfWanting (Ok call) claim = Unit {0}
IfWanting (Err r) claim = r.why ≡ NoMemory → claim
