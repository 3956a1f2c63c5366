-- How a call that asks a fan's bytes is answered.
use Rattle.std.specs.Prelude.{◌≡◌, ℕ, Option, Some, None, List, Result, Ok, Err}
use Rattle.client_core.specs.Handing.{Handed}
use Rattle.message_buffer.specs.Buffer.{Buffer, bytes_of}
use Rattle.session_store.specs.Handing.{HandsInAt}
use Rattle.node_steps.specs.declared.refusals.AskError.{AskError}
use Rattle.node_steps.specs.declared.refusals.AskError.TheVariants.{TooLarge as AskTooLarge}
use Rattle.node_steps.specs.declared.refusals.AskError.TheVariants.{NotConnected as AskNotConnected}
use Rattle.fan_calls.specs.declared.asking.FanError.{FanError}
use Rattle.fan_calls.specs.declared.asking.FanError.TheVariants.{Gone, TooLarge, NotConnected}
use Rattle.fan_calls.specs.declared.asking.FanError.TheVariants.{NoMemory}

-- the fan was empty
abbrev pub IsGone : Result ℕ FanError → Type 0
IsGone (Ok call) = ⊥
IsGone (Err Gone) = Unit {0}
IsGone (Err (TooLarge len)) = ⊥
IsGone (Err (NotConnected state)) = ⊥
IsGone (Err NoMemory) = ⊥

-- a call that nothing refuses has the next number, unless the fan was empty or memory is wanting;
-- a refusal is the endpoint's own
abbrev pub IsFanAskedAs : Option AskError → ℕ → Result ℕ FanError → Type 0
IsFanAskedAs refusal next (Ok call) = (call ≡ next) × (refusal ≡ None)
IsFanAskedAs refusal next (Err Gone) = Unit {0}
IsFanAskedAs refusal next (Err (TooLarge len)) = refusal ≡ Some (AskTooLarge len)
IsFanAskedAs refusal next (Err (NotConnected state)) = refusal ≡ Some (AskNotConnected state)
IsFanAskedAs refusal next (Err NoMemory) = Unit {0}

-- what holds where the endpoint accepted the call, or noted why it refused it
abbrev pub WhereAsked : Result ℕ FanError → Type 0 → Type 0
WhereAsked (Ok call) claim = claim
WhereAsked (Err Gone) claim = Unit {0}
WhereAsked (Err (TooLarge len)) claim = claim
WhereAsked (Err (NotConnected state)) claim = claim
WhereAsked (Err NoMemory) claim = Unit {0}

-- and what holds where the fan was empty or memory was wanting
abbrev pub WhereSilent : Result ℕ FanError → Type 0 → Type 0
WhereSilent (Ok call) claim = Unit {0}
WhereSilent (Err Gone) claim = claim
WhereSilent (Err (TooLarge len)) claim = Unit {0}
WhereSilent (Err (NotConnected state)) claim = Unit {0}
WhereSilent (Err NoMemory) claim = claim

-- what is handed in with a call that asks what this buffer has
abbrev pub handed_with : Buffer → (call tag room : ℕ) → Handed
handed_with req call tag room = record { call = call; tag = tag; req = Some req; room = room }

-- a buffer of these bytes is handed in with the call
abbrev pub HandsInBytes : List ℕ → (session call tag room : ℕ) → (old new : List (List Handed))
    → Type 0
HandsInBytes bytes session call tag room old new =
    (req : Buffer) × (bytes_of req ≡ bytes)
    × HandsInAt session (handed_with req call tag room) old new

-- how many refusals of memory an error tells
abbrev pub lacks_for : FanError → ℕ
lacks_for NoMemory = 1
lacks_for why = 0

-- and how many the answer to a call does
abbrev pub lacks : Result ℕ FanError → ℕ
lacks (Ok call) = 0
lacks (Err why) = lacks_for why
