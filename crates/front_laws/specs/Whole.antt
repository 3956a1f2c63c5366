-- Whole prefixes: no node is in the midst of a poll.
use Rattle.std.specs.Prelude.{ℕ, ◌≡◌, ◌||◌, ◌&&◌, not, Bool, true, false, List, [], ◌∷◌}
use Rattle.std.specs.Prelude.{if◌then◌else◌}
use Rattle.rpc_base.specs.declared.event.Event.{Event}
use Rattle.rpc_base.specs.declared.event.Event.TheVariants.{Begun, Posted, Flushed, Sent, Unsent}
use Rattle.rpc_base.specs.declared.event.Event.TheVariants.{Heard, Took, Again, Dropped, Given}
use Rattle.rpc_base.specs.declared.event.Event.TheVariants.{Ran, Rolled, DoneOk, DoneTooSmall}
use Rattle.rpc_base.specs.declared.event.Event.TheVariants.{DonePeerLost, Accepted, Declined}
use Rattle.rpc_base.specs.declared.event.Event.TheVariants.{Starved, Connected, FailedNoRoom}
use Rattle.rpc_base.specs.declared.event.Event.TheVariants.{FailedNoAnswer, ClosedHeard}
use Rattle.rpc_base.specs.declared.event.Event.TheVariants.{ClosedUnheard, Ended, Broken, Polled}
use Rattle.rpc_base.specs.declared.event.Event.TheVariants.{Restarted}
use Rattle.rpc_base.specs.declared.fact.Fact.{Fact}
use Rattle.rpc_laws.specs.AtMostOnce.{is_at}

-- an event that only a poll makes
abbrev pub is_polls : Event → Bool
is_polls (Begun call request) = true
is_polls (Posted owner number) = true
is_polls (Flushed owner number) = true
is_polls (Sent peer owner number) = true
is_polls (Unsent peer) = true
is_polls Heard = true
is_polls (Took owner number) = true
is_polls (Again owner number) = true
is_polls (Dropped reason) = true
is_polls (Given session request) = true
is_polls (Ran session request req_type) = true
is_polls (Rolled call posted got) = true
is_polls (DoneOk call) = true
is_polls (DoneTooSmall call size) = true
is_polls (DonePeerLost call) = true
is_polls (Accepted session peer client credits life) = true
is_polls (Declined peer client credits) = true
is_polls (Starved peer client credits) = true
is_polls (Connected session server life) = true
is_polls (FailedNoRoom session) = true
is_polls (FailedNoAnswer session) = true
is_polls (ClosedHeard session) = true
is_polls (ClosedUnheard session) = true
is_polls (Ended session) = true
is_polls (Broken session) = true
is_polls _ = false

-- an event after which no poll is open: the one that ends it, and the one that begins a life
abbrev pub ends_poll : Event → Bool
ends_poll (Polled now) = true
ends_poll (Restarted life) = true
ends_poll _ = false

-- whether a node is in the midst of a poll, after an event of it
abbrev pub open_after : Event → Bool → Bool
open_after event busy = is_polls event || (busy && not (ends_poll event))

-- and after some facts
abbrev pub is_open : ℕ → Bool → List Fact → Bool
is_open n busy [] = busy
is_open n busy (f ∷ h) = is_open n (if is_at n f.who then open_after f.event busy else busy) h

-- the same of a node's own facts
abbrev pub ends_open : Bool → List Fact → Bool
ends_open busy [] = busy
ends_open busy (f ∷ h) = ends_open (open_after f.event busy) h

abbrev pub IsWhole : List Fact → Type 0
IsWhole h = (n : ℕ) → is_open n false h ≡ false
