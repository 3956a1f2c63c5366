-- What a client end shows of its session, and the conditions of its calls.
use Rattle.std.specs.Prelude.{ℕ, ◌<◌, nat_lt, ◌&&◌, Bool, true, false, Option, Some, None, is_some}
use Rattle.std.specs.Prelude.{option_and_then, option_map, List, [], ◌∷◌}
use Rattle.std.specs.List.{AllByRecursion, find}
use Rattle.rpc_base.specs.declared.event.Event.{Event}
use Rattle.rpc_base.specs.declared.event.Event.TheVariants.{Begun, Posted}
use Rattle.rpc_base.specs.declared.owner.Owner.TheVariants.{Ask}
use Rattle.rpc_base.specs.declared.state.SessionState.{SessionState}
use Rattle.buffer_pool.specs.Pool.{Pool}
use Rattle.client_core.specs.declared.active.Active.{Active}
use Rattle.client_core.specs.Session.{Session}
use Rattle.client_core.specs.Shown.{shown, shown_broken}
use Rattle.rpc_laws.specs.Calls.{is_call}
use Rattle.rpc_laws.specs.GoBackN.{has_timed_out}
use Rattle.rpc_laws.specs.Lives.{no_life}
use Rattle.rpc_laws.specs.Sessions.{comes_to, no_session}
use Rattle.rpc_laws.specs.declared.tables.Call.{Call}
use Rattle.rpc_laws.specs.declared.tables.Client.{Client}
use Rattle.rpc_laws.specs.declared.tables.Progress.{Progress}
use Rattle.session_ends.specs.declared.stage.Stage.{Stage}
use Rattle.session_ends.specs.declared.stage.Stage.TheVariants.{Connecting, Connected, Closing}
use Rattle.session_ends.specs.declared.stage.Stage.TheVariants.{Closed, Failed, Broken}

-- the state of a session at a stage, which may be spent where it is Connected
abbrev pub named : Stage → SessionState
named (Connecting sends sent_at) = SessionState.Connecting
named Connected = SessionState.Connected
named (Closing sends sent_at) = SessionState.Closing
named Closed = SessionState.Closed
named Failed = SessionState.Failed
named Broken = SessionState.Broken

-- a session that sends requests of its own, and how many it sent
abbrev pub asking_in : SessionState → (sends sent_at : ℕ) → Client → Client
asking_in state sends sent_at x = record x { state = state; sends = sends; sent_at = sent_at }

-- one that was never connected: the server's number and its life aren't known
abbrev pub unconnected : Client → Client
unconnected x = record x { way = record x.way { other = no_session; life = no_life } }

-- a session as the definitions over histories have it, at its stage
abbrev pub shown_end : Stage → Pool → ℕ → Session → Client
shown_end (Connecting sends sent_at) pool peer s =
    unconnected (asking_in SessionState.Connecting sends sent_at (shown pool peer s))
shown_end Connected pool peer s = shown pool peer s
shown_end (Closing sends sent_at) pool peer s =
    asking_in SessionState.Closing sends sent_at (shown pool peer s)
shown_end Closed pool peer s = comes_to SessionState.Closed (shown pool peer s)
shown_end Failed pool peer s = unconnected (comes_to SessionState.Failed (shown pool peer s))
shown_end Broken pool peer s = shown_broken pool peer s

-- the calls stand in the order of their numbers
abbrev pub Ascends : List Call → Type 0
Ascends [] = Unit {0}
Ascends (c ∷ cs) = AllByRecursion (λ d. c.what.number < d.what.number) cs × Ascends cs

-- the first active call above a number, if one is given: with calls in the order of their numbers,
-- that of least number
abbrev pub is_above : Option ℕ → Call → Bool
is_above None c = true
is_above (Some n) c = nat_lt n c.what.number

abbrev pub next_above : Option ℕ → Client → Option Call
next_above after x = find (λ c. is_some c.progress && is_above after c) x.calls

-- what is told of an active call
abbrev pub told_of : ℕ → Progress → Active
told_of number p = record { call = number; request = p.request; got = p.got; posted = p.posted }

abbrev pub told_call : Call → Option Active
told_call c = option_map (told_of c.what.number) c.progress

-- the progress of the call with this number, if it is active
abbrev pub progress_of : ℕ → Client → Option Progress
progress_of number x = option_and_then (λ c. c.progress) (find (is_call number) x.calls)

-- whether the clock of a call says that it timed out, whatever is queued: never of one that waits
abbrev pub is_late_by : (now timeout : ℕ) → Option Progress → Bool
is_late_by now timeout None = false
is_late_by now timeout (Some p) = has_timed_out now timeout false p.got p.posted p.mark

abbrev pub is_late : (now timeout : ℕ) → Call → Bool
is_late now timeout c = is_late_by now timeout c.progress

-- the events of a beginning and a posting
abbrev pub begun_event : ℕ × ℕ → Event
begun_event b = Begun b.0 b.1

abbrev pub posted_event : ℕ → ℕ × ℕ → Event
posted_event session p = Posted (Ask session p.0) p.1
