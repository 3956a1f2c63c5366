-- How the calls of a session that lost its peer end: the active ones in the order of their numbers,
-- and then those that wait, oldest first.
use Rattle.std.specs.Prelude.{◌≡◌, ℕ, Option, Some, None, slice_get}
use Rattle.rpc_base.specs.Least.{least}
use Rattle.message_buffer.specs.Buffer.{with_len}
use Rattle.buffer_pool.specs.Pool.{Pool}
use Rattle.session_slots.specs.declared.waiting.Waiting.{Waiting}
use Rattle.session_slots.specs.Slots.{drained}
use Rattle.client_core.specs.declared.call.ActiveCall.{ActiveCall}
use Rattle.client_core.specs.declared.outcome.Done.{Done}
use Rattle.client_core.specs.declared.outcome.Outcome.TheVariants.{PeerLost}
use Rattle.client_core.specs.Replies.{IsDone, without_buffers, without_call}
use Rattle.client_core.specs.Session.{Session}
use Rattle.client_core.specs.Watching.{call_number, is_after}

-- the active call of least number
abbrev pub next_lost : Session → Option ActiveCall
next_lost s = least (is_after None) call_number s.active

-- a call that waited as it is handed back
pub record IsGivenUp (session : ℕ) (w : Waiting) (d : Done) : Type 0 where
  pub call : d.call ≡ w.call
  pub of_session : d.session ≡ session
  pub tag : d.tag ≡ w.tag
  pub ended_as : d.outcome ≡ PeerLost
  pub req : d.req ≡ w.req
  pub resp : d.resp ≡ with_len 0 w.resp

-- an active call is lost
pub record LosesActive (c : ActiveCall) (d : Done) (old new : Session) (before after : Pool)
    : Type 0 where
  pub done : IsDone old.number PeerLost c before d
  pub session : new ≡ without_call c old
  pub pool : after ≡ without_buffers c before

-- the oldest waiting call is lost
pub record GivesUp (d : Done) (old new : Session) : Type 0 where
  pub waiting : Waiting
  pub oldest : slice_get old.slots.waiting 0 ≡ Some waiting
  pub done : IsGivenUp old.number waiting d
  pub session : new ≡ record old { slots = drained old.slots }

-- the next call to end, where an active one is left and where none is
abbrev pub Loses : Option ActiveCall → Done → Session → Session → Pool → Pool → Type 0
Loses (Some c) d old new before after = LosesActive c d old new before after
Loses None d old new before after = GivesUp d old new × (after ≡ before)
