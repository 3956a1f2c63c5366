-- What the steps of a node want of a session.
use Rattle.std.specs.Prelude.{ℕ, ◌<◌, ◌≡◌, List, None, length, slice_get}
use Rattle.client_core.specs.declared.active.Active.{Active}
use Rattle.node_laws.specs.NodeRun.{IsCredits}
use Rattle.node_laws.specs.Valid.{NumberedFrom}
use Rattle.rpc_base.specs.declared.state.SessionState.{SessionState}
use Rattle.rpc_laws.specs.declared.tables.Pace.{Pace}
use Rattle.rpc_laws.specs.Groups.{client_refusal, server_refusal}
use Rattle.session_store.specs.Changes.{ActiveAt, IsConnected, IsInState}
use Rattle.node_steps.specs.Fits.{pace_no}
use Rattle.node_steps.specs.Handed.{Holding}
use Rattle.node_steps.specs.Timers.{HasFewRolls}

-- client session i is there, in this state
pub record StandsIn (state : SessionState) (i : ℕ) (s : Holding) : Type 0 where
  pub known : i < length s.lists.clients
  pub stands : IsInState state (slice_get s.lists.clients i)

-- it is there, and connected
pub record CanBreak (i : ℕ) (s : Holding) : Type 0 where
  pub known : i < length s.lists.clients
  pub connected : IsConnected (slice_get s.lists.clients i)

-- it is there, with this active call
pub record HasActive (i : ℕ) (a : Active) (s : Holding) : Type 0 where
  pub known : i < length s.lists.clients
  pub active : ActiveAt i a s.lists.clients

-- and the call has rolled back fewer than eight times
pub record CanRoll (i : ℕ) (a : Active) (s : Holding) : Type 0 where
  pub known : i < length s.lists.clients
  pub active : ActiveAt i a s.lists.clients
  pub few : HasFewRolls i a.call s.lists.clients

-- there is a pace for session i, in its place
pub record HasPace (i : ℕ) (paces : List Pace) : Type 0 where
  pub known : i < length paces
  pub numbered : NumberedFrom pace_no 0 paces

-- there are a number and room for a client session with these credits
pub record FitsClient (n : ℕ) (s : Holding) : Type 0 where
  pub credits : IsCredits n
  pub fits : client_refusal n s.lists ≡ None

-- and for a server session
pub record FitsServer (n : ℕ) (s : Holding) : Type 0 where
  pub credits : IsCredits n
  pub fits : server_refusal n s.lists ≡ None
