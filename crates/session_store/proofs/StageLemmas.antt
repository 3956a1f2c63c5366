-- The stages of a client session: what is shown of one that isn't connected takes no packet, begins no
-- call and posts none.
use Rattle.std.proofs.Common.{◌≡◌, ℕ, true, false, Option, None, refl}
use Rattle.buffer_pool.specs.Pool.{Pool}
use Rattle.client_core.specs.Session.{Session}
use Rattle.rpc_base.specs.declared.event.Event.{Event}
use Rattle.rpc_laws.specs.Posting.{if_connected}
use Rattle.rpc_laws.specs.Sessions.{is_connected as takes_calls}
use Rattle.rpc_laws.specs.declared.tables.Client.{Client}
use Rattle.session_ends.specs.declared.stage.Stage.{Stage}
use Rattle.session_ends.specs.declared.stage.Stage.TheVariants.{Connecting, Connected, Closing}
use Rattle.session_ends.specs.declared.stage.Stage.TheVariants.{Closed, Failed, Broken}
use Rattle.session_store.specs.Ends.{shown_end}
use Rattle.session_ends.specs.Stages.{is_connected}

pub connected-stage : (stage : Stage) → is_connected stage ≡ true → stage ≡ Connected
connected-stage (Connecting n t) e = cc
connected-stage Connected e = refl
connected-stage (Closing n t) e = cc
connected-stage Closed e = cc
connected-stage Failed e = cc
connected-stage Broken e = cc

module _ (pool : Pool) (peer : ℕ) (s : Session) where
  pub stage-state : (stage : Stage)
      → takes_calls (shown_end stage pool peer s).state ≡ is_connected stage
  stage-state (Connecting n t) = refl
  stage-state Connected = refl
  stage-state (Closing n t) = refl
  stage-state Closed = refl
  stage-state Failed = refl
  stage-state Broken = refl

  pub stage-rests : (next : Client → Option Event) (stage : Stage) → is_connected stage ≡ false
      → if_connected next (shown_end stage pool peer s) ≡ None
  stage-rests next stage e = rw (stage-state stage, e) refl
