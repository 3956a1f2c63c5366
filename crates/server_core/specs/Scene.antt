-- What a packet that is handled may change.
use Rattle.std.specs.Prelude.{ℕ, Bool, List}
use Rattle.buffer_pool.specs.Pool.{Pool}
use Rattle.packet_header.specs.declared.packet.MessageHeader.{MessageHeader}
use Rattle.packet_rings.specs.Rings.{Ring}
use Rattle.packet_rings.specs.Values.{EntryValue}
use Rattle.rpc_laws.specs.declared.tables.Server.{Server}
use Rattle.server_core.specs.Session.{Session}
use Rattle.server_core.specs.Shown.{shown}

-- a state, with the service and the recorder beside it
pub record Scene (S V R : Type 0) : Type 0 where
  pub state : S
  pub service : V
  pub recorder : R

abbrev pub scene : {S V R : Type 0} → S → V → R → Scene S V R
scene state service recorder =
    record { state = state; service = service; recorder = recorder }

-- another state at the same scene
abbrev pub in_scene : {S T V R : Type 0} → T → Scene S V R → Scene T V R
in_scene state x = scene state x.service x.recorder

-- a session and the pool that it works on
pub record Pooled : Type 0 where
  pub session : Session
  pub pool : Pool

abbrev pub pooled : {V R : Type 0} → Session → Pool → V → R → Scene Pooled V R
pooled s pool service recorder = scene (record { session = s; pool = pool }) service recorder

-- the session as the definitions over histories have it
abbrev pub seen : {V R : Type 0} → Scene Pooled V R → Scene Server V R
seen x = in_scene (shown x.state.pool x.state.session) x

-- and with the transmit ring
pub record Desk : Type 0 where
  pub session : Session
  pub pool : Pool
  pub ring : Ring EntryValue

abbrev pub at_desk : {V R : Type 0} → Session → Pool → Ring EntryValue → V → R → Scene Desk V R
at_desk s pool ring service recorder =
    scene (record { session = s; pool = pool; ring = ring }) service recorder

abbrev pub without_ring : {V R : Type 0} → Scene Desk V R → Scene Pooled V R
without_ring x = in_scene (record { session = x.state.session; pool = x.state.pool }) x

-- a Request or RFR that came: its header and its body, and whether the node's jobs are full then
pub record Incoming : Type 0 where
  pub head : MessageHeader
  pub body : List ℕ
  pub jobs_full : Bool

abbrev pub incoming : MessageHeader → List ℕ → Bool → Incoming
incoming head body jobs_full = record { head = head; body = body; jobs_full = jobs_full }
