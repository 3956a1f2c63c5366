-- What a Request or RFR does to the server session that it is for, and to the queue.
use Rattle.std.specs.Prelude.{◌≡◌, ◌≢◌, ◌<◌, ℕ, Bool, true, false, not, List, [], ◌∷◌, length}
use Rattle.std.specs.Prelude.{Option, Some, None, IfSome, slice_get, slice_set, if◌then◌else◌}
use Rattle.std.specs.List.{AllByRecursion, filter, find}
use Rattle.rpc_outside.specs.Recording.{Log}
use Rattle.rpc_base.specs.declared.event.Event.TheVariants.{Dropped as DroppedEvent}
use Rattle.rpc_base.specs.declared.fact.Fact.{Fact}
use Rattle.rpc_base.specs.declared.owner.Owner.TheVariants.{Reply}
use Rattle.rpc_base.specs.declared.state.DropReason.TheVariants.{NoMemory}
use Rattle.packet_header.specs.declared.packet.MessageHeader.{MessageHeader}
use Rattle.packet_rings.specs.Values.{EntryValue}
use Rattle.rpc_laws.specs.Facts.{plain}
use Rattle.rpc_laws.specs.Requests.{in_slot_of}
use Rattle.rpc_laws.specs.ServerTable.{served_facts, server_row}
use Rattle.rpc_laws.specs.declared.rows.ServerRow.{ServerRow}
use Rattle.rpc_laws.specs.declared.rows.ServerRow.TheVariants.{Drops}
use Rattle.rpc_laws.specs.declared.tables.Queued.{Queued}
use Rattle.rpc_laws.specs.declared.tables.Served.{Served as ServedRequest}
use Rattle.rpc_laws.specs.declared.tables.Server.{Server}
use Rattle.rpc_outside.specs.declared.service.Mode.{Mode}
use Rattle.rpc_outside.specs.declared.service.Mode.TheVariants.{Unserved}
use Rattle.rpc_outside.specs.declared.service.Service as Service
use Rattle.server_core.specs.Flushing.{has_begun, replies_of}
use Rattle.server_core.specs.Handling.{rule_for}
use Rattle.server_core.specs.Noting.{Handled}
use Rattle.server_core.specs.Scene.{Incoming, Scene, in_scene}
use Rattle.server_core.specs.Steps.{IfGiven, IfReply, IsParcel, IsStepOf, NeedsNoMemory, UnlessRan}
use Rattle.server_core.specs.Steps.{whole_with}
use Rattle.server_core.specs.declared.step.Step.{Step}
use Rattle.server_core.specs.declared.step.Step.TheVariants.{Took, Again, Ran, Give, Dropped}
use Rattle.session_ends.specs.Joined.{is_owned}
use Rattle.session_store.specs.Joined.{put_ready}
use Rattle.session_store.specs.Sides.{HasRoom, Shown}

-- a reply finds room: for an entry more in the queue, and for the buffers of its request
pub record CanReply (s : Shown) : Type 0 where
  pub ring : length s.queued < s.size
  pub room : HasRoom s

-- all requests of server session i are of types that are served
abbrev pub AreServedAt : (ℕ → Mode) → ℕ → List Server → Type 0
AreServedAt mode_of i servers = IfSome (slice_get servers i)
    (λ v. AllByRecursion (λ q. mode_of q.req_type ≢ Unserved) v.slots)

-- the facts of a packet at a node, which are those of the server rule unless memory was wanting
abbrev pub handled_facts : (me : ℕ) → List Fact → Step → List Fact
handled_facts me ruled (Took reply) = ruled
handled_facts me ruled (Again reply) = ruled
handled_facts me ruled (Ran reply) = ruled
handled_facts me ruled (Give parcel) = ruled
handled_facts me ruled (Dropped NoMemory) = plain me (DroppedEvent NoMemory) ∷ []
handled_facts me ruled (Dropped why) = ruled

-- the queue without the replies to a request of session t
abbrev pub without_owned : ℕ → Option ServedRequest → List Queued → List Queued
without_owned t None queued = queued
without_owned t (Some q) queued = filter (λ x. not (is_owned (Reply t q.number) x)) queued

-- and once a packet was handled: where a request began, the replies to the older one of its slot
-- are taken out, and the packet's reply is put behind what is ready
abbrev pub queue_handled : ServerRow → Step → Server → MessageHeader → List Queued → List Queued
queue_handled row step v h queued =
    put_ready (replies_of step) (if has_begun row step
    then without_owned v.way.number (find (in_slot_of h.request) v.slots) queued else queued)

-- the reply to a packet of server session t
abbrev pub IsReplyOf : (t : ℕ) → MessageHeader → EntryValue → Type 0
IsReplyOf t h e = (e.owner ≡ Reply t h.request) × (e.number ≡ h.number)

-- what the server rule says of a packet to a session
abbrev pub row_at : Mode → (jobs_full lacks : Bool) → MessageHeader → Server → ServerRow
row_at mode jobs_full lacks h v = server_row mode jobs_full lacks (Some v) v.way.peer h

-- a store, with the service and the recorder beside it
abbrev pub in_store : {V R : Type 0} → Shown → V → R → Scene Shown V R
in_store s service recorder = record { state = s; service = service; recorder = recorder }

-- server session i handled the packet as the node me, by the server rule
pub record HandlesAt {V R : Type 0} (v : Service.Ghosts V) (log : R → Log) (me i : ℕ)
    (packet : Incoming) (step : Step) (before after : Scene Shown V R) : Type 0 where
  pub server : Server
  pub place : slice_get before.state.servers i ≡ Some server
  pub row : IsStepOf (v.mode_of packet.head.req_type) packet.head (rule_for v false packet server)
      step
  pub lacks : step ≡ Dropped NoMemory → rule_for v true packet server ≡ Drops NoMemory
  pub later : Server
  pub handled : Handled v log (λ answer. handled_facts me
      (served_facts (v.mode_of packet.head.req_type) me answer before.state.queued (Some server)
      packet.head packet.body (rule_for v false packet server)) step) packet.head packet.body step
      (in_scene server before) (in_scene later after)
  pub reply : IfReply step (IsReplyOf server.way.number packet.head)
  pub give : IfGiven step
      (IsParcel v.answer (v.stands before.service) packet.head packet.body server)
  -- a short answer of a type that is handled inline needs no memory
  pub short : NeedsNoMemory (v.mode_of packet.head.req_type) v.answer (v.stands before.service)
      packet.head (whole_with packet.head packet.body server) step
  pub changed : after.state.servers ≡ slice_set before.state.servers i later
  pub queue : after.state.queued ≡ queue_handled (rule_for v false packet server) step server
      packet.head before.state.queued
  pub all_served : AreServedAt v.mode_of i after.state.servers
  pub service : UnlessRan step (after.service ≡ before.service)
  -- nothing else changes
  pub clients : after.state.clients ≡ before.state.clients
  pub size : after.state.size ≡ before.state.size
  pub handed : after.state.handed ≡ before.state.handed
  pub places : after.state.places ≡ before.state.places
