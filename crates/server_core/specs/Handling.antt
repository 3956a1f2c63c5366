-- What a session needs to handle a Request or RFR, and what handling it leaves.
use Rattle.std.specs.Prelude.{◌≡◌, ℕ, ◌+◌, ◌<◌, ◌++◌, [], Bool, false, true, List, None, Some}
use Rattle.std.specs.Prelude.{IfSome}
use Rattle.buffer_pool.specs.Pool.{Pool, changed, held, spare_of}
use Rattle.message_buffer.specs.Buffer.{Buffer, bytes_of}
use Rattle.message_buffer.specs.Messages.{HasSize}
use Rattle.packet_header.specs.Parts.{packet_count}
use Rattle.packet_header.specs.declared.packet.MessageHeader.{MessageHeader}
use Rattle.packet_rings.specs.Rings.{ring}
use Rattle.packet_rings.specs.Values.{EntryValue}
use Rattle.rpc_base.specs.declared.fact.Fact.{Fact}
use Rattle.rpc_base.specs.declared.fact.Who.{Who}
use Rattle.rpc_base.specs.declared.state.DropReason.TheVariants.{NoMemory}
use Rattle.rpc_laws.specs.declared.rows.ServerRow.{ServerRow}
use Rattle.rpc_laws.specs.declared.rows.ServerRow.TheVariants.{Begins, Drops}
use Rattle.rpc_laws.specs.Requests.{answered, given}
use Rattle.rpc_laws.specs.ServerTable.{server_row}
use Rattle.rpc_laws.specs.declared.tables.Server.{Server}
use Rattle.rpc_outside.specs.Recording.{Grew, Log}
use Rattle.rpc_outside.specs.declared.service.Mode.{Mode}
use Rattle.rpc_outside.specs.declared.service.Service as Service
use Rattle.server_core.specs.Counting.{IsCounted}
use Rattle.server_core.specs.Flushing.{HoldsReplies, replies_of, ring_after}
use Rattle.server_core.specs.Keeping.{BeginsWithReply, GivesReply, KeepsPlaces, KeepsReplies}
use Rattle.server_core.specs.KeepsPool.{KeepsPool}
use Rattle.server_core.specs.Homes.{HasOwn}
use Rattle.server_core.specs.Noting.{Handled, IsByRule, early_facts, ran_facts}
use Rattle.server_core.specs.Replies.{CanHold, placed_entry}
use Rattle.server_core.specs.Rows.{row_of}
use Rattle.server_core.specs.Scene.{Desk, Incoming, Pooled, Scene, seen, without_ring}
use Rattle.server_core.specs.Session.{Session, newest}
use Rattle.server_core.specs.Shown.{shown}
use Rattle.server_core.specs.Steps.{AreServed, HasNoBytes, IfGiven, IfRan, IfReply, IsAnswer}
use Rattle.server_core.specs.Steps.{IsParcel, IsReply, IsStepOf, LeavesPool, LeavesSession}
use Rattle.server_core.specs.Steps.{NeedsNoMemory, UnlessRan, asked_with, begun_with, first_shown}
use Rattle.server_core.specs.Steps.{gone_on_as, whole_with}
use Rattle.server_core.specs.declared.slot.SlotRequest.{SlotRequest}
use Rattle.server_core.specs.declared.slot.Stored.{Stored}
use Rattle.server_core.specs.declared.step.Step.{Step}
use Rattle.server_core.specs.declared.step.Step.TheVariants.{Dropped}

-- the pool has what the session needs of it and one place to spare, and one reply more can be
-- counted. Where the packet begins a newer request, the entries have each reply to the older one of
-- its slot that is neither sent nor flushed
pub record IsReady (mode : Mode) (jobs_full : Bool) (h : MessageHeader) (s : Session) (pool : Pool)
    (entries : List EntryValue) : Type 0 where
  pub keeps_pool : KeepsPool pool s.slots
  pub spare : 0 < spare_of pool
  pub queued : row_of mode jobs_full h s ≡ Begins
      → IfSome (newest h.request s) (HoldsReplies s.number pool entries)
  pub counted : row_of mode jobs_full h s ≡ Begins
      → IfSome (newest h.request s) (IsCounted s.number entries)
  pub can_hold : IfSome (newest h.request s) (CanHold pool)

-- what a packet that did this leaves of the session, the pool and the service, and what was noted
pub record Leaves {V R : Type 0} (v : Service.Ghosts V) (log : R → Log)
    (noted : (answer : List ℕ) → List Fact) (h : MessageHeader) (body : List ℕ) (step : Step)
    (before after : Scene Pooled V R) : Type 0 where
  -- as the facts Took, Ran and Given of the definitions. The answer of a handler that ran is that
  -- of each list of requests that the service stands for
  pub handled : Handled v log noted h body step (seen before) (seen after)
  pub reply : IfReply step (IsReply h.request h.number after.state.session after.state.pool)
  pub give : IfGiven step (IsParcel v.answer (v.stands before.service) h body
      (shown before.state.pool before.state.session))
  -- a request whose handler ran has given its bytes up
  pub no_bytes : IfRan step (HasNoBytes (newest h.request after.state.session))
  pub service : UnlessRan step (after.service ≡ before.service)
  pub session : LeavesSession step h.request before.state.session after.state.session
  pub pool : LeavesPool step before.state.pool after.state.pool
  pub all_served : AreServed v.mode_of after.state.session.slots
  pub places : KeepsPlaces before.state.session after.state.session before.state.pool
      after.state.pool

-- the handler of a request ran: its answer stands in its room, and is held there
pub record RunsInline {V R : Type 0} (v : Service.Ghosts V) (log : R → Log) (who : Who)
    (session : ℕ) (h : MessageHeader) (ask : List ℕ) (a : Stored) (before after : Scene Pool V R)
    : Type 0 where
  pub buf : Buffer
  pub pool_is : after.state ≡ held a.place (changed a.place buf before.state)
  pub size_is : HasSize a.size (Some buf)
  pub own : a.own ≡ true → HasOwn true (Some buf)
  pub by_service : IsAnswer v.answer (v.stands before.service) (v.stands after.service) h.req_type
      ask (bytes_of buf)
  pub grew : Grew (log before.recorder) (log after.recorder)
      (ran_facts who session h ask (bytes_of buf))

-- a request that was at work is answered with these bytes, in this place. It has given its own up,
-- and the entry is the reply to its last packet
pub record IsAnsweredWith (q : SlotRequest) (a : Stored) (s w : Session) (before : Pool)
    (bytes : List ℕ) (after : Pool) : Type 0 where
  pub shown_is : shown after w ≡ gone_on_as q.number (answered bytes) (shown before s)
  pub no_bytes : HasNoBytes (newest q.number w)
  pub replies : (k : ℕ) → k + 1 ≡ packet_count q.size
      → GivesReply q.number k (placed_entry w q.number k a) s w before after

-- and so is one that begins with this packet, its only one
pub record IsBegunWith (h : MessageHeader) (a : Stored) (s w : Session) (before : Pool)
    (bytes : List ℕ) (after : Pool) : Type 0 where
  pub shown_is : shown after w ≡ gone_on_as h.request (answered bytes)
      (begun_with (given (first_shown h [] None)) (shown before s))
  pub no_bytes : HasNoBytes (newest h.request w)
  pub replies : BeginsWithReply h (placed_entry w h.request 0 a) s w before after

-- what a packet of a row that is taken does, but for the facts that are noted last
pub record DoesRow {V R : Type 0} (v : Service.Ghosts V) (log : R → Log) (who : Who) (mode : Mode)
    (row : ServerRow) (h : MessageHeader) (body : List ℕ) (step : Step)
    (before after : Scene Desk V R) : Type 0 where
  pub taken : IsStepOf mode h row step
  pub ring_is : after.state.ring ≡ ring (ring_after row step before.state.session.number
      (newest h.request before.state.session) before.state.ring.items) before.state.ring.size
  pub leaves : Leaves v log (λ answer. early_facts who before.state.session
      before.state.ring.items row h
      (asked_with h body (shown before.state.pool before.state.session)) answer step) h body step
      (without_ring before) (without_ring after)
  pub replies : KeepsReplies before.state.ring.items (after.state.ring.items ++ replies_of step)
      before.state.session after.state.session before.state.pool after.state.pool
  pub short : NeedsNoMemory mode v.answer (v.stands before.service) h
      (whole_with h body (shown before.state.pool before.state.session)) step

-- the facts that a packet of a row leaves, by the entries before it, all that was taken of its
-- request, the answer of its handler, and what it did
abbrev pub Notes : Type 0
Notes = Who → Session → List EntryValue → ServerRow → MessageHeader → (ask answer : List ℕ)
    → Step → List Fact

-- what the server table says of a packet
abbrev pub row_for : {V : Type 0} → Service.Ghosts V → Incoming → Session → ServerRow
row_for v packet s = row_of (v.mode_of packet.head.req_type) packet.jobs_full packet.head s

-- and what the server rule says of it, by what is shown of its session
abbrev pub rule_for : {V : Type 0} → Service.Ghosts V → (lacks : Bool) → Incoming → Server
    → ServerRow
rule_for v lacks packet x = server_row (v.mode_of packet.head.req_type) packet.jobs_full lacks
    (Some x) x.way.peer packet.head

-- the session handled the packet by the server rule, and these facts were noted
pub record Handles {V R : Type 0} (v : Service.Ghosts V) (log : R → Log) (notes : Notes)
    (who : Who) (packet : Incoming) (step : Step) (before after : Scene Desk V R) : Type 0 where
  pub row : IsStepOf (v.mode_of packet.head.req_type) packet.head
      (row_for v packet before.state.session) step
  -- as the server rule says of what is shown
  pub rule : rule_for v false packet (shown before.state.pool before.state.session)
      ≡ row_for v packet before.state.session
  -- and where memory was wanting, as it says then
  pub lacks : step ≡ Dropped NoMemory
      → rule_for v true packet (shown before.state.pool before.state.session) ≡ Drops NoMemory
  pub ring_is : after.state.ring ≡ ring (ring_after (row_for v packet before.state.session) step
      before.state.session.number (newest packet.head.request before.state.session)
      before.state.ring.items) before.state.ring.size
  pub leaves : Leaves v log (λ answer. notes who before.state.session before.state.ring.items
      (row_for v packet before.state.session) packet.head
      (asked_with packet.head packet.body (shown before.state.pool before.state.session)) answer
      step) packet.head packet.body step (without_ring before) (without_ring after)
  -- these are the facts of the server rule
  pub facts : packet.head.session ≡ before.state.session.number
      → IsByRule (v.mode_of packet.head.req_type) before.state.session before.state.ring.items
      (row_for v packet before.state.session) packet.head packet.body
      (shown before.state.pool before.state.session) step
  -- a short answer of a type that is handled inline needs no memory
  pub short : NeedsNoMemory (v.mode_of packet.head.req_type) v.answer (v.stands before.service)
      packet.head
      (whole_with packet.head packet.body (shown before.state.pool before.state.session)) step
  -- the ring with the reply holds each reply of the session that is neither sent nor flushed
  pub replies : KeepsReplies before.state.ring.items (after.state.ring.items ++ replies_of step)
      before.state.session after.state.session before.state.pool after.state.pool
