-- What the steps of a session want.
use Rattle.std.specs.Prelude.{◌≡◌, ℕ, ◌<◌, List, length, Some, IfSome}
use Rattle.buffer_pool.specs.Pool.{Pool, spare_of}
use Rattle.packet_header.specs.Parts.{IsMessage, packet_count}
use Rattle.packet_header.specs.declared.packet.MessageHeader.{MessageHeader}
use Rattle.packet_rings.specs.Values.{EntryValue}
use Rattle.rpc_outside.specs.Served.{Served, StandsForSome}
use Rattle.rpc_outside.specs.declared.service.Mode.{Mode}
use Rattle.rpc_outside.specs.declared.service.Mode.TheVariants.{Inline}
use Rattle.rpc_outside.specs.declared.service.Service as Service
use Rattle.server_core.specs.Counting.{IsCounted}
use Rattle.server_core.specs.Flushing.{HoldsReplies}
use Rattle.server_core.specs.KeepsPool.{KeepsPool}
use Rattle.server_core.specs.Replies.{CanHold, IsHeld, IsReplyTo, request_of}
use Rattle.server_core.specs.Serving.{IsUnheld}
use Rattle.server_core.specs.Session.{IsInTurn, IsSession, Session, newest}
use Rattle.server_core.specs.Steps.{AreServed, IsBeginning}
use Rattle.server_core.specs.declared.slot.SlotRequest.{SlotRequest}
use Rattle.server_core.specs.declared.slot.SlotState.TheVariants.{Working}

-- a request of the session that the pool keeps, which is the newest of its slot
pub record IsNewest (q : SlotRequest) (s : Session) (pool : Pool) : Type 0 where
  pub keeps_pool : KeepsPool pool s.slots
  pub found : newest q.number s ≡ Some q

-- whose answer is awaited, for which there is a place
pub record IsAwaited (q : SlotRequest) (s : Session) (pool : Pool) : Type 0 where
  pub own : IsNewest q s pool
  pub turn : IsInTurn q
  pub working : q.state ≡ Working
  pub spare : 0 < spare_of pool

-- a request may begin: the older one of its slot can be given up, and there is a place for a buffer
pub record CanBegin (h : MessageHeader) (s : Session) (pool : Pool) : Type 0 where
  pub keeps_pool : KeepsPool pool s.slots
  pub spare : 0 < spare_of pool
  pub unheld : IfSome (newest h.request s) (IsUnheld pool)
  pub size : IsMessage h.size

-- one of a single packet
pub record CanBeginWhole (h : MessageHeader) (s : Session) (pool : Pool) : Type 0 where
  pub begins : CanBegin h s pool
  pub one : packet_count h.size ≡ 1

-- and it is newer than the one before it in its slot
pub record MayBeginWhole (h : MessageHeader) (s : Session) (pool : Pool) : Type 0 where
  pub session : IsSession s
  pub whole : CanBeginWhole h s pool
  pub newer : IfSome (newest h.request s) (λ q. q.number < h.request)

-- the handler of a type may run, into room for its answer
pub record CanServe {V : Type 0} (v : Service.Ghosts V) (service : V) (req_type : ℕ)
    (ask : List ℕ) (size : ℕ) : Type 0 where
  pub inline : v.mode_of req_type ≡ Inline
  pub room :
      (served : Served) → v.stands service served → length (v.answer served req_type ask) ≡ size
  pub founded : StandsForSome (v.stands service)

-- a service that handles all packets of the session, in this mode those of the packet's type
pub record IsServing {V : Type 0} (v : Service.Ghosts V) (own : Mode) (h : MessageHeader)
    (s : Session) (service : V) : Type 0 where
  pub mode : v.mode_of h.req_type ≡ own
  pub all_served : AreServed v.mode_of s.slots
  pub founded : StandsForSome (v.stands service)

-- the packet begins a request
pub record MayBegin (h : MessageHeader) (body_len : ℕ) (s : Session) (pool : Pool)
    (entries : List EntryValue) : Type 0 where
  pub session : IsSession s
  pub keeps_pool : KeepsPool pool s.slots
  pub spare : 0 < spare_of pool
  pub queued : IfSome (newest h.request s) (HoldsReplies s.number pool entries)
  pub counted : IfSome (newest h.request s) (IsCounted s.number entries)
  pub beginning : IsBeginning h body_len s

-- it is one of the newest request of its slot, whose reply can be counted
pub record MayTake (h : MessageHeader) (s : Session) (pool : Pool) : Type 0 where
  pub session : IsSession s
  pub keeps_pool : KeepsPool pool s.slots
  pub can_hold : IfSome (newest h.request s) (CanHold pool)

-- an entry may leave the queue: its place is held, if it has one
pub record MayLeave (e : EntryValue) (s : Session) (pool : Pool) : Type 0 where
  pub keeps_pool : KeepsPool pool s.slots
  pub held : IsHeld pool e.place

-- an entry that was posted, and is neither sent nor flushed
pub record IsPosted (e : EntryValue) (s : Session) (pool : Pool) : Type 0 where
  pub keeps_pool : KeepsPool pool s.slots
  pub posted : IsReplyTo (request_of s e) e
