-- What a Request or RFR, or a finished job, does to a session, in the words of the definitions over
-- histories.
use Rattle.std.specs.Prelude.{◌≡◌, ◌≢◌, ℕ, ◌+◌, ◌<◌, ◌≤◌, Bool, true, false, List, [], ◌∷◌, ◌++◌}
use Rattle.std.specs.Prelude.{◌==◌, if◌then◌else◌, length, take, Option, Some, None, IfSome}
use Rattle.std.specs.List.{AllByRecursion}
use Rattle.rpc_base.specs.declared.limits.TheConstants.{HEAD_BYTES, PART_BYTES}
use Rattle.rpc_base.specs.Tables.{at_first, without_first}
use Rattle.rpc_base.specs.declared.event.Event.TheVariants.{Took as TookEvent, Given as GivenEvent}
use Rattle.rpc_base.specs.declared.event.Event.TheVariants.{Ran as RanEvent}
use Rattle.rpc_base.specs.declared.owner.Owner.TheVariants.{Reply}
use Rattle.rpc_base.specs.declared.state.DropReason.TheVariants.{NoMemory}
use Rattle.packet_header.specs.Kinds.{is_asking, is_last, is_rfr}
use Rattle.packet_header.specs.Header.{MessageInRange, MessageLength}
use Rattle.packet_header.specs.Parts.{packet_count, part_size, IsMessage}
use Rattle.packet_header.specs.declared.packet.MessageHeader.{MessageHeader}
use Rattle.message_buffer.specs.Buffer.{bytes_of}
use Rattle.buffer_pool.specs.Pool.{Pool}
use Rattle.packet_rings.specs.Values.{EntryValue}
use Rattle.rpc_laws.specs.declared.rows.ServerRow.{ServerRow}
use Rattle.rpc_laws.specs.declared.rows.ServerRow.TheVariants.{Drops, Begins, Takes, Repeats}
use Rattle.rpc_laws.specs.declared.tables.Server.{Server}
use Rattle.rpc_laws.specs.declared.tables.Served.{Served as ServedRequest}
use Rattle.rpc_laws.specs.Requests.{in_slot_of, is_request, servers_after}
use Rattle.rpc_laws.specs.ServerTable.{is_past_end, is_worked_on, makes_job, whole_ask}
use Rattle.rpc_outside.specs.Served.{Served}
use Rattle.rpc_outside.specs.declared.service.Mode.{Mode}
use Rattle.rpc_outside.specs.declared.service.Mode.TheVariants.{Inline, Unserved}
use Rattle.worker_board.specs.declared.Parcel.{Parcel}
use Rattle.server_core.specs.declared.slot.SlotRequest.{SlotRequest}
use Rattle.server_core.specs.declared.step.Step.{Step}
use Rattle.server_core.specs.declared.step.Step.TheVariants.{Took, Again, Ran, Give, Dropped}
use Rattle.server_core.specs.Replies.{IsHeld, IsReplyTo, request_of}
use Rattle.server_core.specs.Counting.{repeated}
use Rattle.server_core.specs.Rows.{as_newest}
use Rattle.server_core.specs.Session.{Session, answer_of, ask_of, newest}
use Rattle.server_core.specs.Shown.{ask_in}

-- a Request or RFR of the session, with the fields and the body of such a packet
pub record IsAsking (h : MessageHeader) (body_len : ℕ) : Type 0 where
  pub kind : is_asking h.kind ≡ true
  pub in_range : MessageInRange h
  pub body : MessageLength h.kind h.size h.number (HEAD_BYTES + body_len)

-- a step that takes a packet, where its memory may be wanting
abbrev pub HasTaken : (last job can_want : Bool) → Step → Type 0
HasTaken last job can_want (Took reply) = last ≡ false
HasTaken last job can_want (Again reply) = ⊥
HasTaken last job can_want (Ran reply) = (last ≡ true) × (job ≡ false)
HasTaken last job can_want (Give parcel) = job ≡ true
HasTaken last job can_want (Dropped why) = (why ≡ NoMemory) × (can_want ≡ true)

-- a request's last packet, of a type that is handled inline and whose answer fits in one packet,
-- isn't dropped for want of memory
abbrev pub NeedsNoMemory : Mode → (answer : Served → ℕ → List ℕ → List ℕ)
    → (stands : Served → Type 0) → MessageHeader → (ask : List ℕ) → Step → Type 0
NeedsNoMemory mode answer stands h ask step = mode ≡ Inline → is_last h ≡ true
    → ((served : Served) → stands served → length (answer served h.req_type ask) ≤ PART_BYTES)
    → step ≢ Dropped NoMemory

abbrev pub IsAgain : Step → Type 0
IsAgain (Took reply) = ⊥
IsAgain (Again reply) = Unit {0}
IsAgain (Ran reply) = ⊥
IsAgain (Give parcel) = ⊥
IsAgain (Dropped why) = ⊥

-- the step is the row's. Memory is wanted for a request that begins, and for an answer
abbrev pub IsStepOf : Mode → MessageHeader → ServerRow → Step → Type 0
IsStepOf mode h (Drops why) step = step ≡ Dropped why
IsStepOf mode h Begins step = HasTaken (is_last h) (makes_job mode h) true step
IsStepOf mode h Takes step = HasTaken (is_last h) (makes_job mode h) (is_last h) step
IsStepOf mode h Repeats step = IsAgain step

-- the session once the packet was taken
abbrev pub took : MessageHeader → List ℕ → Server → List Server
took h body v =
    servers_after (TookEvent (Reply v.way.number h.request) h.number) [] (Some h) body (v ∷ [])

-- and once its request's handler ran, with this answer
abbrev pub ran : MessageHeader → List ℕ → (answer : List ℕ) → Server → List Server
ran h body answer v =
    servers_after (RanEvent v.way.number h.request h.req_type) answer None [] (took h body v)

-- and once it was given to a worker
abbrev pub gave : MessageHeader → List ℕ → Server → List Server
gave h body v = servers_after (GivenEvent v.way.number h.request) [] None [] (took h body v)

-- the bytes of its request up to and with this packet
abbrev pub asked_with : MessageHeader → List ℕ → Server → List ℕ
asked_with h body v = whole_ask (Some v) h.request body

-- the bytes of a request that is whole with this packet: the packet's, if it is the only one
abbrev pub whole_with : MessageHeader → List ℕ → Server → List ℕ
whole_with h body v = if packet_count h.size == 1 then body else asked_with h body v

-- what a step makes of the session, where a handler that ran answered with these bytes
abbrev pub Steps : Step → (answer : List ℕ) → MessageHeader → List ℕ → Server → Server → Type 0
Steps (Took reply) answer h body v w = took h body v ≡ w ∷ []
Steps (Again reply) answer h body v w = w ≡ v
Steps (Ran reply) answer h body v w = ran h body answer v ≡ w ∷ []
Steps (Give parcel) answer h body v w = gave h body v ≡ w ∷ []
Steps (Dropped why) answer h body v w = w ≡ v

-- a handler's answer to a request, for each list of served requests that the service stands for: it
-- stands for one request more then
abbrev pub IsAnswer : (Served → ℕ → List ℕ → List ℕ) → (stands after : Served → Type 0) → ℕ
    → (ask answer : List ℕ) → Type 0
IsAnswer answer_of stands after req_type ask answer =
    (served : Served) → stands served
    → (answer ≡ answer_of served req_type ask) × after (served ++ (req_type, ask) ∷ [])

-- where a handler ran, the answer is its own
abbrev pub IfRan : Step → Type 0 → Type 0
IfRan (Took reply) claim = Unit {0}
IfRan (Again reply) claim = Unit {0}
IfRan (Ran reply) claim = claim
IfRan (Give parcel) claim = Unit {0}
IfRan (Dropped why) claim = Unit {0}

-- a packet that is dropped leaves the pool as it was. Where memory was wanting for an answer, the
-- bytes of the packet may stand in its request's buffer already, behind those that were taken
abbrev pub LeavesPool : Step → (before after : Pool) → Type 0
LeavesPool (Took reply) before after = Unit {0}
LeavesPool (Again reply) before after = Unit {0}
LeavesPool (Ran reply) before after = Unit {0}
LeavesPool (Give parcel) before after = Unit {0}
LeavesPool (Dropped why) before after =
    (after.uses ≡ before.uses) × (why ≢ NoMemory → after ≡ before)

-- a request names no buffer of its bytes
abbrev pub HasNoBytes : Option SlotRequest → Type 0
HasNoBytes o = IfSome o (λ q. ask_of q.state ≡ None)

-- a parcel has the whole request, and room for its answer
pub record IsParcel (answer : Served → ℕ → List ℕ → List ℕ) (stands : Served → Type 0)
    (h : MessageHeader) (body : List ℕ) (v : Server) (p : Parcel) : Type 0 where
  pub session : p.session ≡ v.way.number
  pub request : p.request ≡ h.request
  pub req_type : p.req_type ≡ h.req_type
  pub ask : bytes_of p.ask ≡ asked_with h body v
  pub room : (served : Served) → stands served
      → length (answer served p.req_type (bytes_of p.ask)) ≡ p.out.len
  pub most : IsMessage p.out.len

-- a claim of the parcel, where one is given
abbrev pub IfGiven : Step → (Parcel → Type 0) → Type 0
IfGiven (Took reply) claim = Unit {0}
IfGiven (Again reply) claim = Unit {0}
IfGiven (Ran reply) claim = Unit {0}
IfGiven (Give parcel) claim = claim parcel
IfGiven (Dropped why) claim = Unit {0}

-- what holds unless a handler ran
abbrev pub UnlessRan : Step → Type 0 → Type 0
UnlessRan (Took reply) claim = claim
UnlessRan (Again reply) claim = claim
UnlessRan (Ran reply) claim = Unit {0}
UnlessRan (Give parcel) claim = claim
UnlessRan (Dropped why) claim = claim

-- a packet that is dropped leaves the session as it was. One that was taken before has one reply
-- more queued
abbrev pub LeavesSession : Step → (r : ℕ) → (before after : Session) → Type 0
LeavesSession (Took reply) r before after = Unit {0}
LeavesSession (Again reply) r before after = after ≡ repeated r before
LeavesSession (Ran reply) r before after = Unit {0}
LeavesSession (Give parcel) r before after = Unit {0}
LeavesSession (Dropped why) r before after = after ≡ before

-- a claim of the reply: a packet that was taken has one, unless its request was given to a worker
abbrev pub IfReply : Step → (EntryValue → Type 0) → Type 0
IfReply (Took None) claim = ⊥
IfReply (Took (Some reply)) claim = claim reply
IfReply (Again reply) claim = claim reply
IfReply (Ran reply) claim = claim reply
IfReply (Give parcel) claim = Unit {0}
IfReply (Dropped why) claim = Unit {0}

-- the reply to packet k of request r of the session, whose place is held
pub record IsReply (r k : ℕ) (s : Session) (pool : Pool) (e : EntryValue) : Type 0 where
  pub owner : e.owner ≡ Reply s.number r
  pub number : e.number ≡ k
  pub peer : e.peer ≡ s.peer
  pub stands : IsReplyTo (request_of s e) e
  pub is_held : IsHeld pool e.place

-- a request begins with the packet
pub record IsBeginning (h : MessageHeader) (body_len : ℕ) (s : Session) : Type 0 where
  pub kind : is_rfr h.kind ≡ false
  pub first : h.number ≡ 0
  pub size : IsMessage h.size
  pub long : body_len ≡ part_size h.size 0
  pub newer : IfSome (newest h.request s) (λ q. q.number < h.request)

-- a part of the request: the next one of its message
pub record IsPart (h : MessageHeader) (body_len : ℕ) (q : SlotRequest) : Type 0 where
  pub req_type : h.req_type ≡ q.req_type
  pub size : h.size ≡ q.size
  pub within : h.number < packet_count q.size
  pub long : body_len ≡ part_size q.size h.number

-- it asks for the next part of the answer, which is there
pub record IsMore (h : MessageHeader) (body_len : ℕ) (q : SlotRequest) : Type 0 where
  pub behind : packet_count q.size ≤ h.number
  pub there : is_past_end q.size (as_newest q).answer h.number ≡ false
  pub none : body_len ≡ 0

-- the packet is the next one of a request
pub record IsNext (h : MessageHeader) (body_len : ℕ) (q : SlotRequest) : Type 0 where
  pub same : q.number ≡ h.request
  pub in_turn : h.number ≡ q.taken
  pub part : is_rfr h.kind ≡ false → IsPart h body_len q
  pub more : is_rfr h.kind ≡ true → IsMore h body_len q

abbrev pub IsNextOf : MessageHeader → ℕ → Option SlotRequest → Type 0
IsNextOf h body_len None = ⊥
IsNextOf h body_len (Some q) = IsNext h body_len q

-- all requests of a session are of types that are served
abbrev pub AreServed : (ℕ → Mode) → List SlotRequest → Type 0
AreServed mode_of slots = AllByRecursion (λ q. mode_of q.req_type ≢ Unserved) slots

-- a request as it begins, with the bytes of its buffer
abbrev pub first_shown : MessageHeader → List ℕ → Option (List ℕ) → ServedRequest
first_shown h bytes answer = record {
  number = h.request;
  req_type = h.req_type;
  size = h.size;
  taken = 1;
  ask = take PART_BYTES bytes;
  working = false;
  answer = answer;
}

-- it stands behind all others, and the older one of its slot is gone
abbrev pub begun_with : ServedRequest → Server → Server
begun_with x v = record v { slots = without_first (in_slot_of x.number) v.slots ++ x ∷ [] }

-- a request with one packet more, and these bytes
abbrev pub grown : List ℕ → ServedRequest → ServedRequest
grown bytes x = record x { taken = x.taken + 1; ask = bytes }

-- a request of the session goes on
abbrev pub gone_on_as : ℕ → (ServedRequest → ServedRequest) → Server → Server
gone_on_as r change v = record v { slots = at_first (is_request r) change v.slots }

-- the bytes of a request with one packet more than were taken
abbrev pub bytes_with : Pool → SlotRequest → List ℕ
bytes_with pool q = ask_in pool (q.taken + 1) (ask_of q.state)

-- the packet was taken before, and has its reply
pub record IsTakenIn (h : MessageHeader) (q : SlotRequest) : Type 0 where
  pub same : q.number ≡ h.request
  pub taken : h.number < q.taken
  pub there : is_worked_on (as_newest q) h.number ≡ false

abbrev pub IsTakenBefore : MessageHeader → Option SlotRequest → Type 0
IsTakenBefore h None = ⊥
IsTakenBefore h (Some q) = IsTakenIn h q
