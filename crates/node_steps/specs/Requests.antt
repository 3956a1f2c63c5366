-- What a node does with the request in front of its receive ring, and with a job that is finished.
use Rattle.std.specs.Prelude.{◌≡◌, ◌≢◌, ℕ, ◌+◌, ◌++◌, Bool, false, Option, Some, None, IfSome, List}
use Rattle.std.specs.Prelude.{◌≤◌, true, [], ◌∷◌, length, slice_get}
use Rattle.std.specs.List.{AllByRecursion, find}
use Rattle.rpc_outside.specs.Recording.{Log}
use Rattle.memory_count.specs.Faults.{HasRisenBy}
use Rattle.message_buffer.specs.Buffer.{bytes_of}
use Rattle.packet_header.specs.Kinds.{is_asking, is_last}
use Rattle.packet_header.specs.Parts.{IsMessage, packet_count}
use Rattle.packet_header.specs.Reading.{body_of}
use Rattle.packet_header.specs.declared.packet.MessageHeader.{MessageHeader}
use Rattle.rpc_base.specs.declared.event.Event.TheVariants.{Dropped}
use Rattle.rpc_base.specs.declared.fact.Fact.{Fact}
use Rattle.rpc_base.specs.declared.limits.TheConstants.{PART_BYTES}
use Rattle.rpc_base.specs.declared.state.DropReason.TheVariants.{NoMemory}
use Rattle.rpc_laws.specs.declared.tables.Arrival.{Arrival}
use Rattle.rpc_laws.specs.declared.tables.Job.{Job}
use Rattle.rpc_laws.specs.declared.tables.Jobs.{Jobs}
use Rattle.rpc_laws.specs.declared.tables.Server.{Server}
use Rattle.rpc_laws.specs.declared.tables.Timed.{Timed}
use Rattle.rpc_laws.specs.Front.{front_body, front_header}
use Rattle.rpc_laws.specs.Jobs.{are_full, is_job}
use Rattle.rpc_laws.specs.PollOrder.{asks_facts, finished_facts}
use Rattle.rpc_laws.specs.Queues.{ring_after}
use Rattle.rpc_laws.specs.Service.{Answers, Serving, rules_of, served_after_all}
use Rattle.rpc_laws.specs.Steps.{Rel, Goes}
use Rattle.rpc_outside.specs.Served.{Served}
use Rattle.rpc_outside.specs.declared.service.Service as Service
use Rattle.rpc_outside.specs.declared.service.Mode.{Mode}
use Rattle.rpc_outside.specs.declared.service.Mode.TheVariants.{Background, Inline, Unserved}
use Rattle.worker_board.specs.declared.Parcel.{Parcel}
use Rattle.node_steps.specs.Changes.{Change}
use Rattle.node_steps.specs.Lacks.{lacks_in}
use Rattle.node_steps.specs.Notes.{MakesWhere}
use Rattle.node_steps.specs.Seen.{Asks}

-- all requests of all sessions are of types that are served
abbrev pub SlotsServed : (ℕ → Mode) → Server → Type 0
SlotsServed mode v = AllByRecursion (λ q. mode q.req_type ≢ Unserved) v.slots

abbrev pub AllServed : (ℕ → Mode) → List Server → Type 0
AllServed mode servers = AllByRecursion (SlotsServed mode) servers

-- the front of the ring, whose header is h, is handled by the server rule
pub record ServesRequest (mode : ℕ → Mode) (h : MessageHeader) (s : Timed) (x : List Fact)
    (t : Timed) : Type 0 where
  pub front : Arrival
  pub is_front : slice_get s.lists.ring 0 ≡ Some front
  pub lacks : Bool
  pub answer : List ℕ
  pub facts : x ≡ asks_facts mode lacks answer s.lists front.peer h (body_of front.bytes)
  pub goes : Goes s x t

-- the job of a parcel: whose it is, without its bytes
abbrev pub job_named : Parcel → Job
job_named p =
    record { session = p.session; request = p.request; req_type = p.req_type; ask = [] }

-- the bytes of a job are those of its parcel
abbrev pub AsksAs : Option Parcel → Asks → Type 0
AsksAs given asks = IfSome given (λ p. asks p.session p.request ≡ bytes_of p.ask)

-- a parcel for a worker has room for the answer that the service gives
pub record IsGiven (v : Serving) (stands : Served → Type 0) (p : Parcel) : Type 0 where
  pub background : v.mode p.req_type ≡ Background
  pub room : (served : Served) → stands served
      → length (v.answer served p.req_type (bytes_of p.ask)) ≡ p.out.len
  pub most : IsMessage p.out.len

-- the jobs of a node with the one that is given, where one is
abbrev pub with_given : Option Parcel → Jobs → Jobs
with_given None jobs = jobs
with_given (Some p) jobs =
    record jobs { given = jobs.given + 1; out = jobs.out ++ job_named p ∷ [] }

-- the packet in front of the ring is a request of one packet, of a type that is handled inline and
-- whose answer fits in one packet, whatever was served before
pub record IsShort (v : Serving) (ring : List Arrival) : Type 0 where
  pub head : MessageHeader
  pub front : front_header ring ≡ Some head
  pub asking : is_asking head.kind ≡ true
  pub last : is_last head ≡ true
  pub one : packet_count head.size ≡ 1
  pub inline : v.mode head.req_type ≡ Inline
  pub fits : (served : Served)
      → length (v.answer served head.req_type (front_body ring)) ≤ PART_BYTES

-- a fact other than that a packet was dropped for want of memory
abbrev pub IsNoWant : Fact → Type 0
IsNoWant f = f.event ≢ Dropped NoMemory

-- none of these facts drops, for want of memory, a packet in front of the ring that is a short
-- request, where the ring before a fact is what the facts before it leave
abbrev pub SparesShort : Serving → List Arrival → List Fact → Type 0
SparesShort v ring [] = Unit {0}
SparesShort v ring (f ∷ x) =
    (IsShort v ring → IsNoWant f) × SparesShort v (ring_after f.event f.first ring) x

-- what these facts leave of the ring
abbrev pub ring_left : List Arrival → List Fact → List Arrival
ring_left ring [] = ring
ring_left ring (f ∷ x) = ring_left (ring_after f.event f.first ring) x

-- a service before a step and after it: how it answers, and for which requests it stood and stands
pub record ServiceChange : Type 1 where
  pub rules : Serving
  pub old : Served → Type 0
  pub new : Served → Type 0

abbrev pub serves_by : Serving → (Served → Type 0) → (Served → Type 0) → ServiceChange
serves_by rules old new = record { rules = rules; old = old; new = new }

abbrev pub service_change : {V : Type 0} → Service.Ghosts V → Change V → ServiceChange
service_change v service = serves_by (rules_of v) (v.stands service.old) (v.stands service.new)

-- where it stood for what was served before, each handler that ran by these facts has its answer,
-- and it stands for what was served after them
abbrev pub RunsHandlers : ServiceChange → List Fact → Type 0
RunsHandlers service x =
    (served : Served) → service.old served
    → Answers service.rules served x
    × service.new (served_after_all service.rules.mode served x)

-- a step that may run a handler, or make a job, which is given out, and then the jobs weren't full
pub record MakesServed {R : Type 0} (log : R → Log) (service : ServiceChange) (P : Rel)
    (given : Option Parcel) (node : Change Timed) (rec : Change R) (memory : Change ℕ)
    : Type 0 where
  pub makes : MakesWhere log (AsksAs given) P node.old node.new rec.old rec.new
  pub answers : RunsHandlers service makes.noted
  pub parcel : IfSome given (IsGiven service.rules service.old)
  pub jobs : node.new.lists.jobs ≡ with_given given node.old.lists.jobs
  pub vacant : IfSome given (λ p. are_full node.old.lists.jobs ≡ false)
  -- a short request needs no memory
  pub spared : SparesShort service.rules node.old.lists.ring makes.noted
  -- each drop for want of memory has a refusal
  pub wants : HasRisenBy (lacks_in makes.noted) memory.old memory.new

-- the job of this request is finished, with this answer
pub record FinishesWith (session request : ℕ) (answer : List ℕ) (s : Timed) (x : List Fact)
    (t : Timed) : Type 0 where
  pub job : Job
  pub is_out : find (is_job session request) s.lists.jobs.out ≡ Some job
  pub facts : x ≡ finished_facts answer s.lists job
  pub goes : Goes s x t
