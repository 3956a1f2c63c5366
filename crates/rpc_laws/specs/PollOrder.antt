-- A poll: finished jobs, the inbox, the packets of the ring in order of arrival, the timers,
-- posting, sending, and the Polled that ends it.
use Rattle.std.specs.Prelude.{ℕ, ◌≡◌, ◌⊎◌, ◌-◌, ◌==◌, ◌<◌, ◌≤◌, max, Bool, true, false, Option}
use Rattle.std.specs.Prelude.{Some}
use Rattle.std.specs.Prelude.{None, List, [], ◌∷◌, length, slice_get, if◌then◌else◌}
use Rattle.std.specs.List.{find}
use Rattle.rpc_base.specs.declared.limits.TheConstants.{HEAD_BYTES}
use Rattle.packet_header.specs.Parts.{packet_count}
use Rattle.packet_header.specs.Header.{AreBytes, HasHead, InRange}
use Rattle.packet_header.specs.Reading.{message_of, body_of}
use Rattle.packet_header.specs.declared.packet.Kind.{Kind}
use Rattle.packet_header.specs.declared.packet.Kind.TheVariants.{Request, Rfr, Cr, Response}
use Rattle.packet_header.specs.declared.packet.MessageHeader.{MessageHeader}
use Rattle.rpc_base.specs.declared.event.Event.TheVariants.{Dropped, Posted, Ran, Sent, Polled}
use Rattle.rpc_base.specs.declared.fact.Fact.{Fact}
use Rattle.rpc_base.specs.declared.owner.Owner.TheVariants.{Reply}
use Rattle.rpc_base.specs.declared.state.DropReason.TheVariants.{StaleLife}
use Rattle.rpc_laws.specs.declared.tables.Arrival.{Arrival}
use Rattle.rpc_laws.specs.declared.tables.Job.{Job}
use Rattle.rpc_laws.specs.declared.tables.Lists.{Lists}
use Rattle.rpc_laws.specs.declared.tables.Outgoing.{Outgoing}
use Rattle.rpc_laws.specs.declared.tables.Queued.{Queued}
use Rattle.rpc_laws.specs.declared.tables.Served.{Served}
use Rattle.rpc_laws.specs.declared.tables.Server.{Server}
use Rattle.rpc_laws.specs.declared.tables.Timed.{Timed}
use Rattle.rpc_outside.specs.declared.service.Mode.{Mode}
use Rattle.rpc_laws.specs.ClientTable.{client_row, reply_facts}
use Rattle.rpc_laws.specs.ControlSteps.{HearsAll, TimesAll}
use Rattle.rpc_laws.specs.Facts.{plain, with_two}
use Rattle.rpc_laws.specs.Jobs.{are_full, is_job}
use Rattle.rpc_laws.specs.Packets.{outgoing}
use Rattle.rpc_laws.specs.Pacing.{line}
use Rattle.rpc_laws.specs.Posting.{next_begun, next_posted}
use Rattle.rpc_laws.specs.Queues.{is_due, replies}
use Rattle.rpc_laws.specs.Requests.{is_server, request_of}
use Rattle.rpc_laws.specs.ServerTable.{server_row, served_facts}
use Rattle.rpc_laws.specs.Sessions.{is_client}
use Rattle.rpc_laws.specs.Steps.{Rel, Goes, Then, Chain, Until, Visits, NotesAll}

-- whether a worker has a request
abbrev pub is_working : Option Served → Bool
is_working None = false
is_working (Some q) = q.working

-- the number of the packet that answers the last one of a request, where a worker has it
abbrev pub awaited_of : Option Served → Option ℕ
awaited_of None = None
awaited_of (Some q) = if q.working then Some (packet_count q.size - 1) else None

-- and of a job's request, where that waits for the answer: it is the newest of its slot, and a
-- worker has it
abbrev pub awaited : Job → List Server → Option ℕ
awaited job servers = awaited_of (request_of job.session job.request servers)

-- that packet is posted
abbrev pub answer_posted : ℕ → Job → Option ℕ → List Fact
answer_posted me job None = []
answer_posted me job (Some k) = plain me (Posted (Reply job.session job.request) k) ∷ []

-- a job is finished: the handler ran on its bytes and gave this answer, and the packet that answers
-- the last one of its request is posted where the request waits for it
abbrev pub finished_facts : List ℕ → Lists → Job → List Fact
finished_facts answer s job =
    with_two s.me (Ran job.session job.request job.req_type) job.ask answer
    ∷ answer_posted s.me job (awaited job s.servers)

-- the job of this request is finished, while fewer replies are queued than the ring is long
pub record Finishes (session request : ℕ) (s : Timed) (x : List Fact) (t : Timed) : Type 0 where
  pub room : replies s.lists.queued < s.lists.room
  pub job : Job
  pub is_out : find (is_job session request) s.lists.jobs.out ≡ Some job
  pub answer : List ℕ
  pub facts : x ≡ finished_facts answer s.lists job
  pub goes : Goes s x t

-- any job is: workers finish jobs in any order, and a node doesn't say which of them are worked
pub record FinishesOne (s : Timed) (x : List Fact) (t : Timed) : Type 0 where
  pub session : ℕ
  pub request : ℕ
  pub finishes : Finishes session request s x t

abbrev pub FinishesSome : Rel
FinishesSome = Chain FinishesOne

-- lacks: memory for a buffer is wanting; answer is the handler's, where one runs
abbrev pub asks_facts : (ℕ → Mode) → Bool → List ℕ → Lists → ℕ → MessageHeader → List ℕ → List Fact
asks_facts mode lacks answer s peer h body =
    let v = find (is_server h.session) s.servers in
    served_facts (mode h.req_type) s.me answer s.queued v h body
    (server_row (mode h.req_type) (are_full s.jobs) lacks v peer h)

abbrev pub replies_facts : Lists → ℕ → MessageHeader → List ℕ → List Fact
replies_facts s peer h body =
    let x = find (is_client h.session) s.clients in
    reply_facts s.me x h body (client_row s.queued x peer h (length body))

-- a Request or RFR goes by the server rule, a CR or Response by the client rule
abbrev pub handling_by : (ℕ → Mode) → Bool → List ℕ → Kind → Lists → ℕ → MessageHeader → List ℕ
    → List Fact
handling_by mode lacks answer Request s peer h body = asks_facts mode lacks answer s peer h body
handling_by mode lacks answer Rfr s peer h body = asks_facts mode lacks answer s peer h body
handling_by mode lacks answer Cr s peer h body = replies_facts s peer h body
handling_by mode lacks answer Response s peer h body = replies_facts s peer h body

-- first of all, a packet for another life of the node is dropped
abbrev pub handled : (ℕ → Mode) → Bool → List ℕ → Lists → ℕ → MessageHeader → List ℕ → List Fact
handled mode lacks answer s peer h body =
    if h.to_life == s.life then handling_by mode lacks answer h.kind s peer h body
    else plain s.me (Dropped StaleLife) ∷ []

-- the front packet of the ring is handled, while fewer replies are queued than the ring is long
pub record Handles (mode : ℕ → Mode) (s : Timed) (x : List Fact) (t : Timed) : Type 0 where
  pub room : replies s.lists.queued < s.lists.room
  pub front : Arrival
  pub is_front : slice_get s.lists.ring 0 ≡ Some front
  pub header : MessageHeader
  pub reads : message_of front.bytes ≡ Some header
  pub lacks : Bool
  pub answer : List ℕ
  pub facts : x ≡ handled mode lacks answer s.lists front.peer header (body_of front.bytes)
  pub goes : Goes s x t

-- the ring is empty, or as many replies are queued as it is long
abbrev pub NoMoreToHandle : Timed → Type 0
NoMoreToHandle t = (t.lists.ring ≡ []) ⊎ (t.lists.room ≤ replies t.lists.queued)

abbrev pub HandlesAll : (ℕ → Mode) → Rel
HandlesAll mode = Until (Handles mode) NoMoreToHandle

-- a session's waiting calls begin, and then its packets are posted
abbrev pub Serves : ℕ → Rel
Serves i = Then (NotesAll (next_begun i)) (NotesAll (next_posted i))

-- the sessions are visited in the order of their numbers
abbrev pub PostsAll : Rel
PostsAll s x t = Visits Serves (length s.lists.clients) s x t

-- the front of the queue is sent, where it is ready or due by now: to its peer, with the head and
-- the body of its packet
pub record Sends (s : Timed) (x : List Fact) (t : Timed) : Type 0 where
  pub entry : Queued
  pub is_front : slice_get s.lists.queued 0 ≡ Some entry
  pub ready : is_due s.clock entry.due ≡ true
  pub out : Outgoing
  pub packet : outgoing s.lists entry ≡ Some out
  pub head : List ℕ
  pub in_range : InRange out.packet
  pub has_head : HasHead out.packet head
  pub long : length head ≡ HEAD_BYTES
  pub bytes : AreBytes head
  pub facts : x ≡ with_two s.lists.me (Sent out.peer entry.owner entry.number) head out.body ∷ []
  pub goes : Goes s x t

-- the link may stop the sending at any packet
abbrev pub SendsSome : Rel
SendsSome = Chain Sends

-- until no packet is ready or due
abbrev pub SendsAll : Rel
SendsAll = Until Sends (λ t. line t.clock t.lists.queued ≡ [])

pub record Closes (s : Timed) (x : List Fact) (t : Timed) : Type 0 where
  pub facts : x ≡ plain s.lists.me (Polled s.clock) ∷ []
  pub goes : Goes s x t

-- a clock doesn't fall
abbrev pub raised : ℕ → Timed → Timed
raised now s = record s { clock = max s.clock now }

-- the seven steps in their order. Which jobs are finished, and how far the sending comes, is told
-- by the first and the sixth
abbrev pub PollBy : (finishing sending : Rel) → (ℕ → Mode) → ℕ → Rel
PollBy finishing sending mode now s x t =
    Then finishing (Then HearsAll (Then (HandlesAll mode)
    (Then TimesAll (Then PostsAll (Then sending Closes))))) (raised now s) x t

-- a poll of a node of which nothing more is known
abbrev pub Poll : (ℕ → Mode) → ℕ → Rel
Poll = PollBy FinishesSome SendsSome
