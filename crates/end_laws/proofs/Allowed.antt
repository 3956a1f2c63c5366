-- What the rules alone say of a fact of a node, by the node's lists before it.
use Rattle.std.proofs.Common.{◌≡◌, ◌<◌, ◌≤◌, ◌⊎◌, inl, inr, ◌==◌, ◌&&◌, ◌-◌, ℕ, Bool, true, false}
use Rattle.std.proofs.Common.{List, [], ◌∷◌, length, Option, Some, None, slice_get}
use Rattle.std.specs.Prelude.{option_map}
use Rattle.std.specs.List.{find, list_any}
use Rattle.packet_header.specs.Header.{AreBytes, HasHead, InRange, Spells}
use Rattle.packet_header.specs.Parts.{packet_count}
use Rattle.packet_header.specs.declared.packet.ControlHeader.{ControlHeader}
use Rattle.packet_header.specs.declared.packet.ControlKind.{ControlKind}
use Rattle.packet_header.specs.declared.packet.ControlKind.TheVariants.{ConnectReply, ConnectRequest}
use Rattle.packet_header.specs.declared.packet.ControlKind.TheVariants.{DisconnectRequest}
use Rattle.packet_header.specs.declared.packet.Kind.{Kind}
use Rattle.packet_header.specs.declared.packet.Kind.TheVariants.{Request, Rfr, Cr, Response}
use Rattle.packet_header.specs.declared.packet.MessageHeader.{MessageHeader}
use Rattle.packet_header.specs.declared.packet.Packet.TheVariants.{Control as ControlPacket}
use Rattle.rpc_base.specs.declared.event.Event.{Event}
use Rattle.rpc_base.specs.declared.event.Event.TheVariants.{Made, Opened, PairedClient, Restarted}
use Rattle.rpc_base.specs.declared.event.Event.TheVariants.{PairedServer, Accepted, Connected}
use Rattle.rpc_base.specs.declared.event.Event.TheVariants.{Ended}
use Rattle.rpc_base.specs.declared.event.Event.TheVariants.{Asked, Begun, Posted, Sent, Arrived}
use Rattle.rpc_base.specs.declared.event.Event.TheVariants.{Overflowed, Took, Again, Given, Ran}
use Rattle.rpc_base.specs.declared.event.Event.TheVariants.{Broken, DoneOk, DoneTooSmall, Carried}
use Rattle.rpc_base.specs.declared.fact.Fact.{Fact}
use Rattle.rpc_base.specs.declared.fact.Who.{Who}
use Rattle.rpc_base.specs.declared.fact.Who.TheVariants.{Node, Net}
use Rattle.rpc_base.specs.declared.limits.TheConstants.{HEAD_BYTES}
use Rattle.rpc_base.specs.declared.owner.Owner.{Owner}
use Rattle.rpc_base.specs.declared.owner.Owner.TheVariants.{Ask, Reply, Control}
use Rattle.rpc_base.specs.declared.state.SessionState.TheVariants.{Connecting}
use Rattle.rpc_laws.specs.declared.tables.Arrival.{Arrival}
use Rattle.rpc_laws.specs.declared.tables.Call.{Call}
use Rattle.rpc_laws.specs.declared.tables.Client.{Client}
use Rattle.rpc_laws.specs.declared.tables.InFlight.{InFlight}
use Rattle.rpc_laws.specs.declared.tables.Job.{Job}
use Rattle.rpc_laws.specs.declared.tables.Lists.{Lists}
use Rattle.rpc_laws.specs.declared.tables.Outgoing.{Outgoing}
use Rattle.rpc_laws.specs.declared.tables.Progress.{Progress}
use Rattle.rpc_laws.specs.declared.tables.Served.{Served}
use Rattle.rpc_laws.specs.declared.tables.Server.{Server}
use Rattle.rpc_laws.specs.AtMostOnce.{is_at}
use Rattle.rpc_laws.specs.Calls.{is_call, is_active, is_waiting, asked_packets, known_packets}
use Rattle.rpc_laws.specs.ClientTable.{is_of_turn}
use Rattle.rpc_laws.specs.BufferSafety.{OwnControl}
use Rattle.rpc_laws.specs.ControlSteps.{own_request}
use Rattle.rpc_laws.specs.Front.{control_of, is_message, front_header, front_body}
use Rattle.rpc_laws.specs.Jobs.{is_job}
use Rattle.rpc_laws.specs.NodeLists.{after}
use Rattle.rpc_laws.specs.Packets.{owner_packet}
use Rattle.rpc_laws.specs.Posting.{next_turn}
use Rattle.rpc_laws.specs.Requests.{is_server, is_request, in_slot_of}
use Rattle.rpc_laws.specs.ServerTable.{is_past_end}
use Rattle.rpc_laws.specs.Sessions.{is_client}
use Rattle.end_laws.specs.Kinds.{is_ask}
use Rattle.end_laws.specs.Moments.{hand_noted}
use Rattle.rpc_base.proofs.BasicLemmas.{false-true}

-- the oldest waiting call of a session begins with the next number of its slot
pub record MayBegin (l : Lists) (c r : ℕ) : Type 0 where
  pub session : ℕ
  pub client : Client
  pub is_there : slice_get l.clients session ≡ Some client
  pub call : Call
  pub waits : find is_waiting client.calls ≡ Some call
  pub number : c ≡ call.what.number
  pub slot : ℕ
  pub low : slot < 8
  pub next : r ≡ next_turn client.turns slot

-- the packet that is sent is its owner's
pub record MaySend (l : Lists) (peer : ℕ) (owner : Owner) (k : ℕ) (head body : List ℕ) : Type 0 where
  pub due : Option ℕ
  pub is_front : slice_get l.queued 0 ≡ Some (record { owner = owner; number = k; due = due })
  pub out : Outgoing
  pub own : owner_packet l owner k ≡ Some out
  pub to_peer : peer ≡ out.peer
  pub in_range : InRange out.packet
  pub has_head : HasHead out.packet head
  pub long : length head ≡ HEAD_BYTES
  pub bytes : AreBytes head
  pub whole : body ≡ out.body

-- the front of the ring is a message, for the present life of the node
pub record Fronts (l : Lists) (front : Arrival) (h : MessageHeader) : Type 0 where
  pub is_front : slice_get l.ring 0 ≡ Some front
  pub reads : front_header l.ring ≡ Some h
  pub for_us : h.to_life ≡ l.life

-- the front of the ring is the reply that an active call wants next
pub record MayTakeReply (l : Lists) (session r : ℕ) : Type 0 where
  pub front : Arrival
  pub header : MessageHeader
  pub is_front : Fronts l front header
  pub of_session : session ≡ header.session
  pub of_request : r ≡ header.request
  pub client : Client
  pub found : find (is_client session) l.clients ≡ Some client
  pub of_peer : front.peer ≡ client.way.peer
  pub call : Call
  pub active : find (is_active r) client.calls ≡ Some call
  pub progress : Progress
  pub is_progress : call.progress ≡ Some progress
  pub in_turn : header.number ≡ progress.got
  pub of_turn : is_of_turn (asked_packets call.what) call.what.req_type progress.answer header
      (length (front_body l.ring)) ≡ true

-- a packet that goes on with a request
abbrev pub GoesOn : Kind → Served → MessageHeader → Type 0
GoesOn Request q h = (h.req_type ≡ q.req_type) × (h.size ≡ q.size)
GoesOn Rfr q h = (packet_count q.size ≤ h.number) × (is_past_end q.size (option_map length q.answer) h.number ≡ false)
GoesOn Cr q h = ⊥
GoesOn Response q h = ⊥

-- a packet that is taken: the first of a request, or the next one of the newest
abbrev pub TakesOf : Option Served → List Served → MessageHeader → Type 0
TakesOf None slots h = (h.kind ≡ Request) × (h.number ≡ 0)
    × (list_any (is_request h.request) slots ≡ false)
    × ((q : Served) → find (in_slot_of h.request) slots ≡ Some q → (q.number < h.request)
    × (q.working ≡ false))
TakesOf (Some q) slots h = (find (is_request h.request) slots ≡ Some q) × (h.number ≡ q.taken) × GoesOn h.kind q h

-- the front of the ring is the packet that a server session wants next
pub record MayTakeAsk (l : Lists) (session r k : ℕ) : Type 0 where
  pub front : Arrival
  pub header : MessageHeader
  pub is_front : Fronts l front header
  pub of_session : session ≡ header.session
  pub of_request : r ≡ header.request
  pub of_number : k ≡ header.number
  pub server : Server
  pub found : find (is_server session) l.servers ≡ Some server
  pub of_peer : front.peer ≡ server.way.peer
  pub going : Option Served
  pub takes : TakesOf going server.slots header

-- the packet with number k of request r was taken
pub record WasTaken (l : Lists) (session r k : ℕ) : Type 0 where
  pub server : Server
  pub found : find (is_server session) l.servers ≡ Some server
  pub request : Served
  pub in_slot : find (in_slot_of r) server.slots ≡ Some request
  pub number : request.number ≡ r
  pub was_taken : k < request.taken

-- a request stands whole, with no answer, and no worker has it
pub record IsWhole (l : Lists) (session r : ℕ) : Type 0 where
  pub server : Server
  pub found : find (is_server session) l.servers ≡ Some server
  pub request : Served
  pub is_there : find (is_request r) server.slots ≡ Some request
  pub whole : request.taken ≡ packet_count request.size
  pub unanswered : request.answer ≡ None
  pub idle : request.working ≡ false

-- a request becomes a job when its last packet was taken
pub record MayGive (l : Lists) (session r : ℕ) : Type 0 where
  pub has : IsWhole l session r

-- or it runs then
pub record MayServe (l : Lists) (session r req_type : ℕ) (ask : List ℕ) : Type 0 where
  pub has : IsWhole l session r
  pub of_type : req_type ≡ has.request.req_type
  pub own : ask ≡ has.request.ask

-- a job that is out runs
pub record MayFinish (l : Lists) (session r req_type : ℕ) (ask : List ℕ) : Type 0 where
  pub job : Job
  pub is_out : find (is_job session r) l.jobs.out ≡ Some job
  pub of_type : req_type ≡ job.req_type
  pub own : ask ≡ job.ask

abbrev pub MayRun : Lists → (session r req_type : ℕ) → (ask : List ℕ) → Type 0
MayRun l session r req_type ask = MayServe l session r req_type ask ⊎ MayFinish l session r req_type ask

-- a call whose answer's size is known
pub record HasSize (l : Lists) (c size : ℕ) (call : Call) (progress : Progress) : Type 0 where
  pub session : ℕ
  pub request : ℕ
  pub client : Client
  pub found : find (is_client session) l.clients ≡ Some client
  pub active : find (is_active request) client.calls ≡ Some call
  pub is_progress : call.progress ≡ Some progress
  pub number : c ≡ call.what.number
  pub answer : progress.answer ≡ Some size

-- a call ends well when all parts of its answer are there
pub record MayEnd (l : Lists) (c : ℕ) (bytes : List ℕ) : Type 0 where
  pub size : ℕ
  pub call : Call
  pub progress : Progress
  pub has : HasSize l c size call progress
  pub all : progress.got ≡ known_packets (asked_packets call.what) (Some size)
  pub whole : bytes ≡ progress.parts

-- a call ends for want of room when its answer's size is known and above its room
pub record MayFail (l : Lists) (c size : ℕ) : Type 0 where
  pub call : Call
  pub progress : Progress
  pub has : HasSize l c size call progress
  pub above : call.what.room < size

-- the front of the ring is a packet of a server session that is answered again
pub record MayRepeat (l : Lists) (session r k : ℕ) : Type 0 where
  pub front : Arrival
  pub header : MessageHeader
  pub is_front : Fronts l front header
  pub of_session : session ≡ header.session
  pub of_request : r ≡ header.request
  pub of_number : k ≡ header.number
  pub asks : is_ask header.kind ≡ true

abbrev pub MayAnswer : Lists → Owner → ℕ → Type 0
MayAnswer l (Ask s r) k = Unit {0}
MayAnswer l (Reply t r) k = MayRepeat l t r k
MayAnswer l Control k = Unit {0}

-- a session breaks where a call was rolled back eight times since its last reply
pub record MayBreak (l : Lists) (s : ℕ) : Type 0 where
  pub place : ℕ
  pub client : Client
  pub is_there : slice_get l.clients place ≡ Some client
  pub of_session : client.way.number ≡ s
  pub number : ℕ
  pub call : Call
  pub found : find (is_call number) client.calls ≡ Some call
  pub progress : Progress
  pub is_progress : call.progress ≡ Some progress
  pub rolled : 8 ≤ progress.rolls

-- a packet that is delivered is the one in hand
pub record Delivered (hand : Option InFlight) (l : Lists) (peer : ℕ) (bytes : List ℕ) : Type 0 where
  pub in_hand : hand ≡ Some (record { from = peer; to = l.me; bytes = bytes })

-- a message is lost only where the ring is full
pub record FindsFull (hand : Option InFlight) (l : Lists) (peer : ℕ) (bytes : List ℕ) : Type 0 where
  pub delivered : Delivered hand l peer bytes
  pub full : is_message bytes ≡ true → l.room ≤ length l.ring

abbrev pub MayPost : Lists → Owner → ℕ → Type 0
MayPost l (Ask s r) k = Unit {0}
MayPost l (Reply t r) k = WasTaken l t r k
MayPost l Control k = ⊥

abbrev pub MayTake : Lists → Owner → ℕ → Type 0
MayTake l (Ask s r) k = MayTakeReply l s r
MayTake l (Reply t r) k = MayTakeAsk l t r k
MayTake l Control k = ⊥

-- the control packet in hand was heard, and is of this kind
pub record Hearing (hand : Option InFlight) (l : Lists) (kind : ControlKind) : Type 0 where
  pub peer : ℕ
  pub bytes : List ℕ
  pub header : ControlHeader
  pub in_hand : hand ≡ Some (record { from = peer; to = l.me; bytes = bytes })
  pub reads : control_of bytes ≡ Some header
  pub of_kind : header.kind ≡ kind

-- a session that is Connecting is connected by a reply of its peer, to this life of the node, that
-- names server session t of this life of the peer, with its credits
pub record MayConnect (hand : Option InFlight) (l : Lists) (s t life : ℕ) : Type 0 where
  pub hears : Hearing hand l ConnectReply
  pub for_us : hears.header.to_life ≡ Some l.life
  pub of_life : hears.header.from_life ≡ life
  pub of_client : hears.header.client ≡ s
  pub names : hears.header.server ≡ Some t
  pub client : Client
  pub found : find (is_client s) l.clients ≡ Some client
  pub of_peer : client.way.peer ≡ hears.peer
  pub connecting : client.state ≡ Connecting
  pub credits : hears.header.credits ≡ client.limit

-- a server session ends by a request of its peer that names it
pub record MayLeave (hand : Option InFlight) (l : Lists) (t : ℕ) : Type 0 where
  pub hears : Hearing hand l DisconnectRequest
  pub for_us : hears.header.to_life ≡ Some l.life
  pub names : hears.header.server ≡ Some t
  pub server : Server
  pub found : find (is_server t) l.servers ≡ Some server
  pub of_peer : server.way.peer ≡ hears.peer
  pub of_client : server.way.other ≡ hears.header.client
  pub of_life : server.way.life ≡ hears.header.from_life

-- or by a connect request of its peer in a newer life
pub record MayOutdate (hand : Option InFlight) (l : Lists) (t : ℕ) : Type 0 where
  pub hears : Hearing hand l ConnectRequest
  pub server : Server
  pub found : find (is_server t) l.servers ≡ Some server
  pub of_peer : server.way.peer ≡ hears.peer
  pub older : server.way.life < hears.header.from_life

-- a client session at some place has this request of its own, for its peer
pub record AsksAt (l : Lists) (peer : ℕ) (h : ControlHeader) : Type 0 where
  pub place : ℕ
  pub client : Client
  pub is_there : slice_get l.clients place ≡ Some client
  pub to_peer : client.way.peer ≡ peer
  pub own : own_request l.life client ≡ Some h

-- a control packet that is sent is the node's own
pub record MaySay (l : Lists) (peer k : ℕ) (head body : List ℕ) : Type 0 where
  pub header : ControlHeader
  pub own : AsksAt l peer header ⊎ OwnControl l peer header
  pub no_number : k ≡ 0
  pub bytes : AreBytes head
  pub spells : Spells (ControlPacket header) head
  pub whole : body ≡ []

-- hand is the datagram that is to be delivered or handled. Nodes and ends of pairs are made in
-- another way
abbrev pub May : Option InFlight → Lists → Event → List ℕ → List ℕ → Type 0
May hand l (Made ring) first second = ⊥
May hand l (Restarted life) first second = ⊥
May hand l (PairedClient s peer t credits life) first second = ⊥
May hand l (PairedServer t peer s credits life) first second = ⊥
May hand l (Opened s peer credits) first second = (s ≡ length l.clients) × (first ≡ [])
    × (second ≡ [])
May hand l (Accepted t peer s credits life) first second = (t ≡ l.server_numbers) × (first ≡ [])
    × (second ≡ [])
May hand l (Connected s t life) first second = MayConnect hand l s t life × (first ≡ []) × (second ≡ [])
May hand l (Ended t) first second = MayLeave hand l t ⊎ MayOutdate hand l t
May hand l (Asked c s req_type room) first second = (c ≡ l.asked) × (second ≡ [])
May hand l (Begun c r) first second = MayBegin l c r × (first ≡ []) × (second ≡ [])
May hand l (Posted owner k) first second = MayPost l owner k
May hand l (Sent peer (Ask s r) k) first second = MaySend l peer (Ask s r) k first second
May hand l (Sent peer (Reply t r) k) first second = MaySend l peer (Reply t r) k first second
May hand l (Sent peer Control k) first second = MaySay l peer k first second
May hand l (Arrived peer) first second = Delivered hand l peer first
May hand l (Overflowed peer) first second = FindsFull hand l peer first
May hand l (Took owner k) first second = MayTake l owner k
May hand l (Again owner k) first second = MayAnswer l owner k
May hand l (Broken s) first second = MayBreak l s
May hand l (Given t r) first second = MayGive l t r
May hand l (Ran t r req_type) first second = MayRun l t r req_type first
May hand l (DoneOk c) first second = MayEnd l c first
May hand l (DoneTooSmall c size) first second = MayFail l c size
May hand l _ first second = Unit {0}

pub record IsAllowed (hand : Option InFlight) (l : Lists) (f : Fact) : Type 0 where
  pub who : f.who ≡ Node l.me
  pub may : May hand l f.event f.first f.second

-- whether a fact leaves a reply of session t to be posted next, to a packet that passes, by its request and
-- number; a run answers the last packet of its request
abbrev pub owes : (ℕ → ℕ → Bool) → ℕ → Event → List ℕ → Bool
owes passes t (Took (Reply session r) k) ask = session == t && passes r k
owes passes t (Again (Reply session r) k) ask = session == t && passes r k
owes passes t (Ran session r req_type) ask = session == t && passes r (packet_count (length ask) - 1)
owes passes t _ ask = false

-- whether node n owes such a reply by the latest fact
abbrev pub is_owed : (ℕ → ℕ → Bool) → ℕ → ℕ → Option Fact → Bool
is_owed passes n t None = false
is_owed passes n t (Some f) = is_at n f.who && owes passes t f.event f.first

-- packet k of request r
abbrev pub is_packet : (r k : ℕ) → ℕ → ℕ → Bool
is_packet r k request number = request == r && number == k

-- node n owes the reply to packet k of request r
abbrev pub Owes : Option Fact → (n t r k : ℕ) → Type 0
Owes latest n t r k = is_owed (is_packet r k) n t latest ≡ true

-- the reply to the last packet of a request that becomes a job is owed
pub record OwesWhole (latest : Option Fact) (l : Lists) (t r : ℕ) : Type 0 where
  pub has : IsWhole l t r
  pub owed : Owes latest l.me t r (packet_count (length has.request.ask) - 1)

abbrev pub carries : Who → Event → Bool
carries Net (Carried i) = true
carries _ _ = false

-- whether the latest fact took a copy out of flight
abbrev pub is_carried : Option Fact → Bool
is_carried None = false
is_carried (Some f) = carries f.who f.event

-- a job of a request is out
pub record IsOut (l : Lists) (session r : ℕ) (ask : List ℕ) : Type 0 where
  pub job : Job
  pub is_out : find (is_job session r) l.jobs.out ≡ Some job
  pub own : ask ≡ job.ask

-- the packet at the front of the ring has this number
abbrev pub FrontIs : Lists → ℕ → Type 0
FrontIs l k = (h : MessageHeader) → front_header l.ring ≡ Some h → h.number ≡ k

-- a reply is posted, and a job given, only where it is owed by the fact before; so a handler runs, or it runs
-- for a job that is out. A datagram is delivered right after it was taken out of flight
abbrev pub Linked : Option Fact → Lists → Event → List ℕ → Type 0
Linked latest l (Posted (Reply t r) k) first = Owes latest l.me t r k
Linked latest l (Took (Ask s r) k) first = FrontIs l k
Linked latest l (Given t r) first = OwesWhole latest l t r
Linked latest l (Ran t r req_type) first = Owes latest l.me t r (packet_count (length first) - 1) ⊎ IsOut l t r first
Linked latest l (Arrived peer) first = is_carried latest ≡ true
Linked latest l (Overflowed peer) first = is_carried latest ≡ true
Linked latest l _ first = Unit {0}

-- each of a node's facts is allowed, and linked to the one before it
abbrev pub WalksFrom : Option InFlight → Option Fact → ℕ → Lists → List Fact → Type 0
WalksFrom hand latest clock l [] = Unit {0}
WalksFrom hand latest clock l (f ∷ x) = IsAllowed hand l f × Linked latest l f.event f.first
    × WalksFrom (hand_noted l.me f.event l.inbox hand) (Some f) clock (after clock l f) x

-- so it is, whatever was before
abbrev pub Walks : Option InFlight → ℕ → Lists → List Fact → Type 0
Walks hand clock l x = WalksFrom hand None clock l x

linked-weaker : (latest : Option Fact) (l : Lists) (e : Event) (first : List ℕ)
    → Linked None l e first → Linked latest l e first
linked-weaker latest l (Posted (Reply t r) k) first h = false-true h
linked-weaker latest l (Posted (Ask s r) k) first h = tt
linked-weaker latest l (Posted Control k) first h = tt
linked-weaker latest l (Took (Ask s r) k) first h = h
linked-weaker latest l (Took (Reply t r) k) first h = tt
linked-weaker latest l (Took Control k) first h = tt
linked-weaker latest l (Given t r) first h = false-true h.owed
linked-weaker latest l (Ran t r y) first (inl h) = false-true h
linked-weaker latest l (Ran t r y) first (inr h) = inr h
linked-weaker latest l (Arrived peer) first h = false-true h
linked-weaker latest l (Overflowed peer) first h = false-true h
linked-weaker latest l _ first h = tt

pub walks-from : (hand : Option InFlight) (latest : Option Fact) (clock : ℕ) (l : Lists)
    (x : List Fact) → Walks hand clock l x → WalksFrom hand latest clock l x
walks-from hand latest clock l [] h = tt
walks-from hand latest clock l (f ∷ x) h = (h.0, linked-weaker latest l f.event f.first h.1, h.2)
