-- What each fact needs of the lists before it.
use Rattle.std.specs.Prelude.{ℕ, ◌≡◌, ◌+◌, ◌≤◌, ◌<◌, ◌⊎◌, true, false, Option, Some, None, List, [], ◌∷◌, length}
use Rattle.std.specs.Prelude.{option_map, slice_get}
use Rattle.std.specs.List.{AllByRecursion, find, list_any}
use Rattle.packet_header.specs.Header.{AreBytes, HasHead, InRange}
use Rattle.packet_header.specs.Parts.{packet_count}
use Rattle.packet_header.specs.declared.packet.Kind.{Kind}
use Rattle.packet_header.specs.declared.packet.Kind.TheVariants.{Request, Rfr, Cr, Response}
use Rattle.packet_header.specs.declared.packet.MessageHeader.{MessageHeader}
use Rattle.rpc_base.specs.Owners.{same_owner}
use Rattle.rpc_base.specs.declared.event.Event.{Event}
use Rattle.rpc_base.specs.declared.event.Event.TheVariants.{PairedClient, PairedServer, Opened}
use Rattle.rpc_base.specs.declared.event.Event.TheVariants.{Accepted, Ended}
use Rattle.rpc_base.specs.declared.event.Event.TheVariants.{Connected as IsConnected, FailedNoRoom}
use Rattle.rpc_base.specs.declared.event.Event.TheVariants.{FailedNoAnswer}
use Rattle.rpc_base.specs.declared.event.Event.TheVariants.{Closing as BeginsClosing, ClosedHeard}
use Rattle.rpc_base.specs.declared.event.Event.TheVariants.{ClosedUnheard, Asked, Begun, Arrived}
use Rattle.rpc_base.specs.declared.event.Event.TheVariants.{Posted, Took, Given, Ran, Rolled}
use Rattle.rpc_base.specs.declared.event.Event.TheVariants.{Sent, Broken, DoneOk, DoneTooSmall}
use Rattle.rpc_base.specs.declared.event.Event.TheVariants.{DonePeerLost}
use Rattle.rpc_base.specs.declared.fact.Fact.{Fact}
use Rattle.rpc_base.specs.declared.limits.TheConstants.{HEAD_BYTES}
use Rattle.rpc_base.specs.declared.limits.TheConstants.{MOST_CALLS}
use Rattle.rpc_base.specs.declared.state.SessionState.{SessionState}
use Rattle.rpc_base.specs.declared.state.SessionState.TheVariants.{Connecting, Closing}
use Rattle.rpc_base.specs.declared.owner.Owner.{Owner}
use Rattle.rpc_base.specs.declared.owner.Owner.TheVariants.{Ask, Reply, Control}
use Rattle.rpc_laws.specs.declared.tables.Call.{Call}
use Rattle.rpc_laws.specs.declared.tables.Client.{Client}
use Rattle.rpc_laws.specs.declared.tables.Job.{Job}
use Rattle.rpc_laws.specs.declared.tables.Lists.{Lists}
use Rattle.rpc_laws.specs.declared.tables.Outgoing.{Outgoing}
use Rattle.rpc_laws.specs.declared.tables.Progress.{Progress}
use Rattle.rpc_laws.specs.declared.tables.Queued.{Queued}
use Rattle.rpc_laws.specs.declared.tables.Served.{Served}
use Rattle.rpc_laws.specs.declared.tables.Server.{Server}
use Rattle.rpc_laws.specs.BufferSafety.{SpellsControl}
use Rattle.rpc_laws.specs.Calls.{asked_packets, known_packets}
use Rattle.rpc_laws.specs.ClientTable.{is_of_turn}
use Rattle.rpc_laws.specs.Deliveries.{inbox_room}
use Rattle.rpc_laws.specs.Front.{is_message, is_control, front_header, front_body}
use Rattle.rpc_laws.specs.Groups.{shares}
use Rattle.rpc_laws.specs.Jobs.{is_job}
use Rattle.rpc_laws.specs.NodeLists.{after}
use Rattle.rpc_laws.specs.Packets.{owner_packet}
use Rattle.rpc_laws.specs.Posting.{is_taken, next_turn}
use Rattle.rpc_laws.specs.Queues.{is_queued}
use Rattle.rpc_laws.specs.Requests.{is_server, is_request, in_slot_of, request_of}
use Rattle.rpc_laws.specs.ServerTable.{is_past_end}
use Rattle.rpc_laws.specs.Sessions.{is_client, is_connected, is_live}
use Rattle.node_laws.proofs.Places.{Place, Active}
use Rattle.node_laws.specs.Valid.{is_due}

-- no packet of this owner is queued
abbrev pub NoneQueued : Owner → List Queued → Type 0
NoneQueued owner queued = list_any (λ q. same_owner q.owner owner) queued ≡ false

-- no packet of a call of session n is queued
abbrev pub NoneOf : ℕ → Option Progress → List Queued → Type 0
NoneOf n None queued = Unit {0}
NoneOf n (Some p) queued = NoneQueued (Ask n p.request) queued

-- a call is asked on a connected session that counts fewer than the most calls, with the next number
pub record MayAsk (s : Lists) (number session : ℕ) : Type 0 where
  pub next : number ≡ s.asked
  pub client : Client
  pub found : find (is_client session) s.clients ≡ Some client
  pub connected : is_connected client.state ≡ true
  pub few : client.asked < MOST_CALLS

-- a waiting call begins with the next number of a free slot
pub record MayBegin (s : Lists) (number request : ℕ) : Type 0 where
  pub session : ℕ
  pub client : Client
  pub call : Call
  pub slot : ℕ
  pub place : Place s.clients session client call
  pub same : number ≡ call.what.number
  pub waits : call.progress ≡ None
  pub below : slot < 8
  pub is_free : is_taken client.calls slot ≡ false
  pub next : request ≡ next_turn client.turns slot

-- the next packet of an active call of a connected session, where a credit is free
pub record MayPost (s : Lists) (session request number : ℕ) : Type 0 where
  pub client : Client
  pub call : Call
  pub progress : Progress
  pub active : Active s.clients session client call progress
  pub same : request ≡ progress.request
  pub turn : number ≡ progress.posted
  pub connected : is_connected client.state ≡ true
  pub more : progress.posted < known_packets (asked_packets call.what) progress.answer
  pub credit : 0 < client.free

-- the answer to the oldest unanswered packet of an active call, which isn't queued
pub record MayTake (s : Lists) (session request number : ℕ) : Type 0 where
  pub client : Client
  pub call : Call
  pub progress : Progress
  pub active : Active s.clients session client call progress
  pub connected : is_connected client.state ≡ true
  pub same : progress.request ≡ request
  pub header : MessageHeader
  pub front : front_header s.ring ≡ Some header
  pub numbered : header.number ≡ number
  pub turn : number ≡ progress.got
  pub posted : progress.got < progress.posted
  pub fits : is_of_turn (asked_packets call.what) call.what.req_type progress.answer header
      (length (front_body s.ring)) ≡ true
  pub unqueued : list_any (is_queued (Ask session request) number) s.queued ≡ false

-- an active call with no queued packet is rolled back as far as it is posted
pub record MayRoll (s : Lists) (number posted got : ℕ) : Type 0 where
  pub session : ℕ
  pub client : Client
  pub call : Call
  pub progress : Progress
  pub active : Active s.clients session client call progress
  pub same : number ≡ call.what.number
  pub from : posted ≡ progress.posted
  pub back : got ≡ progress.got
  pub unqueued : NoneQueued (Ask session progress.request) s.queued

-- an active call with no unanswered packet ends
pub record MayEnd (s : Lists) (number : ℕ) : Type 0 where
  pub session : ℕ
  pub client : Client
  pub call : Call
  pub progress : Progress
  pub active : Active s.clients session client call progress
  pub same : number ≡ call.what.number
  pub whole : progress.got ≡ progress.posted

-- a call of a broken session, with no queued packet, ends
pub record MayLose (s : Lists) (number : ℕ) : Type 0 where
  pub session : ℕ
  pub client : Client
  pub call : Call
  pub place : Place s.clients session client call
  pub same : number ≡ call.what.number
  pub broken : is_live client.state ≡ false
  pub unqueued : (p : Progress) → call.progress ≡ Some p → NoneQueued (Ask session p.request) s.queued

-- a number greater than that of the newest request of its slot
abbrev pub Newer : ℕ → Option Served → Type 0
Newer r None = Unit {0}
Newer r (Some l) = l.number < r

-- no reply to the newest request of a slot is queued
abbrev pub NoneOlder : ℕ → Option Served → List Queued → Type 0
NoneOlder session None queued = Unit {0}
NoneOlder session (Some l) queued = NoneQueued (Reply session l.number) queued

-- a packet of a request that stands in its slot, or of one that is newer than what stands there
pub record MayServe (s : Lists) (session request : ℕ) : Type 0 where
  pub server : Server
  pub found : find (is_server session) s.servers ≡ Some server
  pub header : MessageHeader
  pub front : front_header s.ring ≡ Some header
  pub newer : list_any (is_request request) server.slots ≡ false
      → Newer request (find (in_slot_of request) server.slots)
  pub clean : list_any (is_request request) server.slots ≡ false
      → NoneOlder session (find (in_slot_of request) server.slots) s.queued

-- a server session that is there ends where no reply to a request of its slots is queued
pub record MayLeave (s : Lists) (session : ℕ) : Type 0 where
  pub server : Server
  pub found : find (is_server session) s.servers ≡ Some server
  pub clean : (request : ℕ) → NoneOlder session (find (in_slot_of request) server.slots) s.queued

-- a request that stands in its slot
pub record Stands (servers : List Server) (session request : ℕ) : Type 0 where
  pub served : Served
  pub found : request_of session request servers ≡ Some served

-- a request is run or given to a worker once all its packets are taken, and where neither was done
pub record MayGive (s : Lists) (session request : ℕ) : Type 0 where
  pub server : Server
  pub found : find (is_server session) s.servers ≡ Some server
  pub served : Served
  pub is_served : find (is_request request) server.slots ≡ Some served
  pub due : is_due served ≡ true
  pub whole : packet_count served.size ≤ served.taken

-- a job that is out is finished
pub record MayFinish (s : Lists) (session request : ℕ) : Type 0 where
  pub job : Job
  pub found : find (is_job session request) s.jobs.out ≡ Some job

-- a session of so many credits is made with the next number, where the ring has room for them
pub record MayMake (s : Lists) (session next credits : ℕ) : Type 0 where
  pub numbered : session ≡ next
  pub room : shares s + credits ≤ s.room

-- a client session in this state
pub record IsIn (s : Lists) (state : SessionState) (session : ℕ) : Type 0 where
  pub client : Client
  pub found : find (is_client session) s.clients ≡ Some client
  pub stands : client.state ≡ state

-- a connected session with no calls begins to close
pub record MayClose (s : Lists) (session : ℕ) : Type 0 where
  pub client : Client
  pub found : find (is_client session) s.clients ≡ Some client
  pub connected : is_connected client.state ≡ true
  pub idle : client.calls ≡ []

-- a session breaks with no packet of its calls queued
pub record MayBreak (s : Lists) (session : ℕ) : Type 0 where
  pub client : Client
  pub found : find (is_client session) s.clients ≡ Some client
  pub clean : AllByRecursion (λ c. NoneOf session c.progress s.queued) client.calls

-- what an event needs of the lists before it; the others need nothing
abbrev pub Allowed : Lists → Event → Type 0
Allowed s (PairedClient session peer server credits life) = MayMake s session (length s.clients) credits
Allowed s (PairedServer session peer client credits life) = MayMake s session s.server_numbers credits
Allowed s (Opened session peer credits) = MayMake s session (length s.clients) credits
Allowed s (Accepted session peer client credits life) = MayMake s session s.server_numbers credits
Allowed s (IsConnected session server life) = IsIn s Connecting session
Allowed s (FailedNoRoom session) = IsIn s Connecting session
Allowed s (FailedNoAnswer session) = IsIn s Connecting session
Allowed s (BeginsClosing session) = MayClose s session
Allowed s (ClosedHeard session) = IsIn s Closing session
Allowed s (ClosedUnheard session) = IsIn s Closing session
Allowed s (Asked call session req_type room) = MayAsk s call session
Allowed s (Begun call request) = MayBegin s call request
Allowed s (Posted (Ask session request) number) = MayPost s session request number
Allowed s (Posted (Reply session request) number) = Stands s.servers session request
Allowed s (Took (Ask session request) number) = MayTake s session request number
Allowed s (Took (Reply session request) number) = MayServe s session request
Allowed s (Ended session) = MayLeave s session
Allowed s (Given session request) = MayGive s session request
Allowed s (Ran session request req_type) = MayGive s session request ⊎ MayFinish s session request
Allowed s (Rolled call posted got) = MayRoll s call posted got
Allowed s (Broken session) = MayBreak s session
Allowed s (DoneOk call) = MayEnd s call
Allowed s (DoneTooSmall call size) = MayEnd s call
Allowed s (DonePeerLost call) = MayLose s call
Allowed s _ = Unit {0}

-- a datagram arrives only where it has room: a packet of a call in the ring, and a control packet in the inbox
pub record HasRoom (s : Lists) (bytes : List ℕ) : Type 0 where
  pub message : is_message bytes ≡ true → length s.ring < s.room
  pub control : is_control bytes ≡ true → length s.inbox < inbox_room

-- what the kind of a packet tells that goes on with a request: it is of a message of the same size,
-- or wants a part that the answer has
abbrev pub GoesBy : Kind → Served → MessageHeader → Type 0
GoesBy Request q h = h.size ≡ q.size
GoesBy Rfr q h = is_past_end q.size (option_map length q.answer) h.number ≡ false
GoesBy Cr q h = ⊥
GoesBy Response q h = ⊥

-- the next packet of a request
pub record Grows (q : Served) (h : MessageHeader) : Type 0 where
  pub turn : h.number ≡ q.taken
  pub goes : GoesBy h.kind q h

-- a packet that is taken is the next one of its request, where that stands
pub record MayTakeAsk (s : Lists) (session request : ℕ) : Type 0 where
  pub serve : MayServe s session request
  pub grows : (q : Served) → find (is_request request) serve.server.slots ≡ Some q
      → Grows q serve.header

-- a reply is posted to a packet that was taken
pub record MayReply (servers : List Server) (session request number : ℕ) : Type 0 where
  pub stands : Stands servers session request
  pub taken : number < stands.served.taken

-- the front of the queue is sent to its peer, with the head and the body of its owner's packet
pub record MaySend (s : Lists) (peer : ℕ) (owner : Owner) (number : ℕ) (head body : List ℕ)
    : Type 0 where
  pub due : Option ℕ
  pub is_front : slice_get s.queued 0 ≡ Some (record { owner = owner; number = number; due = due })
  pub out : Outgoing
  pub own : owner_packet s owner number ≡ Some out
  pub to_peer : peer ≡ out.peer
  pub in_range : InRange out.packet
  pub has_head : HasHead out.packet head
  pub long : length head ≡ HEAD_BYTES
  pub bytes : AreBytes head
  pub whole : body ≡ out.body

-- what a fact needs: of some events more than of their numbers, and of some their bytes
abbrev pub AllowedBy : Lists → Event → (first second : List ℕ) → Type 0
AllowedBy s (Arrived peer) first second = HasRoom s first
AllowedBy s (Took (Reply session request) number) first second = MayTakeAsk s session request
AllowedBy s (Posted (Reply session request) number) first second =
    MayReply s.servers session request number
AllowedBy s (Sent peer (Ask session request) number) first second =
    MaySend s peer (Ask session request) number first second
AllowedBy s (Sent peer (Reply session request) number) first second =
    MaySend s peer (Reply session request) number first second
AllowedBy s (Sent peer Control number) first second = SpellsControl (s ∷ []) 0 peer number first second
AllowedBy s e first second = Allowed s e

pub allowed-of : (s : Lists) (e : Event) (first second : List ℕ) → AllowedBy s e first second
    → Allowed s e
allowed-of s (Arrived peer) first second a = tt
allowed-of s (Took (Reply session request) number) first second a = a.serve
allowed-of s (Posted (Reply session request) number) first second a = a.stands
allowed-of s (Sent peer owner number) first second a = tt
allowed-of s e first second a = a

-- facts that happen at one clock, each allowed
abbrev pub AllAllowed : ℕ → Lists → List Fact → Type 0
AllAllowed clock s [] = Unit {0}
AllAllowed clock s (f ∷ fs) =
    AllowedBy s f.event f.first f.second × AllAllowed clock (after clock s f) fs

-- allowed facts, each at a clock of its own, lead from lists to lists
abbrev pub Leads : Lists → List Fact → Lists → Type 0
Leads s [] t = t ≡ s
Leads s (f ∷ fs) t = (clock : ℕ) × Allowed s f.event × Leads (after clock s f) fs t

-- the same, with all that each fact needs
abbrev pub LeadsBy : Lists → List Fact → Lists → Type 0
LeadsBy s [] t = t ≡ s
LeadsBy s (f ∷ fs) t =
    (clock : ℕ) × AllowedBy s f.event f.first f.second × LeadsBy (after clock s f) fs t

pub leads-of : (s : Lists) (x : List Fact) (t : Lists) → LeadsBy s x t → Leads s x t
leads-of s [] t l = l
leads-of s (f ∷ fs) t l =
    (l.0, allowed-of s f.event f.first f.second l.1, leads-of (after l.0 s f) fs t l.2)
