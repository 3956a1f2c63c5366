-- A run of a node notes only what is allowed, and what always holds does.
use Rattle.std.proofs.Common.{◌≡◌, ℕ, suc, ◌+◌, ◌-◌, ◌≤◌, ◌<◌, Bool, true, false, not, cond, ltb, Option}
use Rattle.std.proofs.Common.{Some, None, List, [], ◌∷◌, length, refl, ap, ap₂, subst, ◌∙◌, inl}
use Rattle.std.proofs.Common.{inr, arith}
use Rattle.std.specs.Prelude.{◌==◌, ◌&&◌, is_none, is_some, option_and_then, slice_get, Result, Ok, Err}
use Rattle.std.specs.List.{AllByRecursion, find}
use Rattle.std.proofs.lemmas.Bool.{and_parts, eqb-true, ltb-true, ltb-false, not-false}
use Rattle.packet_header.specs.Reading.{decoded, message_in, message_of, body_of}
use Rattle.packet_header.specs.Header.{AreBytes, HasHead, InRange}
use Rattle.packet_header.specs.Kinds.{is_asking}
use Rattle.packet_header.specs.Parts.{packet_count}
use Rattle.packet_header.proofs.PartsLemmas.{packet_count_above}
use Rattle.packet_header.specs.declared.packet.BadPacket.{BadPacket}
use Rattle.packet_header.specs.declared.packet.Packet.{Packet}
use Rattle.packet_header.specs.declared.packet.Packet.TheVariants.{Control, Message}
use Rattle.packet_header.specs.declared.packet.Kind.{Kind}
use Rattle.packet_header.specs.declared.packet.Kind.TheVariants.{Request, Rfr, Cr, Response}
use Rattle.packet_header.specs.declared.packet.MessageHeader.{MessageHeader}
use Rattle.rpc_base.specs.declared.event.Event.{Event}
use Rattle.rpc_base.specs.declared.event.Event.TheVariants.{PairedClient, PairedServer, Opened}
use Rattle.rpc_base.specs.declared.event.Event.TheVariants.{Closing as BeginsClosing}
use Rattle.rpc_base.specs.declared.event.Event.TheVariants.{NconnectNumbers, NconnectRing}
use Rattle.rpc_base.specs.declared.event.Event.TheVariants.{NcloseState, NcloseBusy, Rated, Nrate}
use Rattle.rpc_base.specs.declared.event.Event.TheVariants.{NcallTooLarge, Arrived, Dropped}
use Rattle.rpc_base.specs.declared.event.Event.TheVariants.{Overflowed, Bad, Ran, Sent, Worked, Missed}
use Rattle.rpc_base.specs.declared.fact.Fact.{Fact}
use Rattle.rpc_base.specs.declared.limits.TheConstants.{HEAD_BYTES}
use Rattle.rpc_base.specs.declared.owner.Owner.{Owner}
use Rattle.rpc_base.specs.declared.owner.Owner.TheVariants.{Ask, Reply, Control as IsControl}
use Rattle.rpc_base.specs.declared.state.DropReason.TheVariants.{StaleLife}
use Rattle.rpc_base.specs.declared.state.SessionState.{SessionState}
use Rattle.rpc_base.specs.declared.state.SessionState.TheVariants.{Unknown, Connecting, Connected}
use Rattle.rpc_base.specs.declared.state.SessionState.TheVariants.{Closing, Closed, Failed, Broken}
use Rattle.rpc_base.specs.declared.state.SessionState.TheVariants.{Spent}
use Rattle.rpc_laws.specs.declared.tables.Arrival.{Arrival}
use Rattle.rpc_laws.specs.declared.tables.Call.{Call}
use Rattle.rpc_laws.specs.declared.tables.Client.{Client}
use Rattle.rpc_laws.specs.declared.tables.Job.{Job}
use Rattle.rpc_laws.specs.declared.tables.Lists.{Lists}
use Rattle.rpc_laws.specs.declared.tables.Outgoing.{Outgoing}
use Rattle.rpc_laws.specs.declared.tables.Served.{Served}
use Rattle.rpc_laws.specs.declared.tables.Server.{Server}
use Rattle.rpc_laws.specs.declared.tables.Timed.{Timed}
use Rattle.rpc_laws.specs.Facts.{plain, with_two}
use Rattle.rpc_laws.specs.Front.{control_in, front_header, front_body, is_control, is_message}
use Rattle.rpc_laws.specs.ControlSteps.{HearsAll, TimesAll}
use Rattle.rpc_laws.specs.Deliveries.{arrival, inbox_room, Delivers}
use Rattle.rpc_laws.specs.Groups.{Asks, Connects, Disconnects, SetsRate, told_state, state_of}
use Rattle.rpc_laws.specs.Groups.{ask_by_state, shares, clients_spent, servers_spent, has_no_room}
use Rattle.rpc_laws.specs.Groups.{refusal_by, connect_by, disconnect_by, pending}
use Rattle.rpc_laws.specs.Jobs.{is_job}
use Rattle.rpc_laws.specs.NodeLists.{after, new_lists, new_node}
use Rattle.rpc_laws.specs.Packets.{owner_packet}
use Rattle.rpc_laws.specs.PollOrder.{answer_posted, awaited, awaited_of, Finishes, FinishesOne}
use Rattle.rpc_laws.specs.PollOrder.{FinishesSome}
use Rattle.rpc_laws.specs.PollOrder.{handling_by, Handles, NoMoreToHandle, HandlesAll, PostsAll}
use Rattle.rpc_laws.specs.PollOrder.{Sends, SendsSome, Closes, raised, Poll}
use Rattle.rpc_outside.specs.declared.service.Mode.{Mode}
use Rattle.rpc_base.specs.declared.limits.Limits.{Limits}
use Rattle.rpc_laws.specs.Service.{Serving}
use Rattle.rpc_laws.specs.Sessions.{is_client, is_connected, is_live}
use Rattle.rpc_laws.specs.Steps.{Then}
use Rattle.rpc_laws.specs.Requests.{is_request, is_server, request_of}
use Rattle.node_laws.specs.NodeRun.{Notes, Group, pairs_client, pairs_server, refuses, connects}
use Rattle.node_laws.specs.NodeRun.{disconnects, sets_rate, asks, delivers, polls, works, misses}
use Rattle.node_laws.specs.NodeRun.{LifeRun}
use Rattle.node_laws.proofs.Allowed.{MayFinish, MayClose, MayReply, AllowedBy}
use Rattle.node_laws.proofs.Allowed.{AllAllowed, Leads, LeadsBy, leads-of}
use Rattle.node_laws.proofs.ControlLemmas.{hears-all-lawful}
use Rattle.node_laws.proofs.LeadsLemmas.{valid_leads, LeadsAt, leads-at, Lawful, lawful-goes}
use Rattle.node_laws.proofs.LeadsLemmas.{lawful-then, lawful-until, lawful-chain, groups-chain}
use Rattle.node_laws.proofs.PostLemmas.{posts-lawful}
use Rattle.node_laws.proofs.ReplyLemmas.{replies-allowed}
use Rattle.node_laws.proofs.ServeLemmas.{reply-ran, asks-allowed}
use Rattle.node_laws.proofs.StateLemmas.{told-connected, told-few}
use Rattle.node_laws.proofs.TimerLemmas.{timers-lawful}
use Rattle.node_laws.specs.Valid.{RunWhole, SoundServer, Valid}
use Rattle.node_laws.proofs.ValidLemmas.{valid_new}
use Rattle.rpc_base.proofs.FirstLemmas.{found-holds}
use Rattle.rpc_base.proofs.TakingLemmas.{find-passes}

-- a packet is handled
front-is : (ring : List Arrival) (d : Arrival) → slice_get ring 0 ≡ Some d
    → (front_header ring ≡ message_of d.bytes) × (front_body ring ≡ body_of d.bytes)
front-is [] d e = cc
front-is (a ∷ ring) d e =
    let same : a ≡ d = cc in (
      ap (λ (x : Arrival). message_of x.bytes) same,
      ap (λ (x : Arrival). body_of x.bytes) same,
    )

module _ (mode : ℕ → Mode) (lacks : Bool) (answer : List ℕ) where
  handling-allowed : (clock : ℕ) (s : Lists) (peer : ℕ) (h : MessageHeader) (k : Kind) → h.kind ≡ k
      → Valid s → front_header s.ring ≡ Some h
      → AllAllowed clock s (handling_by mode lacks answer k s peer h (front_body s.ring))
  handling-allowed clock s peer h Request e v front =
      asks-allowed clock s v h front (ap is_asking e) peer mode lacks answer
  handling-allowed clock s peer h Rfr e v front =
      asks-allowed clock s v h front (ap is_asking e) peer mode lacks answer
  handling-allowed clock s peer h Cr e v front = replies-allowed clock s v h front peer
  handling-allowed clock s peer h Response e v front = replies-allowed clock s v h front peer

  -- a packet for another life is dropped
  handled-allowed : (clock : ℕ) (s : Lists) (peer : ℕ) (h : MessageHeader) (b : Bool) → Valid s
      → front_header s.ring ≡ Some h
      → AllAllowed clock s (cond b (handling_by mode lacks answer h.kind s peer h (front_body s.ring))
      (plain s.me (Dropped StaleLife) ∷ []))
  handled-allowed clock s peer h true v front = handling-allowed clock s peer h h.kind refl v front
  handled-allowed clock s peer h false v front = (tt, tt)

pub handles-lawful : (mode : ℕ → Mode) → Lawful (Handles mode)
handles-lawful mode s x t v h =
    let front = front-is s.lists.ring h.front h.is_front in
    let header : front_header s.lists.ring ≡ Some h.header = front.0 ∙ h.reads in
    let all = handled-allowed mode h.lacks h.answer s.clock s.lists h.front.peer h.header
    (h.header.to_life == s.lists.life) v header in
    lawful-goes s x t h.goes (rw (h.facts, ← front.1) all)

-- a job is finished

whole-of : (t r : ℕ) (servers : List Server) (q : Served) → AllByRecursion SoundServer servers
    → request_of t r servers ≡ Some q → RunWhole q
whole-of t r servers q sound found = by (find (is_server t) servers) refl found
  where
    by : (o : Option Server) → find (is_server t) servers ≡ o
        → option_and_then (λ v. find (is_request r) v.slots) o ≡ Some q → RunWhole q
    by None e h = cc
    by (Some v) e h =
        found-holds (is_request r) RunWhole v.slots q
        (found-holds (is_server t) SoundServer servers v sound e).whole h

-- a worker has a request only when it is whole
working-whole : (q : Served) (k : ℕ) (b : Bool) → q.working ≡ b → RunWhole q
    → cond b (Some (packet_count q.size - 1)) None ≡ Some k → k < q.taken
working-whole q k true e whole h =
    let all : packet_count q.size ≤ q.taken = whole (at-work (is_none q.answer) q.working e) in
    let above = packet_count_above q.size in
    let same : packet_count q.size - 1 ≡ k = cc in
    omega arith
  where
    at-work : (b w : Bool) → w ≡ true → (b && not w) ≡ false
    at-work true true e = refl
    at-work true false e = cc
    at-work false w e = refl
working-whole q k false e whole h = cc

awaited-reply : (t r k : ℕ) (servers : List Server) → AllByRecursion SoundServer servers
    → (o : Option Served) → request_of t r servers ≡ o → awaited_of o ≡ Some k
    → MayReply servers t r k
awaited-reply t r k servers sound None e h = cc
awaited-reply t r k servers sound (Some q) e h = record {
  stands = record { served = q; found = e };
  taken = working-whole q k q.working refl (whole-of t r servers q sound e) h;
}

finish-allowed : (clock : ℕ) (s : Lists) (job : Job) (answer : List ℕ) (o : Option ℕ)
    → AllByRecursion SoundServer s.servers → awaited job s.servers ≡ o
    → MayFinish s job.session job.request
    → AllAllowed clock s (with_two s.me (Ran job.session job.request job.req_type) job.ask answer
    ∷ answer_posted s.me job o)
finish-allowed clock s job answer None sound e may = (inr may, tt)
finish-allowed clock s job answer (Some k) sound e may =
    let reply = awaited-reply job.session job.request k s.servers sound
    (request_of job.session job.request s.servers) refl e in
    (inr may, (reply-ran job.session job.request k answer s.servers reply, tt))

own-finish : (s : Lists) (session request : ℕ) (job : Job)
    → find (is_job session request) s.jobs.out ≡ Some job → MayFinish s job.session job.request
own-finish s session request job e =
    let parts = and_parts (job.session == session) (job.request == request)
    (find-passes (is_job session request) s.jobs.out job e) in
    let one : job.session ≡ session = eqb-true job.session session parts.0 in
    let other : job.request ≡ request = eqb-true job.request request parts.1 in
    record { job = job; found = ap₂ (λ (a b : ℕ). find (is_job a b) s.jobs.out) one other ∙ e }

pub finishes-lawful : (session request : ℕ) → Lawful (Finishes session request)
finishes-lawful session request s x t v h =
    let job = h.job in
    lawful-goes s x t h.goes (rw h.facts (finish-allowed s.clock s.lists job h.answer
    (awaited job s.lists.servers) v.served refl (own-finish s.lists session request job h.is_out)))

pub finishes-some : Lawful FinishesSome
finishes-some s x t v h =
    lawful-chain FinishesOne (λ s x t v h. finishes-lawful h.session h.request s x t v h.finishes) s
    v h

-- a packet is sent, and a poll ends
sent-by : (s : Lists) (out : Outgoing) (head : List ℕ) (owner : Owner) (number : ℕ)
    (due : Option ℕ)
    → slice_get s.queued 0 ≡ Some (record { owner = owner; number = number; due = due })
    → owner_packet s owner number ≡ Some out → InRange out.packet → HasHead out.packet head
    → length head ≡ HEAD_BYTES → AreBytes head
    → AllowedBy s (Sent out.peer owner number) head out.body
sent-by s out head (Ask n r) number due front own in_range has_head long bytes = record {
  due = due;
  is_front = front;
  out = out;
  own = own;
  to_peer = refl;
  in_range = in_range;
  has_head = has_head;
  long = long;
  bytes = bytes;
  whole = refl;
}
sent-by s out head (Reply t r) number due front own in_range has_head long bytes = record {
  due = due;
  is_front = front;
  out = out;
  own = own;
  to_peer = refl;
  in_range = in_range;
  has_head = has_head;
  long = long;
  bytes = bytes;
  whole = refl;
}
sent-by s out head IsControl number due front own in_range has_head long bytes = cc

pub sends-lawful : Lawful Sends
sends-lawful s x t v h =
    lawful-goes s x t h.goes (rw h.facts (
      sent-by s.lists h.out h.head h.entry.owner h.entry.number h.entry.due h.is_front h.packet
          h.in_range h.has_head h.long h.bytes,
      tt,
    ))

pub closes-lawful : Lawful Closes
closes-lawful s x t v h = lawful-goes s x t h.goes (rw h.facts (tt, tt))

-- a poll, at the clock to which it raises the node's
pub poll-lawful : (mode : ℕ → Mode) (now : ℕ) (s : Timed) (x : List Fact) (t : Timed)
    → Valid s.lists → Poll mode now s x t → LeadsAt (raised now s) x t
poll-lawful mode now s x t v h =
    let closing = lawful-then SendsSome Closes (λ s x t v h. lawful-chain Sends sends-lawful s v h) closes-lawful in
    let posting = lawful-then PostsAll (Then SendsSome Closes) posts-lawful closing in
    let timing = lawful-then TimesAll (Then PostsAll (Then SendsSome Closes)) timers-lawful posting in
    let handling = lawful-then (HandlesAll mode)
    (Then TimesAll (Then PostsAll (Then SendsSome Closes)))
    (lawful-until (Handles mode) NoMoreToHandle (handles-lawful mode)) timing in
    let hearing = lawful-then HearsAll (Then (HandlesAll mode)
    (Then TimesAll (Then PostsAll (Then SendsSome Closes)))) hears-all-lawful handling in
    lawful-then FinishesSome (Then HearsAll (Then (HandlesAll mode)
    (Then TimesAll (Then PostsAll (Then SendsSome Closes))))) finishes-some hearing
    (raised now s) x t v h

-- an end of a pair is refused
pub refused-by : (s : Lists) (e : Event) (n credits room : ℕ) (b c : Bool)
    → cond b (Some NconnectNumbers) (cond c (Some (NconnectRing n credits room)) None) ≡ Some e
    → AllowedBy s e [] []
refused-by s e n credits room true c h =
    let same : NconnectNumbers ≡ e = cc in subst (λ (d : Event). AllowedBy s d [] []) same tt
refused-by s e n credits room false true h =
    let same : NconnectRing n credits room ≡ e = cc in subst (λ (d : Event). AllowedBy s d [] []) same tt
refused-by s e n credits room false false h = cc

-- a call is asked
asked-by : (s : Lists) (session req_type room : ℕ) (ask : List ℕ) (o : Option Client)
    → find (is_client session) s.clients ≡ o → (state : SessionState) → state_of o ≡ state
    → AllowedBy s (ask_by_state state session req_type room ask s).event
    (ask_by_state state session req_type room ask s).first
    (ask_by_state state session req_type room ask s).second
asked-by s session req_type room ask None found Connected e = cc
asked-by s session req_type room ask (Some x) found Connected e = record {
  next = refl;
  client = x;
  found = found;
  connected = told-connected x.state x.asked (ap is_connected e);
  few = told-few x.state x.asked e;
}
asked-by s session req_type room ask o found Unknown e = tt
asked-by s session req_type room ask o found Connecting e = tt
asked-by s session req_type room ask o found Closing e = tt
asked-by s session req_type room ask o found Closed e = tt
asked-by s session req_type room ask o found Failed e = tt
asked-by s session req_type room ask o found Broken e = tt
asked-by s session req_type room ask o found Spent e = tt

asked-allowed : (s : Lists) (session n : ℕ) (f : Fact) (b : Bool)
    → AllowedBy s f.event f.first f.second
    → AllowedBy s (cond b (plain s.me (NcallTooLarge session n)) f).event
    (cond b (plain s.me (NcallTooLarge session n)) f).first
    (cond b (plain s.me (NcallTooLarge session n)) f).second
asked-allowed s session n f true a = tt
asked-allowed s session n f false a = a

-- a datagram is delivered
no-control : (bytes : List ℕ) → is_message bytes ≡ true → is_control bytes ≡ true → ⊥
no-control bytes e h = by (decoded bytes) e h where
  by : (r : Result Packet BadPacket) → is_some (message_in r) ≡ true
      → is_some (control_in r) ≡ true → ⊥
  by (Ok (Message m)) i j = cc
  by (Ok (Control c)) i j = cc
  by (Err bad) i j = cc

message-by : (s : Lists) (peer : ℕ) (bytes : List ℕ) (b : Bool) → ltb (length s.ring) s.room ≡ b
    → is_message bytes ≡ true → AllowedBy s (cond b (Arrived peer) (Overflowed peer)) bytes []
message-by s peer bytes true e h = record {
  message = λ i. ltb-true (length s.ring) s.room e;
  control = λ i. absurd (no-control bytes h i);
}
message-by s peer bytes false e h = tt

control-by : (s : Lists) (peer : ℕ) (bytes : List ℕ) (b : Bool)
    → ltb (length s.inbox) inbox_room ≡ b → is_control bytes ≡ true
    → AllowedBy s (cond b (Arrived peer) (Overflowed peer)) bytes []
control-by s peer bytes true e h = record {
  message = λ i. absurd (no-control bytes i h);
  control = λ i. ltb-true (length s.inbox) inbox_room e;
}
control-by s peer bytes false e h = tt

delivered-by : (s : Lists) (peer : ℕ) (bytes : List ℕ) (b c : Bool) → is_message bytes ≡ b
    → is_control bytes ≡ c
    → AllowedBy s (cond b (arrival (length s.ring) s.room peer)
    (cond c (arrival (length s.inbox) inbox_room peer) (Bad peer))) bytes []
delivered-by s peer bytes true c e h = message-by s peer bytes (ltb (length s.ring) s.room) refl e
delivered-by s peer bytes false true e h = control-by s peer bytes (ltb (length s.inbox) inbox_room) refl h
delivered-by s peer bytes false false e h = tt

-- what isn't refused has room
fits-by : (s : Lists) (n credits room : ℕ) (b c : Bool)
    → cond b (Some NconnectNumbers) (cond c (Some (NconnectRing n credits room)) None) ≡ None
    → c ≡ false
fits-by s n credits room true c h = cc
fits-by s n credits room false true h = cc
fits-by s n credits room false false h = refl

pub pair-fits : (spent : Bool) (credits : ℕ) (s : Lists) → refusal_by spent credits s ≡ None
    → shares s + credits ≤ s.room
pair-fits spent credits s h =
    ltb-false s.room (shares s + credits) (fits-by s (shares s) credits s.room spent (has_no_room credits s) h)

-- a session is opened, a disconnect and a rate are asked
rated-by : (clock : ℕ) (s : Lists) (me session rate : ℕ) (b : Bool)
    → AllAllowed clock s (cond b [] (plain me (Rated session rate) ∷ []))
rated-by clock s me session rate true = tt
rated-by clock s me session rate false = (tt, tt)

opened-by : (clock : ℕ) (s : Lists) (credits peer rate n room : ℕ) (b c : Bool)
    → (c ≡ false → shares s + credits ≤ s.room)
    → AllAllowed clock s (connect_by (cond b (Some NconnectNumbers)
    (cond c (Some (NconnectRing n credits room)) None)) peer credits rate s)
opened-by clock s credits peer rate n room true c has = (tt, tt)
opened-by clock s credits peer rate n room false true has = (tt, tt)
opened-by clock s credits peer rate n room false false has = (
  record { numbered = refl; room = has refl },
  rated-by clock (after clock s (plain s.me (Opened (length s.clients) peer credits))) s.me
      (length s.clients) rate (rate == 0),
)

none-pending : (calls : List Call) → (length calls == 0) ≡ true → calls ≡ []
none-pending [] e = refl
none-pending (c ∷ cs) e = let none = eqb-true (suc (length cs)) 0 e in absurd (omega arith)

closed-by : (s : Lists) (session calls : ℕ) (state : SessionState) (b c : Bool)
    → (b ≡ false → c ≡ false → MayClose s session)
    → AllowedBy s (cond b (NcloseState session state)
    (cond c (NcloseBusy session calls) (BeginsClosing session))) [] []
closed-by s session calls state true c h = tt
closed-by s session calls state false true h = tt
closed-by s session calls state false false h = h refl refl

disconnect-by : (s : Lists) (session : ℕ) (o : Option Client)
    → find (is_client session) s.clients ≡ o
    → AllowedBy s (disconnect_by (state_of o) session (pending o)) [] []
disconnect-by s session None found = tt
disconnect-by s session (Some x) found =
    closed-by s session (length x.calls) (told_state x.state x.asked)
    (not (is_connected (told_state x.state x.asked))) (not (length x.calls == 0))
    (λ e h. record {
      client = x;
      found = found;
      connected = told-connected x.state x.asked
          (not-false (is_connected (told_state x.state x.asked)) e);
      idle =
          none-pending x.calls (not-false (length x.calls == 0) h);
    })

rate-by : (s : Lists) (session rate : ℕ) (state : SessionState) (b : Bool)
    → AllowedBy s (cond b (Rated session rate) (Nrate session state)) [] []
rate-by s session rate state true = tt
rate-by s session rate state false = tt

pub connects-lawful : (peer credits rate : ℕ) → Lawful (Connects peer credits rate)
connects-lawful peer credits rate s x t v h =
    lawful-goes s x t h.goes (rw h.facts (opened-by s.clock s.lists credits peer rate
    (shares s.lists) s.lists.room (clients_spent s.lists) (has_no_room credits s.lists)
    (λ e. ltb-false s.lists.room (shares s.lists + credits) e)))

pub disconnects-lawful : (session : ℕ) → Lawful (Disconnects session)
disconnects-lawful session s x t v h =
    lawful-goes s x t h.goes (rw h.facts (
      disconnect-by s.lists session
          (find (is_client session) s.lists.clients) refl,
      tt,
    ))

pub sets-rate-lawful : (session rate : ℕ) → Lawful (SetsRate session rate)
sets-rate-lawful session rate s x t v h =
    let state = state_of (find (is_client session) s.lists.clients) in
    lawful-goes s x t h.goes (rw h.facts (rate-by s.lists session rate state (is_live state), tt))

pub asks-lawful : (session req_type : ℕ) (ask : List ℕ) (room : ℕ) → Lawful (Asks session req_type ask room)
asks-lawful session req_type ask room s x t v h =
    let asked = asked-by s.lists session req_type room ask
    (find (is_client session) s.lists.clients) refl
    (state_of (find (is_client session) s.lists.clients)) refl in
    let all = asked-allowed s.lists session (length ask)
    (ask_by_state (state_of (find (is_client session) s.lists.clients)) session req_type
    room ask s.lists) (ltb 1048576 (length ask)) asked in
    lawful-goes s x t h.goes (rw h.facts (all, tt))

pub delivers-lawful : (peer : ℕ) (bytes : List ℕ) → Lawful (Delivers peer bytes)
delivers-lawful peer bytes s x t v h =
    lawful-goes s x t h.goes (rw h.facts (
      delivered-by s.lists peer bytes (is_message bytes)
          (is_control bytes) refl refl,
      tt,
    ))

pub notes-lawful : (e : Event) (s : Timed) (x : List Fact) (t : Timed)
    → AllowedBy s.lists e [] [] → Notes e s x t → LeadsAt s x t
notes-lawful e s x t a h = lawful-goes s x t h.goes (rw h.facts (a, tt))

-- a group notes what is allowed, at a clock of its own
pub record LeadsFrom (s : Timed) (x : List Fact) (t : Timed) : Type 0 where
  pub clock : ℕ
  pub leads : LeadsAt (record s { clock = clock }) x t

own-clock : (s : Timed) (x : List Fact) (t : Timed) → LeadsAt s x t → LeadsFrom s x t
own-clock s x t l = record { clock = s.clock; leads = record { all = l.all; lists = l.lists; clock = l.clock } }

pub group-lawful : (mode : ℕ → Mode) (s : Timed) (x : List Fact) (t : Timed) → Valid s.lists
    → Group mode s x t → LeadsFrom s x t
group-lawful mode s x t v (pairs_client peer server credits life may h) =
    own-clock s x t (notes-lawful (PairedClient (length s.lists.clients) peer server credits life) s x t
    (record {
      numbered = refl;
      room = pair-fits (clients_spent s.lists) credits s.lists may.fits;
    }) h)
group-lawful mode s x t v (pairs_server peer client credits life may h) =
    own-clock s x t (notes-lawful (PairedServer s.lists.server_numbers peer client credits life) s x t
    (record {
      numbered = refl;
      room = pair-fits (servers_spent s.lists) credits s.lists may.fits;
    }) h)
group-lawful mode s x t v (refuses credits few e (inl refusal) h) =
    own-clock s x t (notes-lawful e s x t (refused-by s.lists e (shares s.lists) credits
    s.lists.room (clients_spent s.lists) (has_no_room credits s.lists) refusal) h)
group-lawful mode s x t v (refuses credits few e (inr refusal) h) =
    own-clock s x t (notes-lawful e s x t (refused-by s.lists e (shares s.lists) credits
    s.lists.room (servers_spent s.lists) (has_no_room credits s.lists) refusal) h)
group-lawful mode s x t v (connects peer credits rate few h) =
    own-clock s x t (connects-lawful peer credits rate s x t v h)
group-lawful mode s x t v (disconnects session h) = own-clock s x t (disconnects-lawful session s x t v h)
group-lawful mode s x t v (sets_rate session rate h) = own-clock s x t (sets-rate-lawful session rate s x t v h)
group-lawful mode s x t v (asks session req_type ask room h) =
    own-clock s x t (asks-lawful session req_type ask room s x t v h)
group-lawful mode s x t v (delivers peer bytes h) = own-clock s x t (delivers-lawful peer bytes s x t v h)
group-lawful mode s x t v (polls now h) =
    record { clock = (raised now s).clock; leads = poll-lawful mode now s x t v h }
group-lawful mode s x t v (works session request out h) =
    own-clock s x t (notes-lawful (Worked session request) s x t tt h)
group-lawful mode s x t v (misses i h) = own-clock s x t (notes-lawful (Missed i) s x t tt h)

group-leads : (mode : ℕ → Mode) (s : Timed) (x : List Fact) (t : Timed) → Valid s.lists
    → Group mode s x t → LeadsBy s.lists x t.lists
group-leads mode s x t v h =
    let l = group-lawful mode s x t v h in leads-at (record s { clock = l.clock }) x t l.leads

-- what a run says of its facts
pub run_leads_by : {p : Serving} {me life : ℕ} {limits : Limits} {g : List Fact} {t : Timed}
    → LifeRun p me life limits g t → LeadsBy (new_lists me life limits) g t.lists
run_leads_by {p} {me} {life} {limits} r =
    groups-chain (Group p.mode) (group-leads p.mode) (new_node me life limits)
    (valid_new me life limits) r.steps

pub run_leads : {p : Serving} {me life : ℕ} {limits : Limits} {g : List Fact} {t : Timed}
    → LifeRun p me life limits g t → Leads (new_lists me life limits) g t.lists
run_leads {p} {me} {life} {limits} {g} {t} r = leads-of (new_lists me life limits) g t.lists (run_leads_by r)

pub run_valid : {p : Serving} {me life : ℕ} {limits : Limits} {g : List Fact} {t : Timed}
    → LifeRun p me life limits g t → Valid t.lists
run_valid {p} {me} {life} {limits} {g} {t} r =
    valid_leads (new_lists me life limits) g t.lists (valid_new me life limits) (run_leads r)
