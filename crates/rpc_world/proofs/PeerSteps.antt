-- The steps of a node name no peers but those that it has, and the one that a packet came from.
use Rattle.std.proofs.Common.{◌≡◌, ◌<◌, ◌+◌, ◌==◌, not, ℕ, zero, suc, Bool, true, false, cond}
use Rattle.std.proofs.Common.{Option, Some, None, List, [], ◌∷◌, ◌++◌, length, map, eqb, nat_lt, refl}
use Rattle.std.proofs.Common.{subst}
use Rattle.std.specs.Prelude.{flat_map, option_and_then, option_map, slice_get}
use Rattle.std.specs.List.{AllByRecursion, find}
use Rattle.packet_header.specs.Parts.{packet_count}
use Rattle.packet_header.specs.Reading.{body_of}
use Rattle.packet_header.specs.declared.packet.ControlHeader.{ControlHeader}
use Rattle.packet_header.specs.declared.packet.Kind.{Kind}
use Rattle.packet_header.specs.declared.packet.Kind.TheVariants.{Request, Rfr, Cr, Response}
use Rattle.packet_header.specs.declared.packet.MessageHeader.{MessageHeader}
use Rattle.rpc_base.specs.declared.event.Event.{Event}
use Rattle.rpc_base.specs.declared.event.Event.TheVariants.{Arrived, Bad, Begun, Closing as BeginsClosing}
use Rattle.rpc_base.specs.declared.event.Event.TheVariants.{DonePeerLost, Dropped, Flushed}
use Rattle.rpc_base.specs.declared.event.Event.TheVariants.{NcallTooLarge, NcloseBusy, NcloseState}
use Rattle.rpc_base.specs.declared.event.Event.TheVariants.{NconnectNumbers, NconnectRing, Nrate}
use Rattle.rpc_base.specs.declared.event.Event.TheVariants.{Overflowed, Posted, Ran, Rated, Worked}
use Rattle.rpc_base.specs.declared.event.Event.TheVariants.{Given}
use Rattle.rpc_base.specs.declared.fact.Fact.{Fact}
use Rattle.rpc_base.specs.declared.owner.Owner.{Owner}
use Rattle.rpc_base.specs.declared.owner.Owner.TheVariants.{Ask, Control, Reply}
use Rattle.rpc_base.specs.declared.state.DropReason.TheVariants.{StaleLife}
use Rattle.rpc_base.specs.declared.state.SessionState.{SessionState}
use Rattle.rpc_base.specs.declared.state.SessionState.TheVariants.{Connected, Connecting, Closing}
use Rattle.rpc_laws.specs.declared.rows.ClientRow.{ClientRow}
use Rattle.rpc_laws.specs.declared.rows.ClientRow.TheVariants.{Drops as ClientDrops, Takes as ClientTakes}
use Rattle.rpc_laws.specs.declared.rows.ControlRow.{ControlRow}
use Rattle.rpc_laws.specs.declared.rows.ControlRow.TheVariants.{Accepts, Closes as ClosesSession}
use Rattle.rpc_laws.specs.declared.rows.ControlRow.TheVariants.{Connects as ConnectsSession}
use Rattle.rpc_laws.specs.declared.rows.ControlRow.TheVariants.{Declines, Ends, Fails, Starves}
use Rattle.rpc_laws.specs.declared.rows.EndRow.{EndRow}
use Rattle.rpc_laws.specs.declared.rows.EndRow.TheVariants.{EndsOk, EndsTooSmall, GoesOn}
use Rattle.rpc_laws.specs.declared.rows.RetryRow.{RetryRow}
use Rattle.rpc_laws.specs.declared.rows.RetryRow.TheVariants.{Asks as RetryAsks, GivesUp, Rests}
use Rattle.rpc_laws.specs.declared.rows.ServerRow.{ServerRow}
use Rattle.rpc_laws.specs.declared.rows.ServerRow.TheVariants.{Begins, Drops, Repeats, Takes}
use Rattle.rpc_laws.specs.declared.rows.TimerRow.{TimerRow}
use Rattle.rpc_laws.specs.declared.rows.TimerRow.TheVariants.{Breaks, RollsBack, Waits}
use Rattle.rpc_laws.specs.declared.tables.Arrival.{Arrival}
use Rattle.rpc_laws.specs.declared.tables.Call.{Call}
use Rattle.rpc_laws.specs.declared.tables.Client.{Client}
use Rattle.rpc_laws.specs.declared.tables.Job.{Job}
use Rattle.rpc_laws.specs.declared.tables.Lists.{Lists}
use Rattle.rpc_laws.specs.declared.tables.Outgoing.{Outgoing}
use Rattle.rpc_laws.specs.declared.tables.Progress.{Progress}
use Rattle.rpc_laws.specs.declared.tables.Queued.{Queued}
use Rattle.rpc_laws.specs.declared.tables.Served.{Served}
use Rattle.rpc_laws.specs.declared.tables.Server.{Server}
use Rattle.rpc_laws.specs.declared.tables.Timed.{Timed}
use Rattle.rpc_laws.specs.declared.tables.Way.{Way}
use Rattle.rpc_laws.specs.declared.tables.WorkedJob.{WorkedJob}
use Rattle.rpc_laws.specs.Calls.{asked_packets, is_active, is_call, is_waiting}
use Rattle.rpc_laws.specs.ClientTable.{call_ending, client_ending, end_facts, progress_ending, reply_facts}
use Rattle.rpc_laws.specs.ControlSteps.{AnswersControl, control_fact, EndsAllOutdated, EndsOutdated}
use Rattle.rpc_laws.specs.ControlSteps.{given_up, Hears, HearsAll, own_request, Retries, RetriesAs}
use Rattle.rpc_laws.specs.ControlSteps.{RetriesBy, RetriesOf, retry_row, SpeaksIf, TakesControl}
use Rattle.rpc_laws.specs.ControlSteps.{TimesAll, TimesSession}
use Rattle.rpc_laws.specs.ControlTable.{control_facts, control_reply, control_row, named_end}
use Rattle.rpc_laws.specs.ControlTable.{session_end}
use Rattle.rpc_laws.specs.Deliveries.{Delivers, inbox_room}
use Rattle.rpc_laws.specs.Facts.{plain, with_bytes, with_two}
use Rattle.rpc_laws.specs.Front.{is_control, is_message}
use Rattle.rpc_laws.specs.GoBackN.{call_facts, client_facts, Each, flushes_of, numbers_in}
use Rattle.rpc_laws.specs.GoBackN.{progress_facts, row_facts, row_of, Watches, WatchesSession}
use Rattle.rpc_laws.specs.Groups.{ask_by_state, Asks, client_refusal, clients_spent, connect_by}
use Rattle.rpc_laws.specs.Groups.{Connects, Disconnects, has_no_room, pending, SetsRate, shares}
use Rattle.rpc_laws.specs.Groups.{state_of}
use Rattle.rpc_laws.specs.Packets.{ask_packet, call_packet, client_packet, owner_packet, reply_packet}
use Rattle.rpc_laws.specs.Packets.{request_packet}
use Rattle.rpc_laws.specs.PollOrder.{answer_posted, awaited, Closes, FinishesOne, FinishesSome, Handles}
use Rattle.rpc_laws.specs.PollOrder.{handling_by, HandlesAll, Poll, PostsAll, raised, Sends, SendsSome}
use Rattle.rpc_laws.specs.PollOrder.{Serves}
use Rattle.rpc_laws.specs.Posting.{beginning, can_post, if_connected, lowest_free, next_begun}
use Rattle.rpc_laws.specs.Posting.{next_packet, next_posted, next_turn, posting}
use Rattle.rpc_laws.specs.Queues.{flush_facts, numbers_of}
use Rattle.rpc_laws.specs.Requests.{in_slot_of, is_request, is_server}
use Rattle.rpc_laws.specs.ServerTable.{flushes, flushes_older, is_last, makes_job, served_facts}
use Rattle.rpc_laws.specs.ServerTable.{took_facts}
use Rattle.rpc_laws.specs.Sessions.{is_client, is_connected, is_live}
use Rattle.rpc_laws.specs.Steps.{Chain, Goes, more, none, NotesAll, NotesNext, Rel, Then, Visits}
use Rattle.rpc_laws.specs.Working.{work_of, Works, WorksAll, waiting_of}
use Rattle.rpc_outside.specs.declared.service.Mode.{Mode}
use Rattle.rpc_world.specs.Peers.{AllName, NamesAmong, PeersAmong}
use Rattle.rpc_world.proofs.PeerLemmas.{found-all, peers-stay}

-- a step whose facts name peers among the first n nodes, to which it leads again
pub record Named (n : ℕ) (x : List Fact) (t : Timed) : Type 0 where
  pub names : AllName n x
  pub peers : PeersAmong n t.lists

module _ (n : ℕ) where
  abbrev pub Names : Rel → Type 0
  Names P = (s : Timed) (x : List Fact) (t : Timed) → PeersAmong n s.lists → P s x t → Named n x t

  names-goes : (s : Timed) (x : List Fact) (t : Timed) → PeersAmong n s.lists → Goes s x t
      → AllName n x → Named n x t
  names-goes s x t i g a =
      record { names = a; peers = rw g (peers-stay n s.clock s.lists x a i) }

  names-none : (s : Timed) (x : List Fact) (t : Timed) → PeersAmong n s.lists → x ≡ [] → t ≡ s
      → Named n x t
  names-none s x t i e f = rw (e, f) (record { names = tt; peers = i })

  name-append : (x y : List Fact) → AllName n x → AllName n y → AllName n (x ++ y)
  name-append [] y a b = b
  name-append (f ∷ x) y a b = (a.0, name-append x y a.1 b)

  names-append : (x y : List Fact) (t u : Timed) → Named n x t → Named n y u → Named n (x ++ y) u
  names-append x y t u a b = record { names = name-append x y a.names b.names; peers = b.peers }

  names-then : (P Q : Rel) → Names P → Names Q → Names (Then P Q)
  names-then P Q p q s x t i h =
      let a = p s h.front h.between i h.first in
      rw h.joined (names-append h.front h.back h.between t a (q h.between h.back t a.peers h.second))

  names-chain : (P : Rel) → Names P → Names (Chain P)
  names-chain P p s x t i none = names-none s [] s i refl refl
  names-chain P p s x t i (more {x = front} {t = between} c y u h) =
      let a = names-chain P p s front between i c in
      names-append front y between u a (p between y u a.peers h)

  names-visits : (P : ℕ → Rel) → ((k : ℕ) → Names (P k)) → (k : ℕ) → Names (Visits P k)
  names-visits P p zero s x t i h = names-none s x t i h.0 h.1
  names-visits P p (suc k) s x t i h =
      names-then (Visits P k) (P k) (names-visits P p k) (p k) s x t i h

  names-each : (P : ℕ → Rel) → ((k : ℕ) → Names (P k)) → (ks : List ℕ) → Names (Each P ks)
  names-each P p [] s x t i h = names-none s x t i h.0 h.1
  names-each P p (k ∷ ks) s x t i h =
      names-then (P k) (Each P ks) (p k) (names-each P p ks) s x t i h

  name-flat : {A : Type 0} (f : A → List Fact) → ((a : A) → AllName n (f a)) → (xs : List A)
      → AllName n (flat_map f xs)
  name-flat f each [] = tt
  name-flat f each (a ∷ xs) = name-append (f a) (flat_map f xs) (each a) (name-flat f each xs)

  name-map : {A : Type 0} (f : A → Fact) → ((a : A) → NamesAmong n (f a).event) → (xs : List A)
      → AllName n (map f xs)
  name-map f each [] = tt
  name-map f each (a ∷ xs) = (each a, name-map f each xs)

  module _ (me : ℕ) where
    name-flush : (queued : List Queued) (owner : Owner) → AllName n (flush_facts me queued owner)
    name-flush queued owner = name-map (λ k. plain me (Flushed owner k)) (λ k. tt) (numbers_of owner queued)

    -- a job is finished
    name-finish : (o : Option ℕ) (job : Job) (answer : List ℕ)
        → AllName n (with_two me (Ran job.session job.request job.req_type) job.ask answer
        ∷ answer_posted me job o)
    name-finish None job answer = (tt, tt)
    name-finish (Some k) job answer = (tt, (tt, tt))

    -- a packet is handled
    name-flushes : (queued : List Queued) (session : ℕ) (q : Option Served)
        → AllName n (flushes me queued session q)
    name-flushes queued session None = tt
    name-flushes queued session (Some q) = name-flush queued (Reply session q.number)

    name-older : (queued : List Queued) (v : Option Server) (r : ℕ)
        → AllName n (flushes_older me queued v r)
    name-older queued None r = tt
    name-older queued (Some v) r = name-flushes queued v.way.number (find (in_slot_of r) v.slots)

    name-brings : (a b : Bool) (answer : List ℕ) (h : MessageHeader) (ask : List ℕ)
        → AllName n (cond a (plain me (Given h.session h.request) ∷ [])
        (cond b (with_two me (Ran h.session h.request h.req_type) ask answer ∷ []) []
        ++ plain me (Posted (Reply h.session h.request) h.number) ∷ []))
    name-brings true b answer h ask = (tt, tt)
    name-brings false true answer h ask = (tt, (tt, tt))
    name-brings false false answer h ask = (tt, tt)

    name-took : (mode : Mode) (answer : List ℕ) (h : MessageHeader) (ask : List ℕ)
        → AllName n (took_facts mode me answer h ask)
    name-took mode answer h ask = (tt, name-brings (makes_job mode h) (is_last h) answer h ask)

    name-served : (mode : Mode) (answer : List ℕ) (queued : List Queued) (v : Option Server)
        (h : MessageHeader) (body : List ℕ) (row : ServerRow)
        → AllName n (served_facts mode me answer queued v h body row)
    name-served mode answer queued v h body (Drops why) = (tt, tt)
    name-served mode answer queued v h body Begins =
        name-append (flushes_older me queued v h.request) _ (name-older queued v h.request)
        (name-took mode answer h body)
    name-served mode answer queued v h body Takes = name-took mode answer h _
    name-served mode answer queued v h body Repeats = (tt, (tt, tt))

    name-end : (number : ℕ) (parts : List ℕ) (row : EndRow) → AllName n (end_facts me number parts row)
    name-end number parts GoesOn = tt
    name-end number parts EndsOk = (tt, tt)
    name-end number parts (EndsTooSmall size) = (tt, tt)

    name-call-end : (h : MessageHeader) (body : List ℕ) (c : Call) (p : Option Progress)
        → AllName n (progress_ending me c.what h body p)
    name-call-end h body c None = tt
    name-call-end h body c (Some p) = name-end c.what.number _ _

    name-ending : (h : MessageHeader) (body : List ℕ) (c : Option Call)
        → AllName n (call_ending me h body c)
    name-ending h body None = tt
    name-ending h body (Some c) = name-call-end h body c c.progress

    name-client-end : (h : MessageHeader) (body : List ℕ) (x : Option Client)
        → AllName n (client_ending me h body x)
    name-client-end h body None = tt
    name-client-end h body (Some x) = name-ending h body (find (is_active h.request) x.calls)

    name-reply : (x : Option Client) (h : MessageHeader) (body : List ℕ) (row : ClientRow)
        → AllName n (reply_facts me x h body row)
    name-reply x h body (ClientDrops why) = (tt, tt)
    name-reply x h body ClientTakes = (tt, name-client-end h body x)

    -- session control
    name-said : (taken : Bool) (peer : ℕ) (head : List ℕ) → peer < n
        → NamesAmong n (control_fact taken me peer head).event
    name-said true peer head less = less
    name-said false peer head less = tt

    name-speaks : (peer : ℕ) (o : Option ControlHeader) (x : List Fact) → peer < n
        → SpeaksIf me peer o x → AllName n x
    name-speaks peer None x less h = rw h tt
    name-speaks peer (Some c) x less h = rw h.facts (name-said h.taken peer h.head less, tt)

    name-session-end : (queued : List Queued) (v : Option Server)
        → AllName n (session_end me queued v)
    name-session-end queued None = tt
    name-session-end queued (Some v) =
        name-append _ _
        (name-flat (λ slot. flushes me queued v.way.number (find (in_slot_of slot) v.slots))
        (λ slot. name-flushes queued v.way.number (find (in_slot_of slot) v.slots))
        (0 ∷ 1 ∷ 2 ∷ 3 ∷ 4 ∷ 5 ∷ 6 ∷ 7 ∷ [])) (tt, tt)

    name-given-up : (state : SessionState) (number : ℕ)
        → AllName n (map (plain me) (given_up state number))
    name-given-up Connecting number = (tt, tt)
    name-given-up Closing number = (tt, tt)
    name-given-up _ number = tt

    name-retries-by : (row : RetryRow) (x : Client) (h : ControlHeader) (facts : List Fact)
        → x.way.peer < n → RetriesBy row me x h facts → AllName n facts
    name-retries-by Rests x h facts less r = rw r tt
    name-retries-by RetryAsks x h facts less r =
        rw r.facts (name-said r.taken x.way.peer r.head less, tt)
    name-retries-by GivesUp x h facts less r = rw r (name-given-up x.state x.way.number)

    name-retries-as : (own : Option ControlHeader) (clock timeout : ℕ) (x : Client)
        (facts : List Fact) → x.way.peer < n → RetriesAs own clock timeout me x facts
        → AllName n facts
    name-retries-as None clock timeout x facts less r = rw r tt
    name-retries-as (Some h) clock timeout x facts less r =
        name-retries-by (retry_row clock timeout x.sends x.sent_at) x h facts less r

    name-retries : (own clock timeout i : ℕ) (xs : List Client) (x : Option Client)
        (facts : List Fact) → slice_get xs i ≡ x → AllByRecursion (λ x. x.way.peer < n) xs
        → RetriesOf clock timeout me own x facts → AllName n facts
    name-retries own clock timeout i xs None facts is all r = rw r tt
    name-retries own clock timeout i xs (Some x) facts is all r =
        name-retries-as (own_request own x) clock timeout x facts
        (found-all (λ (z : Client). z.way.peer < n) xs i x all is) r

    -- the timers
    name-call-flushes : (queued : List Queued) (session : ℕ) (p : Option Progress)
        → AllName n (flushes_of me session queued p)
    name-call-flushes queued session None = tt
    name-call-flushes queued session (Some p) = name-flush queued (Ask session p.request)

    name-row : (queued : List Queued) (x : Client) (number : ℕ) (p : Progress) (row : TimerRow)
        → AllName n (row_facts me queued x number p row)
    name-row queued x number p Waits = tt
    name-row queued x number p RollsBack =
        name-append (flush_facts me queued (Ask x.way.number p.request)) _
        (name-flush queued (Ask x.way.number p.request)) (tt, tt)
    name-row queued x number p Breaks =
        name-append _ _ (name-flat (λ (c : Call). flushes_of me x.way.number queued c.progress)
        (λ c. name-call-flushes queued x.way.number c.progress) x.calls) (
          tt,
          name-map (λ (c : Call). plain me (DonePeerLost c.what.number)) (λ c. tt) x.calls,
        )

    name-progress : (clock timeout : ℕ) (queued : List Queued) (x : Client) (number : ℕ)
        (p : Option Progress) → AllName n (progress_facts clock timeout me queued x number p)
    name-progress clock timeout queued x number None = tt
    name-progress clock timeout queued x number (Some p) =
        name-row queued x number p (row_of clock timeout x.way.number queued p)

    name-call : (clock timeout : ℕ) (queued : List Queued) (x : Client) (c : Option Call)
        → AllName n (call_facts clock timeout me queued x c)
    name-call clock timeout queued x None = tt
    name-call clock timeout queued x (Some c) =
        name-progress clock timeout queued x c.what.number c.progress

    name-client : (clock timeout : ℕ) (queued : List Queued) (number : ℕ) (x : Option Client)
        → AllName n (client_facts clock timeout me queued number x)
    name-client clock timeout queued number None = tt
    name-client clock timeout queued number (Some x) =
        name-call clock timeout queued x (find (is_call number) x.calls)

  name-control : (s : Lists) (peer : ℕ) (h : ControlHeader) (row : ControlRow) → peer < n
      → AllName n (control_facts s peer h row)
  name-control s peer h Declines less = (tt, tt)
  name-control s peer h Starves less = (tt, tt)
  name-control s peer h (Accepts t) less = (less, tt)
  name-control s peer h Ends less =
      name-session-end s.me s.queued (named_end peer h.client h.from_life h.server s.servers)
  name-control s peer h (ConnectsSession t) less = (tt, tt)
  name-control s peer h Fails less = (tt, tt)
  name-control s peer h ClosesSession less = (tt, tt)
  name-control s peer h _ less = tt

  -- the steps of a poll
  finishes-names : Names FinishesOne
  finishes-names s x t i h =
      names-goes s x t i h.finishes.goes (rw h.finishes.facts
      (name-finish s.lists.me (awaited h.finishes.job s.lists.servers) h.finishes.job
      h.finishes.answer))

  takes-names : Names TakesControl
  takes-names s x t i h = names-goes s x t i h.goes (rw h.facts (tt, tt))

  outdated-names : (peer : ℕ) (h : ControlHeader) → Names (EndsOutdated peer h)
  outdated-names peer h s x t i k =
      names-goes s x t i k.goes (rw k.facts (name-session-end s.lists.me s.lists.queued (Some k.server)))

  answers-names : (peer : ℕ) (h : ControlHeader) → peer < n → Names (AnswersControl peer h)
  answers-names peer h less s x t i k =
      let row = control_row k.lacks peer h s.lists in
      names-goes s x t i k.goes (rw k.facts (
      name-append (control_facts s.lists peer h row) k.said (name-control s.lists peer h row less)
      (name-speaks s.lists.me peer (control_reply s.lists.life h row) k.said less k.speaks)))

  hears-names : Names Hears
  hears-names s x t i h =
      let peer = h.front.peer in
      let less = found-all (λ (a : Arrival). a.peer < n) s.lists.inbox 0 h.front i.2 h.is_front in
      names-then TakesControl (Then (EndsAllOutdated peer h.header) (AnswersControl peer h.header))
      takes-names
      (names-then (EndsAllOutdated peer h.header) (AnswersControl peer h.header)
      (λ s x t i k. names-chain (EndsOutdated peer h.header) (outdated-names peer h.header) s x t i k.steps)
      (answers-names peer h.header less)) s x t i h.steps

  handling-names : (mode : ℕ → Mode) (lacks : Bool) (answer : List ℕ) (s : Lists) (peer : ℕ)
      (h : MessageHeader) (body : List ℕ) (k : Kind)
      → AllName n (handling_by mode lacks answer k s peer h body)
  handling-names mode lacks answer s peer h body Request =
      name-served s.me (mode h.req_type) answer s.queued _ h body _
  handling-names mode lacks answer s peer h body Rfr =
      name-served s.me (mode h.req_type) answer s.queued _ h body _
  handling-names mode lacks answer s peer h body Cr =
      name-reply s.me (find (is_client h.session) s.clients) h body _
  handling-names mode lacks answer s peer h body Response =
      name-reply s.me (find (is_client h.session) s.clients) h body _

  handled-names : (mode : ℕ → Mode) (lacks : Bool) (answer : List ℕ) (s : Lists) (peer : ℕ)
      (h : MessageHeader) (body : List ℕ) (b : Bool)
      → AllName n (cond b (handling_by mode lacks answer h.kind s peer h body)
      (plain s.me (Dropped StaleLife) ∷ []))
  handled-names mode lacks answer s peer h body true =
      handling-names mode lacks answer s peer h body h.kind
  handled-names mode lacks answer s peer h body false = (tt, tt)

  handles-names : (mode : ℕ → Mode) → Names (Handles mode)
  handles-names mode s x t i h =
      names-goes s x t i h.goes (rw h.facts (handled-names mode h.lacks h.answer s.lists h.front.peer
      h.header (body_of h.front.bytes) (h.header.to_life == s.lists.life)))

  retries-names : (timeout i : ℕ) → Names (Retries timeout i)
  retries-names timeout i s x t z h =
      names-goes s x t z h.goes
      (name-retries s.lists.me s.lists.life s.clock timeout i s.lists.clients
      (slice_get s.lists.clients i) x refl z.0 h.facts)

  watches-names : (timeout i number : ℕ) → Names (Watches timeout i number)
  watches-names timeout i number s x t z h =
      names-goes s x t z h.goes (rw h.facts (name-client s.lists.me s.clock timeout s.lists.queued
      number (slice_get s.lists.clients i)))

  session-names : (timeout i : ℕ) → Names (TimesSession timeout i)
  session-names timeout i =
      names-then (Retries timeout i) (WatchesSession timeout i) (retries-names timeout i)
      (λ s x t z h. names-each (Watches timeout i) (watches-names timeout i)
      (numbers_in (slice_get s.lists.clients i)) s x t z h)

  -- what is begun and posted next
  map-names : {A : Type 0} (f : A → Event) → ((a : A) → NamesAmong n (f a)) → (o : Option A)
      (e : Event) → option_map f o ≡ Some e → NamesAmong n e
  map-names f each None e h = cc
  map-names f each (Some a) e h =
      let same : f a ≡ e = cc in subst (λ (d : Event). NamesAmong n d) same (each a)

  then-names : {A : Type 0} (f : A → Option Event)
      → ((a : A) (e : Event) → f a ≡ Some e → NamesAmong n e) → (o : Option A) (e : Event)
      → option_and_then f o ≡ Some e → NamesAmong n e
  then-names f each None e h = cc
  then-names f each (Some a) e h = each a e h

  if-names : (b : Bool) (o : Option Event) (e : Event)
      → ((e : Event) → o ≡ Some e → NamesAmong n e) → cond b o None ≡ Some e → NamesAmong n e
  if-names true o e each h = each e h
  if-names false o e each h = cc

  unless-names : (b : Bool) (o : Option Event) (e : Event)
      → ((e : Event) → o ≡ Some e → NamesAmong n e) → cond b None o ≡ Some e → NamesAmong n e
  unless-names false o e each h = each e h
  unless-names true o e each h = cc

  begun-names : (i : ℕ) (l : Lists) (e : Event) → next_begun i l ≡ Some e → NamesAmong n e
  begun-names i l e h =
      then-names (if_connected beginning) (λ x e k. if-names (is_connected x.state)
      (beginning x) e (λ e k. then-names (λ (c : Call). option_map
      (λ slot. Begun c.what.number (next_turn x.turns slot)) (lowest_free x.calls))
      (λ c e k. map-names (λ slot. Begun c.what.number (next_turn x.turns slot))
      (λ slot. tt) (lowest_free x.calls) e k)
      (find is_waiting x.calls) e k) k) (slice_get l.clients i) e h

  posted-names : (i : ℕ) (l : Lists) (e : Event) → next_posted i l ≡ Some e → NamesAmong n e
  posted-names i l e h =
      then-names (if_connected posting) (λ x e k. if-names (is_connected x.state)
      (posting x) e (λ e k. unless-names (eqb x.free 0)
      (option_and_then (λ c. next_packet x.way.number c.progress) (find can_post x.calls)) e
      (λ e k. then-names (λ (c : Call). next_packet x.way.number c.progress)
      (λ c e k. map-names (λ (p : Progress). Posted (Ask x.way.number p.request) p.posted)
      (λ p. tt) c.progress e k)
      (find can_post x.calls) e k) k) k) (slice_get l.clients i) e h

  notes-names : (next : Lists → Option Event)
      → ((l : Lists) (e : Event) → next l ≡ Some e → NamesAmong n e) → Names (NotesAll next)
  notes-names next each s x t i h =
      names-chain (NotesNext next) (λ s x t i h. names-goes s x t i h.goes (rw h.facts (each s.lists h.event h.is_next, tt)))
      s x t i h.steps

  pub noted-names : (next : Lists → Event) → ((l : Lists) → NamesAmong n (next l))
      → Names (NotesNext (λ l. Some (next l)))
  noted-names next each s x t i h =
      let same : next s.lists ≡ h.event = cc (h.is_next) in
      names-goes s x t i h.goes (rw h.facts
      (subst (λ (e : Event). NamesAmong n e) same (each s.lists), tt))

  serves-names : (i : ℕ) → Names (Serves i)
  serves-names i = names-then (NotesAll (next_begun i)) (NotesAll (next_posted i))
      (notes-names (next_begun i) (begun-names i)) (notes-names (next_posted i) (posted-names i))

  -- a packet goes to its session's peer
  client-out : (b : Bool) (o p : Outgoing) → o.peer < n → p.peer < n → (cond b o p).peer < n
  client-out true o p a c = a
  client-out false o p a c = c

  call-out : (way : Way) (r k : ℕ) (c : Option Call) (out : Outgoing)
      → call_packet way r k c ≡ Some out → way.peer < n → out.peer < n
  call-out way r k None out e less = cc
  call-out way r k (Some c) out e less =
      let same : client_packet way c.what r k ≡ out = cc in
      subst (λ (o : Outgoing). o.peer < n) same
      (client-out (nat_lt k (asked_packets c.what)) _ _ less less)

  asked-out : (r k : ℕ) (x : Client) (o : Option Client) (b : Bool) (out : Outgoing)
      → ask_packet r k (cond b (Some x) o) ≡ Some out → x.way.peer < n
      → (ask_packet r k o ≡ Some out → out.peer < n) → out.peer < n
  asked-out r k x o true out e less rest = call-out x.way r k (find (is_active r) x.calls) out e less
  asked-out r k x o false out e less rest = rest e

  ask-out : (s r k : ℕ) (xs : List Client) (out : Outgoing)
      → ask_packet r k (find (is_client s) xs) ≡ Some out
      → AllByRecursion (λ x. x.way.peer < n) xs → out.peer < n
  ask-out s r k [] out e all = cc
  ask-out s r k (x ∷ xs) out e all =
      asked-out r k x (find (is_client s) xs) (is_client s x) out e all.0
      (λ d. ask-out s r k xs out d all.1)

  answer-out : (way : Way) (q : Served) (k : ℕ) (b : Bool) (o : Outgoing)
      (f : List ℕ → Outgoing) (answer : Option (List ℕ)) (out : Outgoing)
      → cond b (Some o) (option_map f answer) ≡ Some out → o.peer < n
      → ((a : List ℕ) → (f a).peer < n) → out.peer < n
  answer-out way q k true o f answer out e less each =
      let same : o ≡ out = cc in subst (λ (z : Outgoing). z.peer < n) same less
  answer-out way q k false o f None out e less each = cc
  answer-out way q k false o f (Some a) out e less each =
      let same : f a ≡ out = cc in subst (λ (z : Outgoing). z.peer < n) same (each a)

  request-out : (way : Way) (k : ℕ) (q : Option Served) (out : Outgoing)
      → request_packet way k q ≡ Some out → way.peer < n → out.peer < n
  request-out way k None out e less = cc
  request-out way k (Some q) out e less =
      answer-out way q k (nat_lt (k + 1) (packet_count q.size)) _ _ q.answer out e less (λ a. less)

  replied-out : (r k : ℕ) (v : Server) (o : Option Server) (b : Bool) (out : Outgoing)
      → reply_packet r k (cond b (Some v) o) ≡ Some out → v.way.peer < n
      → (reply_packet r k o ≡ Some out → out.peer < n) → out.peer < n
  replied-out r k v o true out e less rest = request-out v.way k (find (is_request r) v.slots) out e less
  replied-out r k v o false out e less rest = rest e

  reply-out : (t r k : ℕ) (vs : List Server) (out : Outgoing)
      → reply_packet r k (find (is_server t) vs) ≡ Some out
      → AllByRecursion (λ v. v.way.peer < n) vs → out.peer < n
  reply-out t r k [] out e all = cc
  reply-out t r k (v ∷ vs) out e all =
      replied-out r k v (find (is_server t) vs) (is_server t v) out e all.0
      (λ d. reply-out t r k vs out d all.1)

  owner-out : (l : Lists) (o : Owner) (k : ℕ) (out : Outgoing) → owner_packet l o k ≡ Some out
      → PeersAmong n l → out.peer < n
  owner-out l (Ask s r) k out e i = ask-out s r k l.clients out e i.0
  owner-out l (Reply t r) k out e i = reply-out t r k l.servers out e i.1
  owner-out l Control k out e i = cc

  sends-names : Names Sends
  sends-names s x t i h =
      names-goes s x t i h.goes (rw h.facts
      (owner-out s.lists h.entry.owner h.entry.number h.out h.packet i, tt))

  closes-names : Names Closes
  closes-names s x t i h = names-goes s x t i h.goes (rw h.facts (tt, tt))

  pub poll-names : (mode : ℕ → Mode) (now : ℕ) → Names (Poll mode now)
  poll-names mode now s x t i h =
      let closing = names-then SendsSome Closes (names-chain Sends sends-names) closes-names in
      let posting = names-then PostsAll (Then SendsSome Closes)
      (λ s x t i h. names-visits Serves serves-names (length s.lists.clients) s x t i h)
      closing in
      let timing = names-then TimesAll (Then PostsAll (Then SendsSome Closes))
      (λ s x t i h. names-visits (TimesSession s.lists.timeout)
      (session-names s.lists.timeout) (length s.lists.clients) s x t i h) posting in
      let handling = names-then (HandlesAll mode) (Then TimesAll (Then PostsAll (Then SendsSome Closes)))
      (λ s x t i h. names-chain (Handles mode) (handles-names mode) s x t i h.steps) timing in
      let hearing = names-then HearsAll
      (Then (HandlesAll mode) (Then TimesAll (Then PostsAll (Then SendsSome Closes))))
      (λ s x t i h. names-chain Hears hears-names s x t i h.steps) handling in
      names-then FinishesSome
      (Then HearsAll (Then (HandlesAll mode) (Then TimesAll (Then PostsAll (Then SendsSome Closes)))))
      (names-chain FinishesOne finishes-names) hearing (raised now s) x t i h

  -- the calls
  ask-state-names : (state : SessionState) (session req_type room : ℕ) (ask : List ℕ) (l : Lists)
      → NamesAmong n (ask_by_state state session req_type room ask l).event
  ask-state-names Connected session req_type room ask l = tt
  ask-state-names _ session req_type room ask l = tt

  ask-names : (b : Bool) (session req_type room : ℕ) (ask : List ℕ) (l : Lists)
      (state : SessionState)
      → AllName n (cond b (plain l.me (NcallTooLarge session (length ask)))
      (ask_by_state state session req_type room ask l) ∷ [])
  ask-names true session req_type room ask l state = (tt, tt)
  ask-names false session req_type room ask l state =
      (ask-state-names state session req_type room ask l, tt)

  pub asks-names : (session req_type : ℕ) (ask : List ℕ) (room : ℕ)
      → Names (Asks session req_type ask room)
  asks-names session req_type ask room s x t i p =
      names-goes s x t i p.goes (rw p.facts (ask-names _ session req_type room ask s.lists
      (state_of (find (is_client session) s.lists.clients))))

  rate-names : (b : Bool) (me session rate : ℕ) (state : SessionState)
      → AllName n (plain me (cond b (Rated session rate) (Nrate session state)) ∷ [])
  rate-names true me session rate state = (tt, tt)
  rate-names false me session rate state = (tt, tt)

  pub rates-names : (session rate : ℕ) → Names (SetsRate session rate)
  rates-names session rate s x t i p =
      let state = state_of (find (is_client session) s.lists.clients) in
      names-goes s x t i p.goes (rw p.facts (rate-names (is_live state) s.lists.me session rate state))

  refusal-names : (a b : Bool) (k credits room : ℕ) (e : Event)
      → cond a (Some NconnectNumbers) (cond b (Some (NconnectRing k credits room)) None) ≡ Some e
      → NamesAmong n e
  refusal-names true b k credits room e h =
      let same : NconnectNumbers ≡ e = cc in subst (λ (d : Event). NamesAmong n d) same tt
  refusal-names false true k credits room e h =
      let same : NconnectRing k credits room ≡ e = cc in subst (λ (d : Event). NamesAmong n d) same tt
  refusal-names false false k credits room e h = cc

  rated-names : (b : Bool) (me session rate : ℕ)
      → AllName n (cond b [] (plain me (Rated session rate) ∷ []))
  rated-names true me session rate = tt
  rated-names false me session rate = (tt, tt)

  connect-names : (refusal : Option Event) (peer credits rate : ℕ) (l : Lists)
      → client_refusal credits l ≡ refusal → peer < n
      → AllName n (connect_by refusal peer credits rate l)
  connect-names (Some e) peer credits rate l is less =
      (refusal-names (clients_spent l) (has_no_room credits l) (shares l) credits l.room e is, tt)
  connect-names None peer credits rate l is less =
      (less, rated-names (rate == 0) l.me (length l.clients) rate)

  pub connects-names : (peer credits rate : ℕ) → peer < n → Names (Connects peer credits rate)
  connects-names peer credits rate less s x t i p =
      names-goes s x t i p.goes (rw p.facts
      (connect-names (client_refusal credits s.lists) peer credits rate s.lists refl less))

  disconnect-names : (a b : Bool) (me session calls : ℕ) (state : SessionState)
      → AllName n (plain me (cond a (NcloseState session state) (cond b (NcloseBusy session calls)
      (BeginsClosing session))) ∷ [])
  disconnect-names true b me session calls state = (tt, tt)
  disconnect-names false true me session calls state = (tt, tt)
  disconnect-names false false me session calls state = (tt, tt)

  pub disconnects-names : (session : ℕ) → Names (Disconnects session)
  disconnects-names session s x t i p =
      let client = find (is_client session) s.lists.clients in
      names-goes s x t i p.goes (rw p.facts
      (disconnect-names (not (is_connected (state_of client))) (not (pending client == 0)) s.lists.me
      session (pending client) (state_of client)))

  -- a delivery
  delivery-names : (me peer : ℕ) (bytes : List ℕ) (a b c d : Bool) → peer < n
      → AllName n (with_bytes me (cond a (cond b (Arrived peer) (Overflowed peer))
      (cond c (cond d (Arrived peer) (Overflowed peer)) (Bad peer))) bytes ∷ [])
  delivery-names me peer bytes true true c d less = (less, tt)
  delivery-names me peer bytes true false c d less = (tt, tt)
  delivery-names me peer bytes false b true true less = (less, tt)
  delivery-names me peer bytes false b true false less = (tt, tt)
  delivery-names me peer bytes false b false d less = (tt, tt)

  pub delivers-names : (peer : ℕ) (bytes : List ℕ) → peer < n → Names (Delivers peer bytes)
  delivers-names peer bytes less s x t i p =
      names-goes s x t i p.goes (rw p.facts (delivery-names s.lists.me peer bytes
      (is_message bytes) (nat_lt (length s.lists.ring) s.lists.room) (is_control bytes)
      (nat_lt (length s.lists.inbox) inbox_room) less))

  -- jobs are worked
  work-names : (i : ℕ) (o : Option Job) (me : ℕ) → AllName n (plain me (work_of i o) ∷ [])
  work-names i None me = (tt, tt)
  work-names i (Some job) me = (tt, tt)

  pub works-names : (worked : List WorkedJob) (i : ℕ) → Names (Works worked i)
  works-names worked i s x t z h =
      names-goes s x t z h.goes (rw h.facts
      (work-names i (slice_get (waiting_of worked s.lists) i) s.lists.me))

  pub all-worked-names : (worked : List WorkedJob) → Names (WorksAll worked)
  all-worked-names worked s x t z h =
      names-goes s x t z h.goes (rw h.facts
      (name-map (λ (job : Job). plain s.lists.me (Worked job.session job.request)) (λ job. tt)
      (waiting_of worked s.lists)))
