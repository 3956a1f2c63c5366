-- The facts of each row have no other bytes than those that their lines show, and are of a node.
use Rattle.std.proofs.Common.{◌≡◌, ℕ, Bool, true, false, cond, List, [], ◌∷◌, ◌++◌, length, map}
use Rattle.std.proofs.Common.{Option, Some, None, refl, nat_lt}
use Rattle.std.specs.Prelude.{◌==◌, flat_map}
use Rattle.std.specs.List.{AllByRecursion, find}
use Rattle.one_history.specs.NetFacts.{is_of_net}
use Rattle.packet_header.specs.declared.packet.ControlHeader.{ControlHeader}
use Rattle.packet_header.specs.declared.packet.Kind.{Kind}
use Rattle.packet_header.specs.declared.packet.Kind.TheVariants.{Request, Rfr, Cr, Response}
use Rattle.packet_header.specs.declared.packet.MessageHeader.{MessageHeader}
use Rattle.report_text.specs.Shape.{tail_of}
use Rattle.report_text.specs.Told.{IsTold, NoOthers}
use Rattle.report_text.specs.declared.shape.Tail.{Tail}
use Rattle.report_text.specs.declared.shape.Tail.TheVariants.{Nothing, First, Both}
use Rattle.rpc_base.specs.declared.event.Event.{Event}
use Rattle.rpc_base.specs.declared.event.Event.TheVariants.{Arrived, Bad, Broken, DonePeerLost, Dropped}
use Rattle.rpc_base.specs.declared.event.Event.TheVariants.{Ended, Flushed, Given, NcallTooLarge}
use Rattle.rpc_base.specs.declared.event.Event.TheVariants.{Overflowed, Posted, Ran, Rated, Rolled}
use Rattle.rpc_base.specs.declared.event.Event.TheVariants.{Took, Worked}
use Rattle.rpc_base.specs.declared.fact.Fact.{Fact}
use Rattle.rpc_base.specs.declared.fact.Who.{Who}
use Rattle.rpc_base.specs.declared.fact.Who.TheVariants.{Node, Net}
use Rattle.rpc_base.specs.declared.owner.Owner.{Owner}
use Rattle.rpc_base.specs.declared.owner.Owner.TheVariants.{Ask, Reply}
use Rattle.rpc_base.specs.declared.state.DropReason.TheVariants.{StaleLife}
use Rattle.rpc_base.specs.declared.state.SessionState.{SessionState}
use Rattle.rpc_base.specs.declared.state.SessionState.TheVariants.{Connected}
use Rattle.rpc_laws.specs.declared.rows.ClientRow.{ClientRow}
use Rattle.rpc_laws.specs.declared.rows.ClientRow.TheVariants.{Drops as ClientDrops, Takes as ClientTakes}
use Rattle.rpc_laws.specs.declared.rows.ControlRow.{ControlRow}
use Rattle.rpc_laws.specs.declared.rows.ControlRow.TheVariants.{Accepts, Closes, Connects, Declines}
use Rattle.rpc_laws.specs.declared.rows.ControlRow.TheVariants.{Ends, Fails, Starves}
use Rattle.rpc_laws.specs.declared.rows.EndRow.{EndRow}
use Rattle.rpc_laws.specs.declared.rows.EndRow.TheVariants.{EndsOk, EndsTooSmall, GoesOn}
use Rattle.rpc_laws.specs.declared.rows.ServerRow.{ServerRow}
use Rattle.rpc_laws.specs.declared.rows.ServerRow.TheVariants.{Begins, Drops, Repeats, Takes}
use Rattle.rpc_laws.specs.declared.rows.TimerRow.{TimerRow}
use Rattle.rpc_laws.specs.declared.rows.TimerRow.TheVariants.{Breaks, RollsBack, Waits}
use Rattle.rpc_laws.specs.declared.tables.Call.{Call}
use Rattle.rpc_laws.specs.declared.tables.Client.{Client}
use Rattle.rpc_laws.specs.declared.tables.Job.{Job}
use Rattle.rpc_laws.specs.declared.tables.Lists.{Lists}
use Rattle.rpc_laws.specs.declared.tables.Progress.{Progress}
use Rattle.rpc_laws.specs.declared.tables.Queued.{Queued}
use Rattle.rpc_laws.specs.declared.tables.Served.{Served}
use Rattle.rpc_laws.specs.declared.tables.Server.{Server}
use Rattle.rpc_laws.specs.Calls.{is_active, is_call}
use Rattle.rpc_laws.specs.ClientTable.{call_ending, client_ending, client_row, end_facts}
use Rattle.rpc_laws.specs.ClientTable.{progress_ending, reply_facts}
use Rattle.rpc_laws.specs.ControlTable.{control_facts, named_end, session_end}
use Rattle.rpc_laws.specs.Deliveries.{arrival, delivery, inbox_room}
use Rattle.rpc_laws.specs.Facts.{of_net, plain, with_bytes, with_two}
use Rattle.rpc_laws.specs.Front.{is_control, is_message}
use Rattle.rpc_laws.specs.GoBackN.{call_facts, client_facts, flushes_of, progress_facts, row_facts, row_of}
use Rattle.rpc_laws.specs.Groups.{ask_by_state, ask_fact, connect_by, state_of}
use Rattle.rpc_laws.specs.Jobs.{are_full}
use Rattle.rpc_laws.specs.PollOrder.{answer_posted, awaited, finished_facts, handled, handling_by}
use Rattle.rpc_laws.specs.Queues.{flush_facts, numbers_of}
use Rattle.rpc_laws.specs.Requests.{in_slot_of, is_server}
use Rattle.rpc_laws.specs.ServerTable.{brings, flushes, flushes_older, is_last, makes_job}
use Rattle.rpc_laws.specs.ServerTable.{served_facts, server_row, took_facts}
use Rattle.rpc_laws.specs.Sessions.{is_client}
use Rattle.rpc_outside.specs.declared.service.Mode.{Mode}

no-others : (tail : Tail) → NoOthers tail [] []
no-others Nothing = (refl, refl)
no-others First = refl
no-others Both = tt

-- the network notes no event but its own
abbrev pub NotesOwn : Who → Event → Type 0
NotesOwn (Node n) e = Unit {0}
NotesOwn Net e = is_of_net e ≡ true

-- a fact has no other bytes than its line shows, and one of the network has an event of the network
abbrev pub IsSound : Fact → Type 0
IsSound f = IsTold f × NotesOwn f.who f.event

abbrev pub AllSound : List Fact → Type 0
AllSound facts = AllByRecursion IsSound facts

-- a fact without bytes
pub told-plain : (me : ℕ) (e : Event) → IsSound (plain me e)
told-plain me e = (no-others (tail_of e), tt)

pub told-net : (e : Event) → is_of_net e ≡ true → IsSound (of_net e)
told-net e own = (no-others (tail_of e), own)

pub one-plain : (me : ℕ) (e : Event) → AllSound (plain me e ∷ [])
one-plain me e = (told-plain me e, tt)

pub told-append : (x y : List Fact) → AllSound x → AllSound y → AllSound (x ++ y)
told-append [] y a b = b
told-append (f ∷ x) y a b = (a.0, told-append x y a.1 b)

pub told-map : {A : Type 0} (f : A → Fact) → ((a : A) → IsSound (f a)) → (xs : List A)
    → AllSound (map f xs)
told-map f each [] = tt
told-map f each (a ∷ xs) = (each a, told-map f each xs)

told-flat : {A : Type 0} (f : A → List Fact) → ((a : A) → AllSound (f a)) → (xs : List A)
    → AllSound (flat_map f xs)
told-flat f each [] = tt
told-flat f each (a ∷ xs) = told-append (f a) (flat_map f xs) (each a) (told-flat f each xs)

told-if : (b : Bool) (x y : List Fact) → AllSound x → AllSound y → AllSound (cond b x y)
told-if true x y a c = a
told-if false x y a c = c

told-one-if : (b : Bool) (f g : Fact) → IsSound f → IsSound g → IsSound (cond b f g)
told-one-if true f g a c = a
told-one-if false f g a c = c

told-flush : (me : ℕ) (queued : List Queued) (owner : Owner)
    → AllSound (flush_facts me queued owner)
told-flush me queued owner =
    told-map (λ k. plain me (Flushed owner k)) (λ k. told-plain me (Flushed owner k)) (numbers_of owner queued)

told-flushes : (me : ℕ) (queued : List Queued) (session : ℕ) (l : Option Served)
    → AllSound (flushes me queued session l)
told-flushes me queued session None = tt
told-flushes me queued session (Some l) = told-flush me queued (Reply session l.number)

told-older : (me : ℕ) (queued : List Queued) (v : Option Server) (r : ℕ)
    → AllSound (flushes_older me queued v r)
told-older me queued None r = tt
told-older me queued (Some v) r = told-flushes me queued v.way.number (find (in_slot_of r) v.slots)

-- the server rule
told-brings : (mode : Mode) (me : ℕ) (answer : List ℕ) (h : MessageHeader) (ask : List ℕ)
    → AllSound (brings mode me answer h ask)
told-brings mode me answer h ask =
    let posted = plain me (Posted (Reply h.session h.request) h.number) ∷ [] in
    let ran : List Fact = cond (is_last h) (with_two me (Ran h.session h.request h.req_type) ask answer ∷ []) [] in
    told-if (makes_job mode h) (plain me (Given h.session h.request) ∷ []) (ran ++ posted)
    (one-plain me (Given h.session h.request))
    (told-append ran posted (told-if (is_last h)
    (with_two me (Ran h.session h.request h.req_type) ask answer ∷ []) [] ((tt, tt), tt) tt)
    (one-plain me (Posted (Reply h.session h.request) h.number)))

told-took : (mode : Mode) (me : ℕ) (answer : List ℕ) (h : MessageHeader) (ask : List ℕ)
    → AllSound (took_facts mode me answer h ask)
told-took mode me answer h ask =
    (told-plain me (Took (Reply h.session h.request) h.number), told-brings mode me answer h ask)

told-served : (mode : Mode) (me : ℕ) (answer : List ℕ) (queued : List Queued) (v : Option Server)
    (h : MessageHeader) (body : List ℕ) (r : ServerRow)
    → AllSound (served_facts mode me answer queued v h body r)
told-served mode me answer queued v h body (Drops why) = (((refl, refl), tt), tt)
told-served mode me answer queued v h body Begins =
    told-append (flushes_older me queued v h.request) (took_facts mode me answer h body)
    (told-older me queued v h.request) (told-took mode me answer h body)
told-served mode me answer queued v h body Takes = told-took mode me answer h _
told-served mode me answer queued v h body Repeats = (((refl, refl), tt), (((refl, refl), tt), tt))

-- the client rule
told-end : (me number : ℕ) (parts : List ℕ) (r : EndRow) → AllSound (end_facts me number parts r)
told-end me number parts GoesOn = tt
told-end me number parts EndsOk = ((refl, tt), tt)
told-end me number parts (EndsTooSmall size) = (((refl, refl), tt), tt)

told-progress : (me : ℕ) (c : Call) (h : MessageHeader) (body : List ℕ) (o : Option Progress)
    → AllSound (progress_ending me c.what h body o)
told-progress me c h body None = tt
told-progress me c h body (Some p) = told-end me c.what.number _ _

told-call : (me : ℕ) (h : MessageHeader) (body : List ℕ) (o : Option Call)
    → AllSound (call_ending me h body o)
told-call me h body None = tt
told-call me h body (Some c) = told-progress me c h body c.progress

told-ending : (me : ℕ) (h : MessageHeader) (body : List ℕ) (o : Option Client)
    → AllSound (client_ending me h body o)
told-ending me h body None = tt
told-ending me h body (Some x) = told-call me h body (find (is_active h.request) x.calls)

told-reply : (me : ℕ) (x : Option Client) (h : MessageHeader) (body : List ℕ) (r : ClientRow)
    → AllSound (reply_facts me x h body r)
told-reply me x h body (ClientDrops why) = (((refl, refl), tt), tt)
told-reply me x h body ClientTakes = (((refl, refl), tt), told-ending me h body x)

-- the front packet of the ring, by its kind
told-handling : (kind : Kind) (mode : ℕ → Mode) (lacks : Bool) (answer : List ℕ) (s : Lists)
    (peer : ℕ) (h : MessageHeader) (body : List ℕ)
    → AllSound (handling_by mode lacks answer kind s peer h body)
told-handling Request mode lacks answer s peer h body =
    told-served (mode h.req_type) s.me answer s.queued (find (is_server h.session) s.servers) h body
    (server_row (mode h.req_type) (are_full s.jobs) lacks (find (is_server h.session) s.servers)
    peer h)
told-handling Rfr mode lacks answer s peer h body =
    told-served (mode h.req_type) s.me answer s.queued (find (is_server h.session) s.servers) h body
    (server_row (mode h.req_type) (are_full s.jobs) lacks (find (is_server h.session) s.servers)
    peer h)
told-handling Cr mode lacks answer s peer h body =
    told-reply s.me (find (is_client h.session) s.clients) h body
    (client_row s.queued (find (is_client h.session) s.clients) peer h (length body))
told-handling Response mode lacks answer s peer h body =
    told-reply s.me (find (is_client h.session) s.clients) h body
    (client_row s.queued (find (is_client h.session) s.clients) peer h (length body))

-- and where it is for another life of the node
pub told-handled : (mode : ℕ → Mode) (lacks : Bool) (answer : List ℕ) (s : Lists) (peer : ℕ)
    (h : MessageHeader) (body : List ℕ) → AllSound (handled mode lacks answer s peer h body)
told-handled mode lacks answer s peer h body =
    told-if (h.to_life == s.life) (handling_by mode lacks answer h.kind s peer h body)
    (plain s.me (Dropped StaleLife) ∷ []) (told-handling h.kind mode lacks answer s peer h body)
    (one-plain s.me (Dropped StaleLife))

-- a job that is finished
told-posted : (me : ℕ) (job : Job) (o : Option ℕ) → AllSound (answer_posted me job o)
told-posted me job None = tt
told-posted me job (Some k) = (((refl, refl), tt), tt)

pub told-finished : (answer : List ℕ) (s : Lists) (job : Job)
    → AllSound (finished_facts answer s job)
told-finished answer s job = ((tt, tt), told-posted s.me job (awaited job s.servers))

-- the control rule
pub told-session-end : (me : ℕ) (queued : List Queued) (o : Option Server)
    → AllSound (session_end me queued o)
told-session-end me queued None = tt
told-session-end me queued (Some v) =
    told-append (flat_map (λ slot. flushes me queued v.way.number (find (in_slot_of slot) v.slots))
    (0 ∷ 1 ∷ 2 ∷ 3 ∷ 4 ∷ 5 ∷ 6 ∷ 7 ∷ [])) (plain me (Ended v.way.number) ∷ [])
    (told-flat (λ slot. flushes me queued v.way.number (find (in_slot_of slot) v.slots))
    (λ slot. told-flushes me queued v.way.number (find (in_slot_of slot) v.slots))
    (0 ∷ 1 ∷ 2 ∷ 3 ∷ 4 ∷ 5 ∷ 6 ∷ 7 ∷ []))
    (one-plain me (Ended v.way.number))

pub told-control : (s : Lists) (peer : ℕ) (h : ControlHeader) (r : ControlRow)
    → AllSound (control_facts s peer h r)
told-control s peer h Declines = (((refl, refl), tt), tt)
told-control s peer h Starves = (((refl, refl), tt), tt)
told-control s peer h (Accepts t) = (((refl, refl), tt), tt)
told-control s peer h Ends =
    told-session-end s.me s.queued (named_end peer h.client h.from_life h.server s.servers)
told-control s peer h (Connects t) = (((refl, refl), tt), tt)
told-control s peer h Fails = (((refl, refl), tt), tt)
told-control s peer h Closes = (((refl, refl), tt), tt)
told-control s peer h _ = tt

-- the timer rule
told-flushes-of : (me session : ℕ) (queued : List Queued) (o : Option Progress)
    → AllSound (flushes_of me session queued o)
told-flushes-of me session queued None = tt
told-flushes-of me session queued (Some p) = told-flush me queued (Ask session p.request)

told-row : (me : ℕ) (queued : List Queued) (x : Client) (number : ℕ) (p : Progress) (r : TimerRow)
    → AllSound (row_facts me queued x number p r)
told-row me queued x number p Waits = tt
told-row me queued x number p RollsBack =
    told-append (flush_facts me queued (Ask x.way.number p.request))
    (plain me (Rolled number p.posted p.got) ∷ [])
    (told-flush me queued (Ask x.way.number p.request))
    (one-plain me (Rolled number p.posted p.got))
told-row me queued x number p Breaks =
    told-append (flat_map (λ c. flushes_of me x.way.number queued c.progress) x.calls)
    (plain me (Broken x.way.number) ∷ map (λ c. plain me (DonePeerLost c.what.number)) x.calls)
    (told-flat (λ c. flushes_of me x.way.number queued c.progress)
    (λ c. told-flushes-of me x.way.number queued c.progress) x.calls) (
      told-plain me (Broken x.way.number),
      told-map (λ c. plain me (DonePeerLost c.what.number))
          (λ c. told-plain me (DonePeerLost c.what.number)) x.calls,
    )

told-progress-facts : (clock timeout me : ℕ) (queued : List Queued) (x : Client) (number : ℕ)
    (o : Option Progress) → AllSound (progress_facts clock timeout me queued x number o)
told-progress-facts clock timeout me queued x number None = tt
told-progress-facts clock timeout me queued x number (Some p) =
    told-row me queued x number p (row_of clock timeout x.way.number queued p)

told-call-facts : (clock timeout me : ℕ) (queued : List Queued) (x : Client) (o : Option Call)
    → AllSound (call_facts clock timeout me queued x o)
told-call-facts clock timeout me queued x None = tt
told-call-facts clock timeout me queued x (Some c) =
    told-progress-facts clock timeout me queued x c.what.number c.progress

pub told-client : (clock timeout me : ℕ) (queued : List Queued) (number : ℕ) (o : Option Client)
    → AllSound (client_facts clock timeout me queued number o)
told-client clock timeout me queued number None = tt
told-client clock timeout me queued number (Some x) =
    told-call-facts clock timeout me queued x (find (is_call number) x.calls)

-- application calls
told-ask-by : (state : SessionState) (session req_type room : ℕ) (ask : List ℕ) (s : Lists)
    → IsSound (ask_by_state state session req_type room ask s)
told-ask-by Connected session req_type room ask s = (refl, tt)
told-ask-by _ session req_type room ask s = ((refl, refl), tt)

pub told-ask : (session req_type room : ℕ) (ask : List ℕ) (s : Lists)
    → IsSound (ask_fact session req_type room ask s)
told-ask session req_type room ask s =
    told-one-if (nat_lt 1048576 (length ask)) (plain s.me (NcallTooLarge session (length ask)))
    (ask_by_state (state_of (find (is_client session) s.clients)) session req_type room ask s)
    ((refl, refl), tt) (told-ask-by (state_of (find (is_client session) s.clients)) session req_type
    room ask s)

pub told-connect : (o : Option Event) (peer credits rate : ℕ) (s : Lists)
    → AllSound (connect_by o peer credits rate s)
told-connect (Some refusal) peer credits rate s = one-plain s.me refusal
told-connect None peer credits rate s = (
  ((refl, refl), tt),
  told-if (rate == 0) [] (plain s.me (Rated (length s.clients) rate) ∷ []) tt
      (one-plain s.me (Rated (length s.clients) rate)),
)

-- a delivery
told-event-if : (b : Bool) (me : ℕ) (bytes : List ℕ) (d e : Event) → IsSound (with_bytes me d bytes)
    → IsSound (with_bytes me e bytes) → IsSound (with_bytes me (cond b d e) bytes)
told-event-if true me bytes d e h k = h
told-event-if false me bytes d e h k = k

told-arrival : (count room me peer : ℕ) (bytes : List ℕ)
    → IsSound (with_bytes me (arrival count room peer) bytes)
told-arrival count room me peer bytes =
    told-event-if (nat_lt count room) me bytes (Arrived peer) (Overflowed peer) (refl, tt)
    (refl, tt)

pub told-delivery : (s : Lists) (peer : ℕ) (bytes : List ℕ)
    → IsSound (with_bytes s.me (delivery s peer bytes) bytes)
told-delivery s peer bytes =
    told-event-if (is_message bytes) s.me bytes (arrival (length s.ring) s.room peer)
    (cond (is_control bytes) (arrival (length s.inbox) inbox_room peer) (Bad peer))
    (told-arrival (length s.ring) s.room s.me peer bytes)
    (told-event-if (is_control bytes) s.me bytes (arrival (length s.inbox) inbox_room peer)
    (Bad peer) (told-arrival (length s.inbox) inbox_room s.me peer bytes) (refl, tt))

-- jobs that are worked
pub told-works : (me : ℕ) (jobs : List Job)
    → AllSound (map (λ job. plain me (Worked job.session job.request)) jobs)
told-works me jobs =
    told-map (λ job. plain me (Worked job.session job.request))
    (λ job. told-plain me (Worked job.session job.request)) jobs
