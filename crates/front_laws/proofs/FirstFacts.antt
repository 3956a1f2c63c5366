-- What the steps of a poll don't begin with: after its jobs none begins with a Ran.
use Rattle.std.proofs.Common.{◌≡◌, ℕ, zero, suc, Bool, true, false, List, [], ◌∷◌, ◌++◌, Option, Some, None, refl}
use Rattle.std.proofs.Common.{cond, subst, slice_get, length, ◌==◌}
use Rattle.std.specs.Prelude.{flat_map, map, option_and_then, option_map}
use Rattle.std.specs.List.{find}
use Rattle.packet_header.specs.declared.packet.ControlHeader.{ControlHeader}
use Rattle.packet_header.specs.declared.packet.Kind.{Kind}
use Rattle.packet_header.specs.declared.packet.Kind.TheVariants.{Request, Rfr, Cr, Response}
use Rattle.packet_header.specs.declared.packet.MessageHeader.{MessageHeader}
use Rattle.packet_header.specs.Reading.{body_of}
use Rattle.rpc_base.specs.declared.event.Event.{Event}
use Rattle.rpc_base.specs.declared.event.Event.TheVariants.{Begun, Ended, Flushed, Posted, Ran}
use Rattle.rpc_base.specs.declared.fact.Fact.{Fact}
use Rattle.rpc_base.specs.declared.owner.Owner.{Owner}
use Rattle.rpc_base.specs.declared.owner.Owner.TheVariants.{Ask, Reply}
use Rattle.rpc_base.specs.declared.state.SessionState.{SessionState}
use Rattle.rpc_base.specs.declared.state.SessionState.TheVariants.{Unknown, Connecting, Connected}
use Rattle.rpc_base.specs.declared.state.SessionState.TheVariants.{Closing, Closed, Failed, Broken, Spent}
use Rattle.rpc_laws.specs.declared.rows.ClientRow.{ClientRow}
use Rattle.rpc_laws.specs.declared.rows.ClientRow.TheVariants.{Drops as ClientDrops, Takes as ClientTakes}
use Rattle.rpc_laws.specs.declared.rows.ControlRow.{ControlRow}
use Rattle.rpc_laws.specs.declared.rows.ControlRow.TheVariants.{Ends}
use Rattle.rpc_laws.specs.declared.rows.RetryRow.{RetryRow}
use Rattle.rpc_laws.specs.declared.rows.RetryRow.TheVariants.{Rests, Asks, GivesUp}
use Rattle.rpc_laws.specs.declared.rows.ServerRow.{ServerRow}
use Rattle.rpc_laws.specs.declared.rows.ServerRow.TheVariants.{Drops, Begins, Takes, Repeats}
use Rattle.rpc_laws.specs.declared.rows.TimerRow.{TimerRow}
use Rattle.rpc_laws.specs.declared.rows.TimerRow.TheVariants.{Waits, RollsBack, Breaks}
use Rattle.rpc_laws.specs.declared.tables.Call.{Call}
use Rattle.rpc_laws.specs.declared.tables.Client.{Client}
use Rattle.rpc_laws.specs.declared.tables.Lists.{Lists}
use Rattle.rpc_laws.specs.declared.tables.Progress.{Progress}
use Rattle.rpc_laws.specs.declared.tables.Queued.{Queued}
use Rattle.rpc_laws.specs.declared.tables.Served.{Served}
use Rattle.rpc_laws.specs.declared.tables.Server.{Server}
use Rattle.rpc_laws.specs.declared.tables.Timed.{Timed}
use Rattle.rpc_laws.specs.Calls.{is_call, is_waiting}
use Rattle.rpc_laws.specs.ClientTable.{client_row, reply_facts}
use Rattle.rpc_laws.specs.ControlSteps.{AnswersControl, control_fact, EndsAllOutdated, EndsOutdated, given_up}
use Rattle.rpc_laws.specs.ControlSteps.{Hears, HearsAll, own_request, Retries, RetriesAs, RetriesBy, RetriesOf}
use Rattle.rpc_laws.specs.ControlSteps.{retry_row, Speaks, SpeaksIf, TakesControl, TimesAll, TimesSession}
use Rattle.rpc_laws.specs.ControlTable.{control_facts, control_row, named_end, outdated, session_end}
use Rattle.rpc_laws.specs.ControlTable.{session_flushes}
use Rattle.rpc_laws.specs.Facts.{plain}
use Rattle.rpc_laws.specs.GoBackN.{call_facts, client_facts, Each, flushes_of, numbers_in, progress_facts}
use Rattle.rpc_laws.specs.GoBackN.{row_facts, Watches, WatchesSession}
use Rattle.rpc_laws.specs.Jobs.{are_full}
use Rattle.rpc_laws.specs.PollOrder.{Closes, Handles, HandlesAll, handling_by, NoMoreToHandle, PostsAll}
use Rattle.rpc_laws.specs.PollOrder.{Sends, SendsSome, Serves}
use Rattle.rpc_laws.specs.Posting.{beginning, can_post, if_connected, lowest_free, next_begun, next_packet}
use Rattle.rpc_laws.specs.Posting.{next_posted, next_turn, posting}
use Rattle.rpc_laws.specs.Queues.{flush_facts, numbers_of}
use Rattle.rpc_laws.specs.Requests.{in_slot_of, is_server}
use Rattle.rpc_laws.specs.ServerTable.{flushes, flushes_older, served_facts, server_row}
use Rattle.rpc_laws.specs.Sessions.{is_client, is_connected}
use Rattle.rpc_laws.specs.Steps.{Chain, more, none, NotesAll, NotesNext, Rel, Then, Until, Visits}
use Rattle.rpc_outside.specs.declared.service.Mode.{Mode}

-- whether the first of some facts has such an event
abbrev pub begins_by : (Event → Bool) → List Fact → Bool
begins_by test [] = false
begins_by test (f ∷ x) = test f.event

abbrev pub is_ran : Event → Bool
is_ran (Ran session request req_type) = true
is_ran _ = false

-- no handler runs first
abbrev pub NoRun : List Fact → Type 0
NoRun x = begins_by is_ran x ≡ false

no-join : (x y : List Fact) → NoRun x → NoRun y → NoRun (x ++ y)
no-join [] y a b = b
no-join (f ∷ x) y a b = a

no-map : {A : Type 0} (me : ℕ) (e : A → Event) → ((a : A) → is_ran (e a) ≡ false) → (xs : List A)
    → NoRun (map (λ a. plain me (e a)) xs)
no-map me e p [] = refl
no-map me e p (x ∷ xs) = p x

no-flat : {A : Type 0} (f : A → List Fact) → ((a : A) → NoRun (f a)) → (xs : List A) → NoRun (flat_map f xs)
no-flat f p [] = refl
no-flat f p (x ∷ xs) = no-join (f x) (flat_map f xs) (p x) (no-flat f p xs)

no-flush : (me : ℕ) (queued : List Queued) (o : Owner) → NoRun (flush_facts me queued o)
no-flush me queued o = no-map me (λ k. Flushed o k) (λ k. refl) (numbers_of o queued)

-- the ring
older-first : (me : ℕ) (queued : List Queued) (t : ℕ) (o : Option Served) → NoRun (flushes me queued t o)
older-first me queued t None = refl
older-first me queued t (Some l) = no-flush me queued (Reply t l.number)

slot-first : (me : ℕ) (queued : List Queued) (v : Option Server) (r : ℕ) → NoRun (flushes_older me queued v r)
slot-first me queued None r = refl
slot-first me queued (Some v) r = older-first me queued v.way.number (find (in_slot_of r) v.slots)

served-first : (mode : Mode) (me : ℕ) (answer : List ℕ) (queued : List Queued) (v : Option Server)
    (h : MessageHeader) (body : List ℕ) (row : ServerRow)
    → NoRun (served_facts mode me answer queued v h body row)
served-first mode me answer queued v h body (Drops why) = refl
served-first mode me answer queued v h body Begins =
    no-join (flushes_older me queued v h.request) _ (slot-first me queued v h.request) refl
served-first mode me answer queued v h body Takes = refl
served-first mode me answer queued v h body Repeats = refl

reply-first : (me : ℕ) (x : Option Client) (h : MessageHeader) (body : List ℕ) (row : ClientRow)
    → NoRun (reply_facts me x h body row)
reply-first me x h body (ClientDrops why) = refl
reply-first me x h body ClientTakes = refl

handling-first : (mode : ℕ → Mode) (lacks : Bool) (answer : List ℕ) (kind : Kind) (s : Lists) (peer : ℕ)
    (h : MessageHeader) (body : List ℕ) → NoRun (handling_by mode lacks answer kind s peer h body)
handling-first mode lacks answer Request s peer h body =
    let v = find (is_server h.session) s.servers in
    served-first (mode h.req_type) s.me answer s.queued v h body
    (server_row (mode h.req_type) (are_full s.jobs) lacks v peer h)
handling-first mode lacks answer Rfr s peer h body =
    let v = find (is_server h.session) s.servers in
    served-first (mode h.req_type) s.me answer s.queued v h body
    (server_row (mode h.req_type) (are_full s.jobs) lacks v peer h)
handling-first mode lacks answer Cr s peer h body =
    let x = find (is_client h.session) s.clients in
    reply-first s.me x h body (client_row s.queued x peer h (length body))
handling-first mode lacks answer Response s peer h body =
    let x = find (is_client h.session) s.clients in
    reply-first s.me x h body (client_row s.queued x peer h (length body))

-- a packet for another life is dropped
handled-first : (b : Bool) (x y : List Fact) → NoRun x → NoRun y → NoRun (cond b x y)
handled-first true x y a c = a
handled-first false x y a c = c

-- a session's own request
said-first : (taken : Bool) (me peer : ℕ) (head : List ℕ) → is_ran (control_fact taken me peer head).event ≡ false
said-first true me peer head = refl
said-first false me peer head = refl

speaks-first : (me peer : ℕ) (h : ControlHeader) (x : List Fact) → Speaks me peer h x → NoRun x
speaks-first me peer h x s = rw s.facts (said-first s.taken me peer s.head)

given-first : (me : ℕ) (state : SessionState) (n : ℕ) → NoRun (map (plain me) (given_up state n))
given-first me Unknown n = refl
given-first me Connecting n = refl
given-first me Connected n = refl
given-first me Closing n = refl
given-first me Closed n = refl
given-first me Failed n = refl
given-first me Broken n = refl
given-first me Spent n = refl

retry-first : (row : RetryRow) (me : ℕ) (x : Client) (h : ControlHeader) (facts : List Fact)
    → RetriesBy row me x h facts → NoRun facts
retry-first Rests me x h facts r = rw r refl
retry-first Asks me x h facts r = speaks-first me x.way.peer h facts r
retry-first GivesUp me x h facts r = rw r (given-first me x.state x.way.number)

retries-as : (h : Option ControlHeader) (clock timeout me : ℕ) (x : Client) (facts : List Fact)
    → RetriesAs h clock timeout me x facts → NoRun facts
retries-as None clock timeout me x facts r = rw r refl
retries-as (Some h) clock timeout me x facts r =
    retry-first (retry_row clock timeout x.sends x.sent_at) me x h facts r

retries-of : (clock timeout me own : ℕ) (x : Option Client) (facts : List Fact)
    → RetriesOf clock timeout me own x facts → NoRun facts
retries-of clock timeout me own None facts r = rw r refl
retries-of clock timeout me own (Some x) facts r = retries-as (own_request own x) clock timeout me x facts r

-- timers
of-first : (me session : ℕ) (queued : List Queued) (p : Option Progress) → NoRun (flushes_of me session queued p)
of-first me session queued None = refl
of-first me session queued (Some p) = no-flush me queued _

row-first : (me : ℕ) (queued : List Queued) (x : Client) (n : ℕ) (p : Progress) (row : TimerRow)
    → NoRun (row_facts me queued x n p row)
row-first me queued x n p Waits = refl
row-first me queued x n p RollsBack = no-join _ _ (no-flush me queued _) refl
row-first me queued x n p Breaks =
    no-join _ _ (no-flat _ (λ (c : Call). of-first me x.way.number queued c.progress) x.calls) refl

timer-first : (clock timeout me : ℕ) (queued : List Queued) (x : Client) (n : ℕ) (p : Option Progress)
    → NoRun (progress_facts clock timeout me queued x n p)
timer-first clock timeout me queued x n None = refl
timer-first clock timeout me queued x n (Some p) = row-first me queued x n p _

watched-first : (clock timeout me : ℕ) (queued : List Queued) (x : Client) (c : Option Call)
    → NoRun (call_facts clock timeout me queued x c)
watched-first clock timeout me queued x None = refl
watched-first clock timeout me queued x (Some c) =
    timer-first clock timeout me queued x c.what.number c.progress

client-first : (clock timeout me : ℕ) (queued : List Queued) (n : ℕ) (x : Option Client)
    → NoRun (client_facts clock timeout me queued n x)
client-first clock timeout me queued n None = refl
client-first clock timeout me queued n (Some x) =
    watched-first clock timeout me queued x (find (is_call n) x.calls)

-- a step that never begins with a Ran
abbrev pub RunsLater : Rel → Type 0
RunsLater P = (s : Timed) (x : List Fact) (t : Timed) → P s x t → NoRun x

pub then-later : (P Q : Rel) → RunsLater P → RunsLater Q → RunsLater (Then P Q)
then-later P Q p q s x t h =
    rw h.joined (no-join h.front h.back (p s h.front h.between h.first) (q h.between h.back t h.second))

chain-later : (P : Rel) → RunsLater P → (s : Timed) {x : List Fact} {t : Timed} → Chain P s x t → NoRun x
chain-later P p s none = refl
chain-later P p s (more {x} {t} c y u q) = no-join x y (chain-later P p s c) (p t y u q)

until-later : (P : Rel) (Over : Timed → Type 0) → RunsLater P → RunsLater (Until P Over)
until-later P Over p s x t h = chain-later P p s h.steps

visits-later : (P : ℕ → Rel) → ((i : ℕ) → RunsLater (P i)) → (k : ℕ) → RunsLater (Visits P k)
visits-later P p zero s x t h = rw h.0 refl
visits-later P p (suc k) s x t h = then-later (Visits P k) (P k) (visits-later P p k) (p k) s x t h

each-later : (P : ℕ → Rel) → ((i : ℕ) → RunsLater (P i)) → (is : List ℕ) → RunsLater (Each P is)
each-later P p [] s x t h = rw h.0 refl
each-later P p (i ∷ is) s x t h = then-later (P i) (Each P is) (p i) (each-later P p is) s x t h

takes-later : RunsLater TakesControl
takes-later s x t h = rw h.facts refl

over-later : (me : ℕ) (queued : List Queued) (v : Server) → NoRun (session_end me queued (Some v))
over-later me queued v =
    no-join (session_flushes me queued v) (plain me (Ended v.way.number) ∷ [])
    (no-flat (λ slot. flushes me queued v.way.number (find (in_slot_of slot) v.slots))
    (λ slot. older-first me queued v.way.number (find (in_slot_of slot) v.slots))
    (0 ∷ 1 ∷ 2 ∷ 3 ∷ 4 ∷ 5 ∷ 6 ∷ 7 ∷ [])) refl

ends-later : (peer : ℕ) (h : ControlHeader) → RunsLater (EndsOutdated peer h)
ends-later peer h s x t a = rw a.facts (over-later s.lists.me s.lists.queued a.server)

control-first : (s : Lists) (peer : ℕ) (h : ControlHeader) (row : ControlRow) → NoRun (control_facts s peer h row)
control-first s peer h Ends = named-first (named_end peer h.client h.from_life h.server s.servers)
  where
    named-first : (v : Option Server) → NoRun (session_end s.me s.queued v)
    named-first None = refl
    named-first (Some v) = over-later s.me s.queued v
control-first s peer h _ = refl

answer-first : (me peer : ℕ) (h : Option ControlHeader) (x : List Fact) → SpeaksIf me peer h x → NoRun x
answer-first me peer None x a = rw a refl
answer-first me peer (Some h) x a = speaks-first me peer h x a

answers-later : (peer : ℕ) (h : ControlHeader) → RunsLater (AnswersControl peer h)
answers-later peer h s x t a =
    rw a.facts (no-join (control_facts s.lists peer h (control_row a.lacks peer h s.lists)) a.said
    (control-first s.lists peer h (control_row a.lacks peer h s.lists))
    (answer-first s.lists.me peer _ a.said a.speaks))

hears-one : RunsLater Hears
hears-one s x t h =
    let peer = h.front.peer in
    then-later TakesControl (Then (EndsAllOutdated peer h.header) (AnswersControl peer h.header)) takes-later
    (then-later (EndsAllOutdated peer h.header) (AnswersControl peer h.header)
    (until-later (EndsOutdated peer h.header) (λ t. outdated peer h.header t.lists ≡ None)
    (ends-later peer h.header)) (answers-later peer h.header)) s x t h.steps

pub hears-later : RunsLater HearsAll
hears-later = until-later Hears (λ t. t.lists.inbox ≡ []) hears-one

pub handles-later : (mode : ℕ → Mode) → RunsLater (HandlesAll mode)
handles-later mode =
    until-later (Handles mode) NoMoreToHandle
    (λ s x t h. rw h.facts (handled-first (h.header.to_life == s.lists.life) _ _
    (handling-first mode h.lacks h.answer h.header.kind s.lists h.front.peer h.header (body_of h.front.bytes)) refl))

retries-later : (timeout i : ℕ) → RunsLater (Retries timeout i)
retries-later timeout i s x t h =
    retries-of s.clock timeout s.lists.me s.lists.life (slice_get s.lists.clients i) x h.facts

watches-later : (timeout i number : ℕ) → RunsLater (Watches timeout i number)
watches-later timeout i number s x t h =
    rw h.facts (client-first s.clock timeout s.lists.me s.lists.queued number (slice_get s.lists.clients i))

session-later : (timeout i : ℕ) → RunsLater (WatchesSession timeout i)
session-later timeout i s x t h =
    each-later (Watches timeout i) (watches-later timeout i) (numbers_in (slice_get s.lists.clients i)) s x t h

pub times-later : RunsLater TimesAll
times-later s x t h =
    visits-later (TimesSession s.lists.timeout)
    (λ i. then-later (Retries s.lists.timeout i) (WatchesSession s.lists.timeout i)
    (retries-later s.lists.timeout i) (session-later s.lists.timeout i))
    (length s.lists.clients) s x t h

-- what begins or is posted next is no Ran
from-some : {A : Type 0} (f : A → Event) → ((a : A) → is_ran (f a) ≡ false) → (o : Option A) (e : Event)
    → option_map f o ≡ Some e → is_ran e ≡ false
from-some f p None e h = cc
from-some f p (Some a) e h =
    let same : f a ≡ e = cc in subst (λ (z : Event). is_ran z ≡ false) same (p a)

from-then : {A : Type 0} (f : A → Option Event) → ((a : A) (e : Event) → f a ≡ Some e → is_ran e ≡ false)
    → (o : Option A) (e : Event) → option_and_then f o ≡ Some e → is_ran e ≡ false
from-then f p None e h = cc
from-then f p (Some a) e h = p a e h

from-if : (b : Bool) (o : Option Event) (e : Event) → ((e : Event) → o ≡ Some e → is_ran e ≡ false)
    → cond b o None ≡ Some e → is_ran e ≡ false
from-if true o e p h = p e h
from-if false o e p h = cc

from-unless : (b : Bool) (o : Option Event) (e : Event) → ((e : Event) → o ≡ Some e → is_ran e ≡ false)
    → cond b None o ≡ Some e → is_ran e ≡ false
from-unless true o e p h = cc
from-unless false o e p h = p e h

beginning-first : (x : Client) (e : Event) → beginning x ≡ Some e → is_ran e ≡ false
beginning-first x e h =
    from-then (λ c. option_map (λ slot. Begun c.what.number (next_turn x.turns slot)) (lowest_free x.calls))
    (λ c e h. from-some (λ slot. Begun c.what.number (next_turn x.turns slot)) (λ slot. refl)
    (lowest_free x.calls) e h) (find is_waiting x.calls) e h

begun-first : (i : ℕ) (s : Lists) (e : Event) → next_begun i s ≡ Some e → is_ran e ≡ false
begun-first i s e h =
    from-then (if_connected beginning)
    (λ x e h. from-if (is_connected x.state) (beginning x) e (beginning-first x) h)
    (slice_get s.clients i) e h

posting-first : (x : Client) (e : Event) → posting x ≡ Some e → is_ran e ≡ false
posting-first x e h =
    from-unless (x.free == 0) (option_and_then (λ c. next_packet x.way.number c.progress) (find can_post x.calls))
    e (λ e h. from-then (λ c. next_packet x.way.number c.progress)
    (λ c e h. from-some (λ p. Posted (Ask x.way.number p.request) p.posted) (λ p. refl) c.progress e h)
    (find can_post x.calls) e h) h

posted-first : (i : ℕ) (s : Lists) (e : Event) → next_posted i s ≡ Some e → is_ran e ≡ false
posted-first i s e h =
    from-then (if_connected posting)
    (λ x e h. from-if (is_connected x.state) (posting x) e (posting-first x) h)
    (slice_get s.clients i) e h

notes-later : (next : Lists → Option Event) → ((s : Lists) (e : Event) → next s ≡ Some e → is_ran e ≡ false)
    → RunsLater (NotesAll next)
notes-later next p =
    until-later (NotesNext next) (λ t. next t.lists ≡ None)
    (λ s x t h. rw h.facts (p s.lists h.event h.is_next))

pub posts-later : RunsLater PostsAll
posts-later s x t h =
    visits-later Serves
    (λ i. then-later _ _ (notes-later (next_begun i) (begun-first i)) (notes-later (next_posted i) (posted-first i)))
    (length s.lists.clients) s x t h

pub sends-later : RunsLater SendsSome
sends-later s x t h = chain-later Sends (λ s x t h. rw h.facts refl) s h

pub closes-later : RunsLater Closes
closes-later s x t h = rw h.facts refl
