-- The facts of a poll: events that only a poll makes, of its node, and then its Polled.
use Rattle.std.proofs.Common.{◌≡◌, ℕ, zero, suc, Bool, true, false, cond, List, [], ◌∷◌, ◌++◌}
use Rattle.std.proofs.Common.{Option, Some, None, refl, sym, ap, ◌∙◌, subst, slice_get}
use Rattle.std.specs.Prelude.{flat_map, map, option_and_then, option_map}
use Rattle.std.specs.List.{AllByRecursion, find}
use Rattle.packet_header.specs.declared.packet.ControlHeader.{ControlHeader}
use Rattle.packet_header.specs.declared.packet.Kind.{Kind}
use Rattle.packet_header.specs.declared.packet.Kind.TheVariants.{Request, Rfr, Cr, Response}
use Rattle.packet_header.specs.declared.packet.MessageHeader.{MessageHeader}
use Rattle.packet_header.specs.Reading.{body_of}
use Rattle.rpc_base.specs.declared.event.Event.{Event}
use Rattle.rpc_base.specs.declared.event.Event.TheVariants.{Begun, Posted, Flushed, Polled, Ended}
use Rattle.rpc_base.specs.declared.fact.Fact.{Fact}
use Rattle.rpc_base.specs.declared.fact.Who.TheVariants.{Node}
use Rattle.rpc_base.specs.declared.owner.Owner.{Owner}
use Rattle.rpc_base.specs.declared.owner.Owner.TheVariants.{Reply}
use Rattle.rpc_base.specs.declared.state.SessionState.{SessionState}
use Rattle.rpc_base.specs.declared.state.SessionState.TheVariants.{Unknown, Connecting, Connected}
use Rattle.rpc_base.specs.declared.state.SessionState.TheVariants.{Closing, Closed, Failed, Broken as IsBroken}
use Rattle.rpc_base.specs.declared.state.SessionState.TheVariants.{Spent}
use Rattle.rpc_laws.specs.declared.rows.ControlRow.{ControlRow}
use Rattle.rpc_laws.specs.declared.rows.ControlRow.TheVariants.{Ignores, Confirms, Declines}
use Rattle.rpc_laws.specs.declared.rows.ControlRow.TheVariants.{Starves, Accepts, Ends, Misses}
use Rattle.rpc_laws.specs.declared.rows.ControlRow.TheVariants.{Connects, Disowns, Fails, Closes as Shuts}
use Rattle.rpc_laws.specs.declared.rows.EndRow.{EndRow}
use Rattle.rpc_laws.specs.declared.rows.EndRow.TheVariants.{GoesOn, EndsOk, EndsTooSmall}
use Rattle.rpc_laws.specs.declared.rows.ClientRow.{ClientRow}
use Rattle.rpc_laws.specs.declared.rows.ClientRow.TheVariants.{Drops as ClientDrops, Takes as ClientTakes}
use Rattle.rpc_laws.specs.declared.rows.RetryRow.{RetryRow}
use Rattle.rpc_laws.specs.declared.rows.RetryRow.TheVariants.{Rests, Asks, GivesUp}
use Rattle.rpc_laws.specs.declared.rows.ServerRow.{ServerRow}
use Rattle.rpc_laws.specs.declared.rows.ServerRow.TheVariants.{Drops, Begins, Takes, Repeats}
use Rattle.rpc_laws.specs.declared.rows.TimerRow.{TimerRow}
use Rattle.rpc_laws.specs.declared.rows.TimerRow.TheVariants.{Waits, RollsBack, Breaks}
use Rattle.rpc_laws.specs.declared.tables.Asking.{Asking}
use Rattle.rpc_laws.specs.declared.tables.Call.{Call}
use Rattle.rpc_laws.specs.declared.tables.Client.{Client}
use Rattle.rpc_laws.specs.declared.tables.Job.{Job}
use Rattle.rpc_laws.specs.declared.tables.Lists.{Lists}
use Rattle.rpc_laws.specs.declared.tables.Progress.{Progress}
use Rattle.rpc_laws.specs.declared.tables.Queued.{Queued}
use Rattle.rpc_laws.specs.declared.tables.Served.{Served}
use Rattle.rpc_laws.specs.declared.tables.Server.{Server}
use Rattle.rpc_laws.specs.declared.tables.Timed.{Timed}
use Rattle.rpc_laws.proofs.RunLemmas.{me-after_all}
use Rattle.rpc_laws.specs.Calls.{is_active, is_call}
use Rattle.rpc_laws.specs.ClientTable.{call_ending, client_ending, end_facts, progress_ending, reply_facts}
use Rattle.rpc_laws.specs.ControlSteps.{AnswersControl, control_fact, EndsAllOutdated, EndsOutdated, given_up}
use Rattle.rpc_laws.specs.ControlSteps.{Hears, HearsAll, own_request, Retries, RetriesAs, RetriesBy, RetriesOf}
use Rattle.rpc_laws.specs.ControlSteps.{retry_row, Speaks, SpeaksIf, TakesControl, TimesAll, TimesSession}
use Rattle.rpc_laws.specs.ControlTable.{control_facts, control_row, named_end, outdated, session_end}
use Rattle.rpc_laws.specs.ControlTable.{session_flushes}
use Rattle.rpc_laws.specs.Facts.{plain}
use Rattle.rpc_laws.specs.GoBackN.{call_facts, client_facts, Each, flushes_of, numbers_in, progress_facts}
use Rattle.rpc_laws.specs.GoBackN.{row_facts, Watches, WatchesSession}
use Rattle.rpc_laws.specs.PollOrder.{answer_posted, awaited, Closes, FinishesOne, FinishesSome}
use Rattle.rpc_laws.specs.PollOrder.{Handles, HandlesAll, handling_by, NoMoreToHandle, Poll, PostsAll}
use Rattle.rpc_laws.specs.PollOrder.{raised, Sends, SendsSome, Serves}
use Rattle.rpc_laws.specs.Posting.{beginning, can_post, if_connected, lowest_free, next_begun, next_packet}
use Rattle.rpc_laws.specs.Posting.{next_posted, next_turn, posting}
use Rattle.rpc_laws.specs.Calls.{is_waiting}
use Rattle.rpc_laws.specs.ClientTable.{client_row}
use Rattle.rpc_laws.specs.Jobs.{are_full}
use Rattle.rpc_laws.specs.Requests.{is_server}
use Rattle.rpc_laws.specs.ServerTable.{server_row}
use Rattle.rpc_laws.specs.Sessions.{is_client, is_connected}
use Rattle.rpc_base.specs.declared.owner.Owner.TheVariants.{Ask}
use Rattle.std.proofs.Common.{length, ◌==◌, append_assoc}
use Rattle.rpc_laws.specs.Queues.{flush_facts, numbers_of}
use Rattle.rpc_laws.specs.Requests.{in_slot_of}
use Rattle.rpc_laws.specs.ServerTable.{brings, flushes, flushes_older, is_last, makes_job, served_facts}
use Rattle.rpc_laws.specs.ServerTable.{took_facts, whole_ask}
use Rattle.rpc_laws.specs.Steps.{Chain, Goes, more, none, NotesAll, NotesNext, Rel, Then, Until, Visits}
use Rattle.rpc_outside.specs.declared.service.Mode.{Mode}
use Rattle.front_laws.specs.Whole.{is_polls}

-- an event that only a poll makes, of node n
abbrev pub IsPolls : ℕ → Fact → Type 0
IsPolls n f = (f.who ≡ Node n) × (is_polls f.event ≡ true)

abbrev pub AllPolls : ℕ → List Fact → Type 0
AllPolls n x = AllByRecursion (IsPolls n) x

all-joined : (n : ℕ) (x y : List Fact) → AllPolls n x → AllPolls n y → AllPolls n (x ++ y)
all-joined n [] y a b = b
all-joined n (f ∷ x) y a b = (a.0, all-joined n x y a.1 b)

all-if : (n : ℕ) (b : Bool) (x y : List Fact) → AllPolls n x → AllPolls n y → AllPolls n (cond b x y)
all-if n true x y a c = a
all-if n false x y a c = c

module _ (me : ℕ) where
  all-map : {A : Type 0} (e : A → Event) → ((a : A) → is_polls (e a) ≡ true) → (xs : List A)
      → AllPolls me (map (λ a. plain me (e a)) xs)
  all-map e p [] = tt
  all-map e p (x ∷ xs) = ((refl, p x), all-map e p xs)

  all-flat : {A : Type 0} (f : A → List Fact) → ((a : A) → AllPolls me (f a)) → (xs : List A)
      → AllPolls me (flat_map f xs)
  all-flat f p [] = tt
  all-flat f p (x ∷ xs) = all-joined me (f x) (flat_map f xs) (p x) (all-flat f p xs)

  flush-polls : (queued : List Queued) (o : Owner) → AllPolls me (flush_facts me queued o)
  flush-polls queued o = all-map (λ k. Flushed o k) (λ k. refl) (numbers_of o queued)

  -- finished jobs
  posted-polls : (job : Job) (o : Option ℕ)
      → AllPolls me (answer_posted me job o)
  posted-polls job None = tt
  posted-polls job (Some k) = ((refl, refl), tt)

  -- the server rule
  older-polls : (queued : List Queued) (t : ℕ) (o : Option Served) → AllPolls me (flushes me queued t o)
  older-polls queued t None = tt
  older-polls queued t (Some l) = flush-polls queued (Reply t l.number)

  slot-polls : (queued : List Queued) (v : Option Server) (r : ℕ)
      → AllPolls me (flushes_older me queued v r)
  slot-polls queued None r = tt
  slot-polls queued (Some v) r = older-polls queued v.way.number (find (in_slot_of r) v.slots)

  brings-polls : (mode : Mode) (answer : List ℕ) (h : MessageHeader) (ask : List ℕ)
      → AllPolls me (brings mode me answer h ask)
  brings-polls mode answer h ask =
      all-if me (makes_job mode h) _ _ ((refl, refl), tt)
      (all-joined me _ _ (all-if me (is_last h) _ _ ((refl, refl), tt) tt) ((refl, refl), tt))

  took-polls : (mode : Mode) (answer : List ℕ) (h : MessageHeader) (ask : List ℕ)
      → AllPolls me (took_facts mode me answer h ask)
  took-polls mode answer h ask = ((refl, refl), brings-polls mode answer h ask)

  served-polls : (mode : Mode) (answer : List ℕ) (queued : List Queued) (v : Option Server)
      (h : MessageHeader) (body : List ℕ) (row : ServerRow)
      → AllPolls me (served_facts mode me answer queued v h body row)
  served-polls mode answer queued v h body (Drops why) = ((refl, refl), tt)
  served-polls mode answer queued v h body Begins =
      all-joined me _ _ (slot-polls queued v h.request) (took-polls mode answer h body)
  served-polls mode answer queued v h body Takes = took-polls mode answer h (whole_ask v h.request body)
  served-polls mode answer queued v h body Repeats = ((refl, refl), ((refl, refl), tt))

  -- the client rule
  end-polls : (number : ℕ) (parts : List ℕ) (row : EndRow) → AllPolls me (end_facts me number parts row)
  end-polls number parts GoesOn = tt
  end-polls number parts EndsOk = ((refl, refl), tt)
  end-polls number parts (EndsTooSmall size) = ((refl, refl), tt)

  progress-polls : (a : Asking) (h : MessageHeader) (body : List ℕ) (p : Option Progress)
      → AllPolls me (progress_ending me a h body p)
  progress-polls a h body None = tt
  progress-polls a h body (Some p) = end-polls _ _ _

  call-polls : (h : MessageHeader) (body : List ℕ) (c : Option Call) → AllPolls me (call_ending me h body c)
  call-polls h body None = tt
  call-polls h body (Some c) = progress-polls c.what h body c.progress

  ending-polls : (h : MessageHeader) (body : List ℕ) (x : Option Client)
      → AllPolls me (client_ending me h body x)
  ending-polls h body None = tt
  ending-polls h body (Some x) = call-polls h body (find (is_active h.request) x.calls)

  reply-polls : (x : Option Client) (h : MessageHeader) (body : List ℕ) (row : ClientRow)
      → AllPolls me (reply_facts me x h body row)
  reply-polls x h body (ClientDrops why) = ((refl, refl), tt)
  reply-polls x h body ClientTakes = ((refl, refl), ending-polls h body x)

  -- the control rule
  session-polls : (queued : List Queued) (v : Option Server) → AllPolls me (session_end me queued v)
  session-polls queued None = tt
  session-polls queued (Some v) =
      let over : AllPolls me (plain me (Ended v.way.number) ∷ []) = ((refl, refl), tt) in
      all-joined me (session_flushes me queued v) (plain me (Ended v.way.number) ∷ [])
      (all-flat _ (λ slot. older-polls queued v.way.number (find (in_slot_of slot) v.slots))
      (0 ∷ 1 ∷ 2 ∷ 3 ∷ 4 ∷ 5 ∷ 6 ∷ 7 ∷ [])) over

  fact-polls : (taken : Bool) (peer : ℕ) (head : List ℕ) → IsPolls me (control_fact taken me peer head)
  fact-polls true peer head = (refl, refl)
  fact-polls false peer head = (refl, refl)

  speaks-polls : (peer : ℕ) (h : ControlHeader) (x : List Fact) → Speaks me peer h x → AllPolls me x
  speaks-polls peer h x s = rw s.facts (fact-polls s.taken peer s.head, tt)

  said-polls : (peer : ℕ) (h : Option ControlHeader) (x : List Fact) → SpeaksIf me peer h x → AllPolls me x
  said-polls peer None x s = rw s tt
  said-polls peer (Some h) x s = speaks-polls peer h x s

  given-polls : (state : SessionState) (n : ℕ) → AllPolls me (map (plain me) (given_up state n))
  given-polls Unknown n = tt
  given-polls Connecting n = ((refl, refl), tt)
  given-polls Connected n = tt
  given-polls Closing n = ((refl, refl), tt)
  given-polls Closed n = tt
  given-polls Failed n = tt
  given-polls IsBroken n = tt
  given-polls Spent n = tt

  retry-polls : (row : RetryRow) (x : Client) (h : ControlHeader) (facts : List Fact)
      → RetriesBy row me x h facts → AllPolls me facts
  retry-polls Rests x h facts r = rw r tt
  retry-polls Asks x h facts r = speaks-polls x.way.peer h facts r
  retry-polls GivesUp x h facts r = rw r (given-polls x.state x.way.number)

  retries-as : (h : Option ControlHeader) (clock timeout : ℕ) (x : Client) (facts : List Fact)
      → RetriesAs h clock timeout me x facts → AllPolls me facts
  retries-as None clock timeout x facts r = rw r tt
  retries-as (Some h) clock timeout x facts r =
      retry-polls (retry_row clock timeout x.sends x.sent_at) x h facts r

  retries-of : (clock timeout own : ℕ) (x : Option Client) (facts : List Fact)
      → RetriesOf clock timeout me own x facts → AllPolls me facts
  retries-of clock timeout own None facts r = rw r tt
  retries-of clock timeout own (Some x) facts r = retries-as (own_request own x) clock timeout x facts r

  -- timers
  of-polls : (session : ℕ) (queued : List Queued) (p : Option Progress)
      → AllPolls me (flushes_of me session queued p)
  of-polls session queued None = tt
  of-polls session queued (Some p) = flush-polls queued _

  row-polls : (queued : List Queued) (x : Client) (n : ℕ) (p : Progress) (row : TimerRow)
      → AllPolls me (row_facts me queued x n p row)
  row-polls queued x n p Waits = tt
  row-polls queued x n p RollsBack = all-joined me _ _ (flush-polls queued _) ((refl, refl), tt)
  row-polls queued x n p Breaks =
      all-joined me _ _ (all-flat _ (λ c. of-polls x.way.number queued c.progress) x.calls)
      ((refl, refl), all-map _ (λ c. refl) x.calls)

  timer-polls : (clock timeout : ℕ) (queued : List Queued) (x : Client) (n : ℕ) (p : Option Progress)
      → AllPolls me (progress_facts clock timeout me queued x n p)
  timer-polls clock timeout queued x n None = tt
  timer-polls clock timeout queued x n (Some p) = row-polls queued x n p _

  watched-polls : (clock timeout : ℕ) (queued : List Queued) (x : Client) (c : Option Call)
      → AllPolls me (call_facts clock timeout me queued x c)
  watched-polls clock timeout queued x None = tt
  watched-polls clock timeout queued x (Some c) = timer-polls clock timeout queued x c.what.number c.progress

  client-polls : (clock timeout : ℕ) (queued : List Queued) (n : ℕ) (x : Option Client)
      → AllPolls me (client_facts clock timeout me queued n x)
  client-polls clock timeout queued n None = tt
  client-polls clock timeout queued n (Some x) =
      watched-polls clock timeout queued x (find (is_call n) x.calls)

control-polls : (s : Lists) (peer : ℕ) (h : ControlHeader) (row : ControlRow)
    → AllPolls s.me (control_facts s peer h row)
control-polls s peer h Ignores = tt
control-polls s peer h (Confirms t credits) = tt
control-polls s peer h Declines = ((refl, refl), tt)
control-polls s peer h Starves = ((refl, refl), tt)
control-polls s peer h (Accepts t) = ((refl, refl), tt)
control-polls s peer h Ends = session-polls s.me s.queued (named_end peer h.client h.from_life h.server s.servers)
control-polls s peer h Misses = tt
control-polls s peer h (Connects t) = ((refl, refl), tt)
control-polls s peer h Disowns = tt
control-polls s peer h Fails = ((refl, refl), tt)
control-polls s peer h Shuts = ((refl, refl), tt)

handling-polls : (mode : ℕ → Mode) (lacks : Bool) (answer : List ℕ) (kind : Kind) (s : Lists) (peer : ℕ)
    (h : MessageHeader) (body : List ℕ) → AllPolls s.me (handling_by mode lacks answer kind s peer h body)
handling-polls mode lacks answer Request s peer h body =
    let v = find (is_server h.session) s.servers in
    served-polls s.me (mode h.req_type) answer s.queued v h body
    (server_row (mode h.req_type) (are_full s.jobs) lacks v peer h)
handling-polls mode lacks answer Rfr s peer h body =
    let v = find (is_server h.session) s.servers in
    served-polls s.me (mode h.req_type) answer s.queued v h body
    (server_row (mode h.req_type) (are_full s.jobs) lacks v peer h)
handling-polls mode lacks answer Cr s peer h body =
    let x = find (is_client h.session) s.clients in
    reply-polls s.me x h body (client_row s.queued x peer h (length body))
handling-polls mode lacks answer Response s peer h body =
    let x = find (is_client h.session) s.clients in
    reply-polls s.me x h body (client_row s.queued x peer h (length body))

-- what begins or is posted next
from-some : {A : Type 0} (f : A → Event) → ((a : A) → is_polls (f a) ≡ true) → (o : Option A) (e : Event)
    → option_map f o ≡ Some e → is_polls e ≡ true
from-some f p None e h = cc
from-some f p (Some a) e h =
    let same : f a ≡ e = cc in subst (λ (z : Event). is_polls z ≡ true) same (p a)

from-then : {A : Type 0} (f : A → Option Event) → ((a : A) (e : Event) → f a ≡ Some e → is_polls e ≡ true)
    → (o : Option A) (e : Event) → option_and_then f o ≡ Some e → is_polls e ≡ true
from-then f p None e h = cc
from-then f p (Some a) e h = p a e h

from-if : (b : Bool) (o : Option Event) (e : Event) → ((e : Event) → o ≡ Some e → is_polls e ≡ true)
    → cond b o None ≡ Some e → is_polls e ≡ true
from-if true o e p h = p e h
from-if false o e p h = cc

from-unless : (b : Bool) (o : Option Event) (e : Event) → ((e : Event) → o ≡ Some e → is_polls e ≡ true)
    → cond b None o ≡ Some e → is_polls e ≡ true
from-unless true o e p h = cc
from-unless false o e p h = p e h

waiting-polls : (x : Client) (c : Call) (e : Event)
    → option_map (λ slot. Begun c.what.number (next_turn x.turns slot)) (lowest_free x.calls) ≡ Some e
    → is_polls e ≡ true
waiting-polls x c e h =
    from-some (λ slot. Begun c.what.number (next_turn x.turns slot)) (λ slot. refl) (lowest_free x.calls) e h

beginning-polls : (x : Client) (e : Event) → beginning x ≡ Some e → is_polls e ≡ true
beginning-polls x e h =
    from-then (λ c. option_map (λ slot. Begun c.what.number (next_turn x.turns slot)) (lowest_free x.calls))
    (waiting-polls x) (find is_waiting x.calls) e h

begun-polls : (i : ℕ) (s : Lists) (e : Event) → next_begun i s ≡ Some e → is_polls e ≡ true
begun-polls i s e h =
    from-then (if_connected beginning)
    (λ x e h. from-if (is_connected x.state) (beginning x) e (beginning-polls x) h)
    (slice_get s.clients i) e h

next-polls : (session : ℕ) (p : Option Progress) (e : Event) → next_packet session p ≡ Some e
    → is_polls e ≡ true
next-polls session p e h =
    from-some (λ p. Posted (Ask session p.request) p.posted) (λ p. refl) p e h

post-polls : (x : Client) (e : Event) → posting x ≡ Some e → is_polls e ≡ true
post-polls x e h =
    from-unless (x.free == 0) (option_and_then (λ c. next_packet x.way.number c.progress) (find can_post x.calls))
    e (λ e h. from-then (λ c. next_packet x.way.number c.progress)
    (λ c e h. next-polls x.way.number c.progress e h) (find can_post x.calls) e h) h

posted-next : (i : ℕ) (s : Lists) (e : Event) → next_posted i s ≡ Some e → is_polls e ≡ true
posted-next i s e h =
    from-then (if_connected posting)
    (λ x e h. from-if (is_connected x.state) (posting x) e (post-polls x) h)
    (slice_get s.clients i) e h

-- a step notes such events of its node alone, which keeps its number
pub record Keeps (n : ℕ) (x : List Fact) (t : Timed) : Type 0 where
  pub all : AllPolls n x
  pub me : t.lists.me ≡ n

abbrev pub OnlyPolls : Rel → Type 0
OnlyPolls P = (n : ℕ) (s : Timed) (x : List Fact) (t : Timed) → s.lists.me ≡ n → P s x t → Keeps n x t

goes-polls : (n : ℕ) (s : Timed) (x : List Fact) (t : Timed) → s.lists.me ≡ n → Goes s x t
    → AllPolls s.lists.me x → Keeps n x t
goes-polls n s x t m g a = record {
  all = subst (λ (k : ℕ). AllPolls k x) m a;
  me = ap (λ (u : Timed). u.lists.me) g ∙ (me-after_all s.clock s.lists x ∙ m);
}

stays-polls : (n : ℕ) (s : Timed) (x : List Fact) (t : Timed) → s.lists.me ≡ n → (x ≡ []) × (t ≡ s)
    → Keeps n x t
stays-polls n s x t m h =
    record { all = rw h.0 tt; me = ap (λ (u : Timed). u.lists.me) h.1 ∙ m }

pub then-polls : (P Q : Rel) → OnlyPolls P → OnlyPolls Q → OnlyPolls (Then P Q)
then-polls P Q p q n s x t m h =
    let a = p n s h.front h.between m h.first in
    let b = q n h.between h.back t a.me h.second in
    record { all = rw h.joined (all-joined n h.front h.back a.all b.all); me = b.me }

chain-polls : (P : Rel) → OnlyPolls P → (n : ℕ) (s : Timed) {x : List Fact} {t : Timed}
    → s.lists.me ≡ n → Chain P s x t → Keeps n x t
chain-polls P p n s m none = record { all = tt; me = m }
chain-polls P p n s m (more {x} {t} c y u q) =
    let a = chain-polls P p n s m c in
    let b = p n t y u a.me q in
    record { all = all-joined n x y a.all b.all; me = b.me }

pub until-polls : (P : Rel) (Over : Timed → Type 0) → OnlyPolls P → OnlyPolls (Until P Over)
until-polls P Over p n s x t m h = chain-polls P p n s m h.steps

visits-polls : (P : ℕ → Rel) → ((i : ℕ) → OnlyPolls (P i)) → (k : ℕ) → OnlyPolls (Visits P k)
visits-polls P p zero n s x t m h = stays-polls n s x t m h
visits-polls P p (suc k) n s x t m h =
    then-polls (Visits P k) (P k) (visits-polls P p k) (p k) n s x t m h

each-polls : (P : ℕ → Rel) → ((i : ℕ) → OnlyPolls (P i)) → (is : List ℕ) → OnlyPolls (Each P is)
each-polls P p [] n s x t m h = stays-polls n s x t m h
each-polls P p (i ∷ is) n s x t m h =
    then-polls (P i) (Each P is) (p i) (each-polls P p is) n s x t m h

finishes-polls : OnlyPolls FinishesOne
finishes-polls n s x t m h =
    let f = h.finishes in
    goes-polls n s x t m f.goes
    (rw f.facts ((refl, refl), posted-polls s.lists.me f.job (awaited f.job s.lists.servers)))

takes-polls : OnlyPolls TakesControl
takes-polls n s x t m h = goes-polls n s x t m h.goes (rw h.facts ((refl, refl), tt))

ends-polls : (peer : ℕ) (h : ControlHeader) → OnlyPolls (EndsOutdated peer h)
ends-polls peer h n s x t m a =
    goes-polls n s x t m a.goes (rw a.facts (session-polls s.lists.me s.lists.queued (Some a.server)))

answers-polls : (peer : ℕ) (h : ControlHeader) → OnlyPolls (AnswersControl peer h)
answers-polls peer h n s x t m a =
    goes-polls n s x t m a.goes (rw a.facts (all-joined s.lists.me _ _
    (control-polls s.lists peer h (control_row a.lacks peer h s.lists))
    (said-polls s.lists.me peer _ a.said a.speaks)))

hears-polls : OnlyPolls Hears
hears-polls n s x t m h =
    let peer = h.front.peer in
    then-polls TakesControl (Then (EndsAllOutdated peer h.header) (AnswersControl peer h.header)) takes-polls
    (then-polls (EndsAllOutdated peer h.header) (AnswersControl peer h.header)
    (until-polls (EndsOutdated peer h.header) (λ t. outdated peer h.header t.lists ≡ None)
    (ends-polls peer h.header)) (answers-polls peer h.header)) n s x t m h.steps

handles-polls : (mode : ℕ → Mode) → OnlyPolls (Handles mode)
handles-polls mode n s x t m h =
    goes-polls n s x t m h.goes (rw h.facts (all-if s.lists.me (h.header.to_life == s.lists.life) _ _
    (handling-polls mode h.lacks h.answer h.header.kind s.lists h.front.peer h.header (body_of h.front.bytes))
    ((refl, refl), tt)))

retries-polls : (timeout i : ℕ) → OnlyPolls (Retries timeout i)
retries-polls timeout i n s x t m h =
    goes-polls n s x t m h.goes
    (retries-of s.lists.me s.clock timeout s.lists.life (slice_get s.lists.clients i) x h.facts)

watches-polls : (timeout i number : ℕ) → OnlyPolls (Watches timeout i number)
watches-polls timeout i number n s x t m h =
    goes-polls n s x t m h.goes (rw h.facts (client-polls s.lists.me s.clock timeout s.lists.queued number
    (slice_get s.lists.clients i)))

session-watches : (timeout i : ℕ) → OnlyPolls (WatchesSession timeout i)
session-watches timeout i n s x t m h =
    each-polls (Watches timeout i) (watches-polls timeout i) (numbers_in (slice_get s.lists.clients i)) n s x t m h

times-polls : OnlyPolls TimesAll
times-polls n s x t m h =
    visits-polls (TimesSession s.lists.timeout)
    (λ i. then-polls _ _ (retries-polls s.lists.timeout i) (session-watches s.lists.timeout i))
    _ n s x t m h

notes-polls : (next : Lists → Option Event) → ((s : Lists) (e : Event) → next s ≡ Some e → is_polls e ≡ true)
    → OnlyPolls (NotesAll next)
notes-polls next p =
    until-polls (NotesNext next) (λ t. next t.lists ≡ None)
    (λ n s x t m h. goes-polls n s x t m h.goes (rw h.facts ((refl, p s.lists h.event h.is_next), tt)))

sends-polls : OnlyPolls Sends
sends-polls n s x t m h = goes-polls n s x t m h.goes (rw h.facts ((refl, refl), tt))

-- a poll: such events, and then its Polled, which tells the clock that it leaves
pub record Ending (n : ℕ) (x : List Fact) (t : Timed) : Type 0 where
  pub front : List Fact
  pub joined : x ≡ front ++ plain n (Polled t.clock) ∷ []
  pub all : AllPolls n front

-- a step of node n ends so
abbrev pub EndsSo : Rel → Type 0
EndsSo Q = (n : ℕ) (s : Timed) (x : List Fact) (t : Timed) → s.lists.me ≡ n → Q s x t → Ending n x t

closes-ending : EndsSo Closes
closes-ending n s x t m h = record {
  front = [];
  joined = h.facts ∙ (ap (λ (k : ℕ). plain k (Polled s.clock) ∷ []) m
      ∙ ap (λ (c : ℕ). plain n (Polled c) ∷ []) (sym (ap (λ (u : Timed). u.clock) h.goes)));
  all = tt;
}

then-ending : (P Q : Rel) → OnlyPolls P → EndsSo Q → EndsSo (Then P Q)
then-ending P Q p q n s x t m h =
    let a = p n s h.front h.between m h.first in
    let b = q n h.between h.back t a.me h.second in
    record {
      front = h.front ++ b.front;
      joined = h.joined ∙ (ap (λ (z : List Fact). h.front ++ z) b.joined
          ∙ sym (append_assoc h.front b.front (plain n (Polled t.clock) ∷ [])));
      all = all-joined n h.front b.front a.all b.all;
    }

pub poll-ending : (mode : ℕ → Mode) (now n : ℕ) (s : Timed) (x : List Fact) (t : Timed) → s.lists.me ≡ n
    → Poll mode now s x t → Ending n x t
poll-ending mode now n s x t m h =
    let sending : OnlyPolls SendsSome = λ n s x t m h. chain-polls Sends sends-polls n s m h in
    let serves : (i : ℕ) → OnlyPolls (Serves i) =
    λ i. then-polls _ _ (notes-polls (next_begun i) (begun-polls i)) (notes-polls (next_posted i) (posted-next i)) in
    let posts : OnlyPolls PostsAll = λ n s x t m h. visits-polls Serves serves (length s.lists.clients) n s x t m h in
    let a = then-ending SendsSome Closes sending closes-ending in
    let b = then-ending PostsAll (Then SendsSome Closes) posts a in
    let c = then-ending TimesAll (Then PostsAll (Then SendsSome Closes)) times-polls b in
    let d = then-ending (HandlesAll mode) (Then TimesAll (Then PostsAll (Then SendsSome Closes)))
    (until-polls (Handles mode) NoMoreToHandle (handles-polls mode)) c in
    let e = then-ending HearsAll (Then (HandlesAll mode) (Then TimesAll (Then PostsAll (Then SendsSome Closes))))
    (until-polls Hears (λ t. t.lists.inbox ≡ []) hears-polls) d in
    then-ending FinishesSome (Then HearsAll (Then (HandlesAll mode)
    (Then TimesAll (Then PostsAll (Then SendsSome Closes)))))
    (λ n s x t m h. chain-polls FinishesOne finishes-polls n s m h) e n (raised now s) x t m h
