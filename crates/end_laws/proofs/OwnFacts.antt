-- What a step of a node notes is of that node, and tells of no working of a job: only the world's own steps do.
use Rattle.std.proofs.Common.{◌≡◌, ℕ, zero, suc, Bool, true, false, cond, List, [], ◌∷◌, ◌++◌}
use Rattle.std.proofs.Common.{length, map, Option, Some, None, slice_get, refl, sym, ap, ◌∙◌, subst}
use Rattle.std.proofs.Common.{eqb, nat_lt}
use Rattle.std.specs.Prelude.{flat_map, option_and_then, option_map}
use Rattle.std.specs.List.{find, AllByRecursion}
use Rattle.end_laws.proofs.ListLemmas.{all-add, all-append, all-first}
use Rattle.packet_header.specs.Reading.{body_of}
use Rattle.packet_header.specs.declared.packet.ControlHeader.{ControlHeader}
use Rattle.packet_header.specs.declared.packet.Kind.{Kind}
use Rattle.packet_header.specs.declared.packet.Kind.TheVariants.{Request, Rfr, Cr, Response}
use Rattle.packet_header.specs.declared.packet.MessageHeader.{MessageHeader}
use Rattle.rpc_base.specs.declared.event.Event.{Event}
use Rattle.rpc_base.specs.declared.event.Event.TheVariants.{Accepted, Arrived, Bad, Begun, Declined}
use Rattle.rpc_base.specs.declared.event.Event.TheVariants.{Closing as BeginsClosing, DonePeerLost}
use Rattle.rpc_base.specs.declared.event.Event.TheVariants.{Ended, Flushed, Given, NcallTooLarge}
use Rattle.rpc_base.specs.declared.event.Event.TheVariants.{NcloseBusy, NcloseState}
use Rattle.rpc_base.specs.declared.event.Event.TheVariants.{NconnectNumbers, NconnectRing, Nrate}
use Rattle.rpc_base.specs.declared.event.Event.TheVariants.{Overflowed, Posted, Ran, Rated, Starved}
use Rattle.rpc_base.specs.declared.event.Event.TheVariants.{Restarted, Unsent, Worked}
use Rattle.rpc_base.specs.declared.event.Event.TheVariants.{PairedClient, Heard, Sent, Asked, Took}
use Rattle.rpc_base.specs.declared.event.Event.TheVariants.{ClosedHeard, ClosedUnheard}
use Rattle.rpc_base.specs.declared.event.Event.TheVariants.{Connected as IsConnected, DoneTooSmall}
use Rattle.rpc_base.specs.declared.event.Event.TheVariants.{FailedNoAnswer, FailedNoRoom, Rolled}
use Rattle.rpc_base.specs.declared.event.Event.TheVariants.{Broken, DoneOk, Opened}
use Rattle.rpc_base.specs.declared.fact.Fact.{Fact}
use Rattle.rpc_base.specs.declared.fact.Who.TheVariants.{Node}
use Rattle.rpc_base.specs.declared.owner.Owner.{Owner}
use Rattle.rpc_base.specs.declared.owner.Owner.TheVariants.{Ask, Control, Reply}
use Rattle.rpc_base.specs.declared.state.SessionState.{SessionState}
use Rattle.rpc_base.specs.declared.state.SessionState.TheVariants.{Connecting, Connected, Closing}
use Rattle.rpc_laws.proofs.RunLemmas.{me-after_all}
use Rattle.rpc_laws.specs.declared.rows.ClientRow.{ClientRow}
use Rattle.rpc_laws.specs.declared.rows.ClientRow.TheVariants.{Drops as ClientDrops, Takes as ClientTakes}
use Rattle.rpc_laws.specs.declared.rows.ControlRow.{ControlRow}
use Rattle.rpc_laws.specs.declared.rows.ControlRow.TheVariants.{Accepts, Closes as ClosesSession}
use Rattle.rpc_laws.specs.declared.rows.ControlRow.TheVariants.{Connects as ConnectsSession}
use Rattle.rpc_laws.specs.declared.rows.ControlRow.TheVariants.{Declines, Ends, Fails, Starves}
use Rattle.rpc_laws.specs.declared.rows.EndRow.{EndRow}
use Rattle.rpc_laws.specs.declared.rows.EndRow.TheVariants.{EndsOk, EndsTooSmall, GoesOn}
use Rattle.rpc_laws.specs.declared.rows.RetryRow.{RetryRow}
use Rattle.rpc_laws.specs.declared.rows.RetryRow.TheVariants.{Asks as RetryAsks, GivesUp, Rests}
use Rattle.rpc_laws.specs.declared.rows.ServerRow.{ServerRow}
use Rattle.rpc_laws.specs.declared.rows.ServerRow.TheVariants.{Begins, Drops, Repeats, Takes}
use Rattle.rpc_laws.specs.declared.rows.TimerRow.{TimerRow}
use Rattle.rpc_laws.specs.declared.rows.TimerRow.TheVariants.{Breaks, RollsBack, Waits}
use Rattle.rpc_laws.specs.declared.tables.Arrival.{Arrival}
use Rattle.rpc_laws.specs.declared.tables.Call.{Call}
use Rattle.rpc_laws.specs.declared.tables.Client.{Client}
use Rattle.rpc_laws.specs.declared.tables.Job.{Job}
use Rattle.rpc_laws.specs.declared.tables.Lists.{Lists}
use Rattle.rpc_laws.specs.declared.tables.Outgoing.{Outgoing}
use Rattle.rpc_laws.specs.declared.tables.Progress.{Progress}
use Rattle.rpc_laws.specs.declared.tables.Queued.{Queued}
use Rattle.rpc_laws.specs.declared.tables.Served.{Served}
use Rattle.rpc_laws.specs.declared.tables.Server.{Server}
use Rattle.rpc_laws.specs.declared.tables.Timed.{Timed}
use Rattle.rpc_laws.specs.Calls.{is_active, is_call, is_waiting}
use Rattle.rpc_laws.specs.ClientTable.{call_ending, client_ending, end_facts, progress_ending, reply_facts}
use Rattle.rpc_laws.specs.ControlSteps.{control_fact, given_up, Hears, HearsAll, own_request}
use Rattle.rpc_laws.specs.ControlSteps.{Retries, RetriesAs, RetriesBy, RetriesOf, retry_row}
use Rattle.rpc_laws.specs.ControlSteps.{SpeaksIf, TimesAll, TimesSession}
use Rattle.rpc_laws.specs.ControlTable.{control_facts, control_reply, control_row, named_end, session_end}
use Rattle.rpc_laws.specs.Deliveries.{Delivers, inbox_room}
use Rattle.rpc_laws.specs.Facts.{plain, with_bytes, with_two}
use Rattle.rpc_laws.specs.Front.{front_body, front_header, is_control, is_message}
use Rattle.rpc_laws.specs.NodeLists.{after, after_all}
use Rattle.rpc_laws.specs.Packets.{owner_packet}
use Rattle.rpc_base.specs.Tables.{at_first}
use Rattle.rpc_laws.specs.GoBackN.{call_facts, client_facts, Each, flushes_of, numbers_in}
use Rattle.rpc_laws.specs.GoBackN.{progress_facts, row_facts, row_of, Watches, WatchesSession}
use Rattle.rpc_laws.specs.Groups.{ask_by_state, Asks, client_refusal, clients_spent, connect_by}
use Rattle.rpc_laws.specs.Groups.{Connects, Disconnects, has_no_room, pending, SetsRate, shares}
use Rattle.rpc_laws.specs.Groups.{state_of}
use Rattle.rpc_laws.specs.PollOrder.{Closes, FinishesOne, FinishesSome, Handles, HandlesAll}
use Rattle.rpc_laws.specs.PollOrder.{answer_posted, awaited, handling_by, Poll, PostsAll, raised, Sends}
use Rattle.rpc_laws.specs.PollOrder.{SendsSome, Serves}
use Rattle.rpc_laws.specs.Posting.{beginning, can_post, if_connected, lowest_free, next_begun}
use Rattle.rpc_laws.specs.Posting.{next_packet, next_posted, next_turn, posting}
use Rattle.rpc_laws.specs.Queues.{flush_facts, inbox_after, numbers_of}
use Rattle.rpc_laws.specs.Requests.{in_slot_of}
use Rattle.rpc_laws.specs.ServerTable.{flushes, flushes_older, is_last, makes_job, served_facts, took_facts}
use Rattle.rpc_laws.specs.Sessions.{clients_after, is_client, is_connected, is_live}
use Rattle.rpc_laws.specs.Steps.{Chain, Goes, more, none, NotesAll, NotesNext, Rel, Then, Until, Visits}
use Rattle.rpc_outside.specs.declared.service.Mode.{Mode}
use Rattle.rpc_base.proofs.BasicLemmas.{false-true}
use Rattle.rpc_base.proofs.PlaceLemmas.{all-at}
use Rattle.rpc_laws.specs.ControlSteps.{TakesControl, EndsOutdated, EndsAllOutdated, AnswersControl}
use Rattle.rpc_laws.specs.ControlTable.{outdated}
use Rattle.rpc_base.specs.declared.state.DropReason.TheVariants.{StaleLife}
use Rattle.rpc_base.specs.declared.event.Event.TheVariants.{Dropped}
use Rattle.std.proofs.Common.{◌==◌}

abbrev pub is_work : Event → Bool
is_work (Worked t r) = true
is_work (Restarted life) = true
is_work _ = false

-- an event of session control
abbrev pub is_of_control : Event → Bool
is_of_control (Opened session peer credits) = true
is_of_control (Accepted session peer client credits life) = true
is_of_control (Declined peer client credits) = true
is_of_control (Starved peer client credits) = true
is_of_control (IsConnected session server life) = true
is_of_control (FailedNoRoom session) = true
is_of_control (FailedNoAnswer session) = true
is_of_control (BeginsClosing session) = true
is_of_control (ClosedHeard session) = true
is_of_control (ClosedUnheard session) = true
is_of_control (Ended session) = true
is_of_control Heard = true
is_of_control (Sent peer Control number) = true
is_of_control (Unsent peer) = true
is_of_control _ = false

-- what arrives is no control packet
abbrev pub Brings : Event → List ℕ → Type 0
Brings (Arrived peer) bytes = is_control bytes ≡ false
Brings _ bytes = Unit {0}

-- a fact of node n that is no work; and where this is asked, none of session control
pub record IsOwn (still : Bool) (me : ℕ) (f : Fact) : Type 0 where
  pub who : f.who ≡ Node me
  pub idle : is_work f.event ≡ false
  pub plain : still ≡ true → is_of_control f.event ≡ false
  pub brings : still ≡ true → Brings f.event f.first

abbrev pub AllOwn : Bool → ℕ → List Fact → Type 0
AllOwn still me x = AllByRecursion (IsOwn still me) x

-- a node of which no session is being opened or closed, and with no control packet
pub record Quiet (l : Lists) : Type 0 where
  pub inbox : l.inbox ≡ []
  pub clients : AllByRecursion (λ x. own_request l.life x ≡ None) l.clients

quiet-first : (own : ℕ) (p : Client → Bool) (f : Client → Client) (xs : List Client)
    → ((x : Client) → own_request own x ≡ None → own_request own (f x) ≡ None)
    → AllByRecursion (λ x. own_request own x ≡ None) xs
    → AllByRecursion (λ x. own_request own x ≡ None) (at_first p f xs)
quiet-first own p f xs keep h =
    all-first (λ x. own_request own x ≡ None) (λ x. own_request own x ≡ None) p f xs (λ x k. k)
    (λ x is k. keep x k) h

quiet-clients : (own clock : ℕ) (e : Event) (bytes : List ℕ) (head : Option MessageHeader)
    (body : List ℕ) (xs : List Client) → is_of_control e ≡ false
    → AllByRecursion (λ x. own_request own x ≡ None) xs
    → AllByRecursion (λ x. own_request own x ≡ None) (clients_after clock e bytes head body xs)
quiet-clients own clock (PairedClient s peer t credits life) bytes head body xs c h =
    all-add (λ x. own_request own x ≡ None) xs _ h refl
quiet-clients own clock (Opened s peer credits) bytes head body xs c h = false-true (sym c)
quiet-clients own clock (IsConnected s t life) bytes head body xs c h = false-true (sym c)
quiet-clients own clock (FailedNoRoom s) bytes head body xs c h = false-true (sym c)
quiet-clients own clock (FailedNoAnswer s) bytes head body xs c h = false-true (sym c)
quiet-clients own clock (BeginsClosing s) bytes head body xs c h = false-true (sym c)
quiet-clients own clock (ClosedHeard s) bytes head body xs c h = false-true (sym c)
quiet-clients own clock (ClosedUnheard s) bytes head body xs c h = false-true (sym c)
quiet-clients own clock (Sent peer Control k) bytes head body xs c h = false-true (sym c)
quiet-clients own clock (Sent peer (Ask s r) k) bytes head body xs c h =
    quiet-first own _ _ xs (λ x k. k) h
quiet-clients own clock (Sent peer (Reply t r) k) bytes head body xs c h = h
quiet-clients own clock (Asked n s y room) bytes head body xs c h =
    quiet-first own _ _ xs (λ x k. k) h
quiet-clients own clock (Begun n r) bytes head body xs c h =
    quiet-first own _ _ xs (λ x k. k) h
quiet-clients own clock (Posted (Ask s r) k) bytes head body xs c h =
    quiet-first own _ _ xs (λ x k. k) h
quiet-clients own clock (Posted (Reply t r) k) bytes head body xs c h = h
quiet-clients own clock (Posted Control k) bytes head body xs c h = h
quiet-clients own clock (Took (Ask s r) k) bytes head body xs c h =
    quiet-first own _ _ xs (λ x k. k) h
quiet-clients own clock (Took (Reply t r) k) bytes head body xs c h = h
quiet-clients own clock (Took Control k) bytes head body xs c h = h
quiet-clients own clock (Rolled n posted got) bytes head body xs c h =
    quiet-first own _ _ xs (λ x k. k) h
quiet-clients own clock (Broken s) bytes head body xs c h = quiet-first own _ _ xs (λ x k. refl) h
quiet-clients own clock (DoneOk n) bytes head body xs c h =
    quiet-first own _ _ xs (λ x k. k) h
quiet-clients own clock (DoneTooSmall n size) bytes head body xs c h =
    quiet-first own _ _ xs (λ x k. k) h
quiet-clients own clock (DonePeerLost n) bytes head body xs c h =
    quiet-first own _ _ xs (λ x k. k) h
quiet-clients own clock _ bytes head body xs c h = h

quiet-inbox : (e : Event) (bytes : List ℕ) (inbox : List Arrival) → Brings e bytes → inbox ≡ []
    → inbox_after e bytes inbox ≡ []
quiet-inbox (Arrived peer) bytes inbox b h =
    ap (λ (x : Bool). cond x (inbox ++ record { peer = peer; bytes = bytes } ∷ []) inbox) b ∙ h
quiet-inbox Heard bytes inbox b h = rw h refl
quiet-inbox _ bytes inbox b h = h

pub quiet-after : (clock : ℕ) (l : Lists) (f : Fact) → is_of_control f.event ≡ false
    → Brings f.event f.first → Quiet l → Quiet (after clock l f)
quiet-after clock l f c b q = record {
  inbox = quiet-inbox f.event f.first l.inbox b q.inbox;
  clients = quiet-clients l.life clock f.event f.first (front_header l.ring) (front_body l.ring)
      l.clients c q.clients;
}

quiet-all : (still : Bool) → still ≡ true → (clock me : ℕ) (l : Lists) (x : List Fact)
    → AllOwn still me x → Quiet l → Quiet (after_all clock l x)
quiet-all still e clock me l [] a q = q
quiet-all still e clock me l (f ∷ x) a q =
    quiet-all still e clock me (after clock l f) x a.1
    (quiet-after clock l f (a.0.plain e) (a.0.brings e) q)

-- where this is asked, the node is so
abbrev pub Still : Bool → Lists → Type 0
Still still l = still ≡ true → Quiet l

-- what a step says of its facts, and that the node keeps its number
pub record Owned (still : Bool) (s : Timed) (x : List Fact) (t : Timed) : Type 0 where
  pub facts : AllOwn still s.lists.me x
  pub me : t.lists.me ≡ s.lists.me
  pub quiet : Still still t.lists

-- an event that is told with these bytes
record IsPlain (e : Event) (bytes : List ℕ) : Type 0 where
  idle : is_work e ≡ false
  plain : is_of_control e ≡ false
  brings : Brings e bytes

-- a refusal of a session is one
pub refusal-idle : (a b : Bool) (x y z : ℕ) (e : Event)
    → cond a (Some NconnectNumbers) (cond b (Some (NconnectRing x y z)) None) ≡ Some e
    → is_work e ≡ false
refusal-idle true b x y z e h = let same : NconnectNumbers ≡ e = cc in ap is_work (sym same)
refusal-idle false true x y z e h = let same : NconnectRing x y z ≡ e = cc in ap is_work (sym same)
refusal-idle false false x y z e h = cc

pub refusal-plain : (a b : Bool) (x y z : ℕ) (e : Event)
    → cond a (Some NconnectNumbers) (cond b (Some (NconnectRing x y z)) None) ≡ Some e
    → is_of_control e ≡ false
refusal-plain true b x y z e h = let same : NconnectNumbers ≡ e = cc in ap is_of_control (sym same)
refusal-plain false true x y z e h = let same : NconnectRing x y z ≡ e = cc in ap is_of_control (sym same)
refusal-plain false false x y z e h = cc

module _ (still : Bool) where
  abbrev pub Owns : Rel → Type 0
  Owns P = (s : Timed) (x : List Fact) (t : Timed) → Still still s.lists → P s x t → Owned still s x t

  pub owns-goes : (s : Timed) (x : List Fact) (t : Timed) → Still still s.lists → Goes s x t
      → AllOwn still s.lists.me x → Owned still s x t
  owns-goes s x t q g a =
      record {
        facts = a;
        me = ap (λ (u : Timed). u.lists.me) g ∙ me-after_all s.clock s.lists x;
        quiet = λ e. rw g (quiet-all still e s.clock s.lists.me s.lists x a (q e));
      }

  owns-none : (s : Timed) (x : List Fact) (t : Timed) → Still still s.lists → x ≡ [] → t ≡ s → Owned still s x t
  owns-none s x t q e f = rw (e, f) (record { facts = tt; me = refl; quiet = q })

  owns-append : (s t u : Timed) (x y : List Fact) → Owned still s x t → Owned still t y u → Owned still s (x ++ y) u
  owns-append s t u x y a b = record {
    facts = all-append (IsOwn still s.lists.me) x y a.facts (subst (λ (n : ℕ). AllOwn still n y) a.me b.facts);
    me = b.me ∙ a.me;
    quiet = b.quiet;
  }

  owns-then : (P Q : Rel) → Owns P → Owns Q → Owns (Then P Q)
  owns-then P Q p q s x t z h =
      let a = p s h.front h.between z h.first in
      rw h.joined (owns-append s h.between t h.front h.back a (q h.between h.back t a.quiet h.second))

  owns-chain : (P : Rel) → Owns P → Owns (Chain P)
  owns-chain P p s x t z none = owns-none s [] s z refl refl
  owns-chain P p s x t z (more {x = front} {t = between} c y u h) =
      let a = owns-chain P p s front between z c in
      owns-append s between u front y a (p between y u a.quiet h)

  owns-until : (P : Rel) (Over : Timed → Type 0) → Owns P → Owns (Until P Over)
  owns-until P Over p s x t z h = owns-chain P p s x t z h.steps

  owns-visits : (P : ℕ → Rel) → ((n : ℕ) → Owns (P n)) → (n : ℕ) → Owns (Visits P n)
  owns-visits P p zero s x t z h = owns-none s x t z h.0 h.1
  owns-visits P p (suc n) s x t z h = owns-then (Visits P n) (P n) (owns-visits P p n) (p n) s x t z h

  owns-each : (P : ℕ → Rel) → ((n : ℕ) → Owns (P n)) → (ns : List ℕ) → Owns (Each P ns)
  owns-each P p [] s x t z h = owns-none s x t z h.0 h.1
  owns-each P p (n ∷ ns) s x t z h = owns-then (P n) (Each P ns) (p n) (owns-each P p ns) s x t z h

  module _ (me : ℕ) where
    own-append : (x y : List Fact) → AllOwn still me x → AllOwn still me y → AllOwn still me (x ++ y)
    own-append x y a b = all-append (IsOwn still me) x y a b

    own-flat : {A : Type 0} (f : A → List Fact) → ((a : A) → AllOwn still me (f a)) → (xs : List A)
        → AllOwn still me (flat_map f xs)
    own-flat f each [] = tt
    own-flat f each (a ∷ xs) = own-append (f a) (flat_map f xs) (each a) (own-flat f each xs)

    own-map : {A : Type 0} (f : A → Fact) → ((a : A) → IsOwn still me (f a)) → (xs : List A)
        → AllOwn still me (map f xs)
    own-map f each [] = tt
    own-map f each (a ∷ xs) = (each a, own-map f each xs)

    own-flush : (queued : List Queued) (owner : Owner) → AllOwn still me (flush_facts me queued owner)
    own-flush queued owner =
        own-map (λ k. plain me (Flushed owner k))
        (λ k. record { who = refl; idle = refl; plain = λ e. refl; brings = λ e. tt })
        (numbers_of owner queued)

    -- a job is finished
    own-finish : (o : Option ℕ) (job : Job) (answer : List ℕ)
        → AllOwn still me (with_two me (Ran job.session job.request job.req_type) job.ask answer
        ∷ answer_posted me job o)
    own-finish None job answer = (record { who = refl; idle = refl; plain = λ e. refl; brings = λ e. tt }, tt)
    own-finish (Some k) job answer = (
      record { who = refl; idle = refl; plain = λ e. refl; brings = λ e. tt },
      (record { who = refl; idle = refl; plain = λ e. refl; brings = λ e. tt }, tt),
    )

    -- a packet is handled
    own-flushes : (queued : List Queued) (session : ℕ) (q : Option Served)
        → AllOwn still me (flushes me queued session q)
    own-flushes queued session None = tt
    own-flushes queued session (Some q) = own-flush queued (Reply session q.number)

    own-older : (queued : List Queued) (v : Option Server) (r : ℕ) → AllOwn still me (flushes_older me queued v r)
    own-older queued None r = tt
    own-older queued (Some v) r = own-flushes queued v.way.number (find (in_slot_of r) v.slots)

    own-brings : (a b : Bool) (answer : List ℕ) (h : MessageHeader) (ask : List ℕ)
        → AllOwn still me (cond a (plain me (Given h.session h.request) ∷ [])
        (cond b (with_two me (Ran h.session h.request h.req_type) ask answer ∷ []) []
        ++ plain me (Posted (Reply h.session h.request) h.number) ∷ []))
    own-brings true b answer h ask = (record { who = refl; idle = refl; plain = λ e. refl; brings = λ e. tt }, tt)
    own-brings false true answer h ask = (
      record { who = refl; idle = refl; plain = λ e. refl; brings = λ e. tt },
      (record { who = refl; idle = refl; plain = λ e. refl; brings = λ e. tt }, tt),
    )
    own-brings false false answer h ask =
        (record { who = refl; idle = refl; plain = λ e. refl; brings = λ e. tt }, tt)

    own-took : (mode : Mode) (answer : List ℕ) (h : MessageHeader) (ask : List ℕ)
        → AllOwn still me (took_facts mode me answer h ask)
    own-took mode answer h ask = (
      record { who = refl; idle = refl; plain = λ e. refl; brings = λ e. tt },
      own-brings (makes_job mode h) (is_last h) answer h ask,
    )

    own-served : (mode : Mode) (answer : List ℕ) (queued : List Queued) (v : Option Server)
        (h : MessageHeader) (body : List ℕ) (row : ServerRow)
        → AllOwn still me (served_facts mode me answer queued v h body row)
    own-served mode answer queued v h body (Drops why) =
        (record { who = refl; idle = refl; plain = λ e. refl; brings = λ e. tt }, tt)
    own-served mode answer queued v h body Begins =
        own-append (flushes_older me queued v h.request) _ (own-older queued v h.request)
        (own-took mode answer h body)
    own-served mode answer queued v h body Takes = own-took mode answer h _
    own-served mode answer queued v h body Repeats = (
      record { who = refl; idle = refl; plain = λ e. refl; brings = λ e. tt },
      (record { who = refl; idle = refl; plain = λ e. refl; brings = λ e. tt }, tt),
    )

    own-end : (number : ℕ) (parts : List ℕ) (row : EndRow) → AllOwn still me (end_facts me number parts row)
    own-end number parts GoesOn = tt
    own-end number parts EndsOk = (record { who = refl; idle = refl; plain = λ e. refl; brings = λ e. tt }, tt)
    own-end number parts (EndsTooSmall size) =
        (record { who = refl; idle = refl; plain = λ e. refl; brings = λ e. tt }, tt)

    own-call-end : (h : MessageHeader) (body : List ℕ) (c : Call) (p : Option Progress)
        → AllOwn still me (progress_ending me c.what h body p)
    own-call-end h body c None = tt
    own-call-end h body c (Some p) = own-end c.what.number _ _

    own-ending : (h : MessageHeader) (body : List ℕ) (c : Option Call) → AllOwn still me (call_ending me h body c)
    own-ending h body None = tt
    own-ending h body (Some c) = own-call-end h body c c.progress

    own-client-end : (h : MessageHeader) (body : List ℕ) (x : Option Client)
        → AllOwn still me (client_ending me h body x)
    own-client-end h body None = tt
    own-client-end h body (Some x) = own-ending h body (find (is_active h.request) x.calls)

    own-reply : (x : Option Client) (h : MessageHeader) (body : List ℕ) (row : ClientRow)
        → AllOwn still me (reply_facts me x h body row)
    own-reply x h body (ClientDrops why) =
        (record { who = refl; idle = refl; plain = λ e. refl; brings = λ e. tt }, tt)
    own-reply x h body ClientTakes = (
      record { who = refl; idle = refl; plain = λ e. refl; brings = λ e. tt },
      own-client-end h body x,
    )

    -- session control
    module _ (not_still : still ≡ true → ⊥) where
      own-said : (taken : Bool) (peer : ℕ) (head : List ℕ) → IsOwn still me (control_fact taken me peer head)
      own-said true peer head =
          record { who = refl; idle = refl; plain = λ e. absurd (not_still e); brings = λ e. tt }
      own-said false peer head =
          record { who = refl; idle = refl; plain = λ e. absurd (not_still e); brings = λ e. tt }

      own-speaks : (peer : ℕ) (o : Option ControlHeader) (x : List Fact) → SpeaksIf me peer o x → AllOwn still me x
      own-speaks peer None x h = rw h tt
      own-speaks peer (Some c) x h = rw h.facts (own-said h.taken peer h.head, tt)

      own-session-end : (queued : List Queued) (v : Option Server) → AllOwn still me (session_end me queued v)
      own-session-end queued None = tt
      own-session-end queued (Some v) =
          own-append _ (plain me (Ended v.way.number) ∷ [])
          (own-flat (λ slot. flushes me queued v.way.number (find (in_slot_of slot) v.slots))
          (λ slot. own-flushes queued v.way.number (find (in_slot_of slot) v.slots))
          (0 ∷ 1 ∷ 2 ∷ 3 ∷ 4 ∷ 5 ∷ 6 ∷ 7 ∷ [])) (
            record {
              who = refl;
              idle = refl;
              plain = λ e. absurd (not_still e);
              brings = λ e. tt;
            },
            tt,
          )

      own-given-up : (state : SessionState) (number : ℕ) → AllOwn still me (map (plain me) (given_up state number))
      own-given-up Connecting number = (
        record { who = refl; idle = refl; plain = λ e. absurd (not_still e); brings = λ e. tt },
        tt,
      )
      own-given-up Closing number = (
        record { who = refl; idle = refl; plain = λ e. absurd (not_still e); brings = λ e. tt },
        tt,
      )
      own-given-up _ number = tt

      own-retries-by : (row : RetryRow) (x : Client) (h : ControlHeader) (facts : List Fact)
          → RetriesBy row me x h facts → AllOwn still me facts
      own-retries-by Rests x h facts r = rw r tt
      own-retries-by RetryAsks x h facts r = rw r.facts (own-said r.taken x.way.peer r.head, tt)
      own-retries-by GivesUp x h facts r = rw r (own-given-up x.state x.way.number)

    own-retries-as : (own : Option ControlHeader) (clock timeout : ℕ) (x : Client)
        (facts : List Fact) → (still ≡ true → own ≡ None) → RetriesAs own clock timeout me x facts
        → AllOwn still me facts
    own-retries-as None clock timeout x facts q r = rw r tt
    own-retries-as (Some h) clock timeout x facts q r = own-retries-by (λ e. let none = q e in cc) (retry_row clock timeout x.sends x.sent_at) x h facts r

    own-retries : (own clock timeout i : ℕ) (xs : List Client) (x : Option Client)
        (facts : List Fact) → slice_get xs i ≡ x
        → (still ≡ true → AllByRecursion (λ x. own_request own x ≡ None) xs)
        → RetriesOf clock timeout me own x facts → AllOwn still me facts
    own-retries own clock timeout i xs None facts is q r = rw r tt
    own-retries own clock timeout i xs (Some x) facts is q r =
        own-retries-as (own_request own x) clock timeout x facts
        (λ e. all-at (λ x. own_request own x ≡ None) xs i x (q e) is) r

    -- the timers
    own-call-flushes : (queued : List Queued) (session : ℕ) (p : Option Progress)
        → AllOwn still me (flushes_of me session queued p)
    own-call-flushes queued session None = tt
    own-call-flushes queued session (Some p) = own-flush queued (Ask session p.request)

    own-row : (queued : List Queued) (x : Client) (number : ℕ) (p : Progress) (row : TimerRow)
        → AllOwn still me (row_facts me queued x number p row)
    own-row queued x number p Waits = tt
    own-row queued x number p RollsBack =
        own-append (flush_facts me queued (Ask x.way.number p.request)) _
        (own-flush queued (Ask x.way.number p.request))
        (record { who = refl; idle = refl; plain = λ e. refl; brings = λ e. tt }, tt)
    own-row queued x number p Breaks =
        own-append _ _ (own-flat (λ (c : Call). flushes_of me x.way.number queued c.progress)
        (λ c. own-call-flushes queued x.way.number c.progress) x.calls) (
          record { who = refl; idle = refl; plain = λ e. refl; brings = λ e. tt },
          own-map (λ (c : Call). plain me (DonePeerLost c.what.number))
              (λ c. record { who = refl; idle = refl; plain = λ e. refl; brings = λ e. tt }) x.calls,
        )

    own-progress : (clock timeout : ℕ) (queued : List Queued) (x : Client) (number : ℕ)
        (p : Option Progress) → AllOwn still me (progress_facts clock timeout me queued x number p)
    own-progress clock timeout queued x number None = tt
    own-progress clock timeout queued x number (Some p) =
        own-row queued x number p (row_of clock timeout x.way.number queued p)

    own-call : (clock timeout : ℕ) (queued : List Queued) (x : Client) (c : Option Call)
        → AllOwn still me (call_facts clock timeout me queued x c)
    own-call clock timeout queued x None = tt
    own-call clock timeout queued x (Some c) = own-progress clock timeout queued x c.what.number c.progress

    own-client : (clock timeout : ℕ) (queued : List Queued) (number : ℕ) (x : Option Client)
        → AllOwn still me (client_facts clock timeout me queued number x)
    own-client clock timeout queued number None = tt
    own-client clock timeout queued number (Some x) = own-call clock timeout queued x (find (is_call number) x.calls)

  own-control : (not_still : still ≡ true → ⊥) (s : Lists) (peer : ℕ) (h : ControlHeader)
      (row : ControlRow) → AllOwn still s.me (control_facts s peer h row)
  own-control not_still s peer h Declines =
      (record { who = refl; idle = refl; plain = λ e. absurd (not_still e); brings = λ e. tt }, tt)
  own-control not_still s peer h Starves =
      (record { who = refl; idle = refl; plain = λ e. absurd (not_still e); brings = λ e. tt }, tt)
  own-control not_still s peer h (Accepts t) =
      (record { who = refl; idle = refl; plain = λ e. absurd (not_still e); brings = λ e. tt }, tt)
  own-control not_still s peer h Ends =
      own-session-end s.me not_still s.queued (named_end peer h.client h.from_life h.server s.servers)
  own-control not_still s peer h (ConnectsSession t) =
      (record { who = refl; idle = refl; plain = λ e. absurd (not_still e); brings = λ e. tt }, tt)
  own-control not_still s peer h Fails =
      (record { who = refl; idle = refl; plain = λ e. absurd (not_still e); brings = λ e. tt }, tt)
  own-control not_still s peer h ClosesSession =
      (record { who = refl; idle = refl; plain = λ e. absurd (not_still e); brings = λ e. tt }, tt)
  own-control not_still s peer h _ = tt

  -- the steps of a poll
  finishes-one : Owns FinishesOne
  finishes-one s x t z h =
      owns-goes s x t z h.finishes.goes (rw h.finishes.facts
      (own-finish s.lists.me (awaited h.finishes.job s.lists.servers) h.finishes.job
      h.finishes.answer))

  takes-own : (still ≡ true → ⊥) → Owns TakesControl
  takes-own not_still s x t z h =
      owns-goes s x t z h.goes (rw h.facts (
        record
            { who = refl; idle = refl; plain = λ e. absurd (not_still e); brings = λ e. tt },
        tt,
      ))

  outdated-own : (still ≡ true → ⊥) → (peer : ℕ) (h : ControlHeader) → Owns (EndsOutdated peer h)
  outdated-own not_still peer h s x t z k =
      owns-goes s x t z k.goes (rw k.facts (own-session-end s.lists.me not_still s.lists.queued (Some k.server)))

  answers-own : (still ≡ true → ⊥) → (peer : ℕ) (h : ControlHeader) → Owns (AnswersControl peer h)
  answers-own not_still peer h s x t z k =
      let row = control_row k.lacks peer h s.lists in
      owns-goes s x t z k.goes (rw k.facts (
      own-append s.lists.me (control_facts s.lists peer h row) k.said
      (own-control not_still s.lists peer h row)
      (own-speaks s.lists.me not_still peer (control_reply s.lists.life h row) k.said k.speaks)
      ))

  hears-own : Owns Hears
  hears-own s x t z h =
      let not_still : still ≡ true → ⊥ = λ e. let none : slice_get s.lists.inbox 0 ≡ None = ap (λ xs. slice_get xs 0) (z e).inbox in let some = h.is_front in absurd (cc) in
      let peer = h.front.peer in
      owns-then TakesControl (Then (EndsAllOutdated peer h.header) (AnswersControl peer h.header))
      (takes-own not_still)
      (owns-then (EndsAllOutdated peer h.header) (AnswersControl peer h.header)
      (owns-until (EndsOutdated peer h.header) (λ t. outdated peer h.header t.lists ≡ None)
      (outdated-own not_still peer h.header)) (answers-own not_still peer h.header)) s x t z h.steps

  handling-own : (mode : ℕ → Mode) (lacks : Bool) (answer : List ℕ) (s : Lists) (peer : ℕ)
      (h : MessageHeader) (body : List ℕ) (k : Kind)
      → AllOwn still s.me (handling_by mode lacks answer k s peer h body)
  handling-own mode lacks answer s peer h body Request = own-served s.me (mode h.req_type) answer s.queued _ h body _
  handling-own mode lacks answer s peer h body Rfr = own-served s.me (mode h.req_type) answer s.queued _ h body _
  handling-own mode lacks answer s peer h body Cr = own-reply s.me (find (is_client h.session) s.clients) h body _
  handling-own mode lacks answer s peer h body Response =
      own-reply s.me (find (is_client h.session) s.clients) h body _

  handled-own : (mode : ℕ → Mode) (lacks : Bool) (answer : List ℕ) (s : Lists) (peer : ℕ)
      (h : MessageHeader) (body : List ℕ) (b : Bool)
      → AllOwn still s.me (cond b (handling_by mode lacks answer h.kind s peer h body)
      (plain s.me (Dropped StaleLife) ∷ []))
  handled-own mode lacks answer s peer h body true = handling-own mode lacks answer s peer h body h.kind
  handled-own mode lacks answer s peer h body false =
      (record { who = refl; idle = refl; plain = λ e. refl; brings = λ e. tt }, tt)

  handles-own : (mode : ℕ → Mode) → Owns (Handles mode)
  handles-own mode s x t z h =
      owns-goes s x t z h.goes (rw h.facts (handled-own mode h.lacks h.answer s.lists h.front.peer
      h.header (body_of h.front.bytes) (h.header.to_life == s.lists.life)))

  retries-own : (timeout i : ℕ) → Owns (Retries timeout i)
  retries-own timeout i s x t z h =
      owns-goes s x t z h.goes
      (own-retries s.lists.me s.lists.life s.clock timeout i s.lists.clients
      (slice_get s.lists.clients i) x refl (λ e. (z e).clients) h.facts)

  watches-own : (timeout i number : ℕ) → Owns (Watches timeout i number)
  watches-own timeout i number s x t z h =
      owns-goes s x t z h.goes (rw h.facts (own-client s.lists.me s.clock timeout s.lists.queued
      number (slice_get s.lists.clients i)))

  times-session : (timeout i : ℕ) → Owns (TimesSession timeout i)
  times-session timeout i =
      owns-then (Retries timeout i) (WatchesSession timeout i) (retries-own timeout i)
      (λ s x t z h. owns-each (Watches timeout i) (watches-own timeout i)
      (numbers_in (slice_get s.lists.clients i)) s x t z h)

  -- what is begun and posted next
  map-idle : {A : Type 0} (f : A → Event) → ((a : A) → IsPlain (f a) [])
      → (o : Option A) (e : Event) → option_map f o ≡ Some e → IsPlain e []
  map-idle f each None e h = cc
  map-idle f each (Some a) e h = let same : f a ≡ e = cc in subst (λ (d : Event). IsPlain d []) same (each a)

  then-idle : {A : Type 0} (f : A → Option Event)
      → ((a : A) (e : Event) → f a ≡ Some e → IsPlain e []) → (o : Option A) (e : Event)
      → option_and_then f o ≡ Some e → IsPlain e []
  then-idle f each None e h = cc
  then-idle f each (Some a) e h = each a e h

  if-idle : (b : Bool) (o : Option Event) (e : Event) → ((e : Event) → o ≡ Some e → IsPlain e [])
      → cond b o None ≡ Some e → IsPlain e []
  if-idle true o e each h = each e h
  if-idle false o e each h = cc

  unless-idle : (b : Bool) (o : Option Event) (e : Event)
      → ((e : Event) → o ≡ Some e → IsPlain e []) → cond b None o ≡ Some e → IsPlain e []
  unless-idle false o e each h = each e h
  unless-idle true o e each h = cc

  begun-idle : (i : ℕ) (l : Lists) (e : Event) → next_begun i l ≡ Some e → IsPlain e []
  begun-idle i l e h =
      then-idle (if_connected beginning) (λ x e k. if-idle (is_connected x.state)
      (beginning x) e (λ e k. then-idle (λ (c : Call). option_map
      (λ slot. Begun c.what.number (next_turn x.turns slot)) (lowest_free x.calls))
      (λ c e k. map-idle (λ slot. Begun c.what.number (next_turn x.turns slot))
      (λ slot. record { idle = refl; plain = refl; brings = tt }) (lowest_free x.calls) e k)
      (find is_waiting x.calls) e k) k) (slice_get l.clients i) e h

  posted-idle : (i : ℕ) (l : Lists) (e : Event) → next_posted i l ≡ Some e → IsPlain e []
  posted-idle i l e h =
      then-idle (if_connected posting) (λ x e k. if-idle (is_connected x.state)
      (posting x) e (λ e k. unless-idle (eqb x.free 0)
      (option_and_then (λ c. next_packet x.way.number c.progress) (find can_post x.calls)) e
      (λ e k. then-idle (λ (c : Call). next_packet x.way.number c.progress)
      (λ c e k. map-idle (λ (p : Progress). Posted (Ask x.way.number p.request) p.posted)
      (λ p. record { idle = refl; plain = refl; brings = tt }) c.progress e k)
      (find can_post x.calls) e k) k) k) (slice_get l.clients i) e h

  notes-own : (next : Lists → Option Event)
      → ((l : Lists) (e : Event) → next l ≡ Some e → IsPlain e []) → Owns (NotesAll next)
  notes-own next idle =
      owns-until (NotesNext next) (λ t. next t.lists ≡ None) (λ s x t z h. let p = idle s.lists h.event h.is_next in owns-goes s x t z h.goes (rw h.facts (record { who = refl; idle = p.idle; plain = λ e. p.plain; brings = λ e. p.brings }, tt)))

  serves-own : (i : ℕ) → Owns (Serves i)
  serves-own i = owns-then (NotesAll (next_begun i)) (NotesAll (next_posted i))
      (notes-own (next_begun i) (begun-idle i)) (notes-own (next_posted i) (posted-idle i))

  sent-own : (l : Lists) (peer : ℕ) (o : Owner) (k : ℕ) (head body : List ℕ) (out : Outgoing)
      → owner_packet l o k ≡ Some out → IsOwn still l.me (with_two l.me (Sent peer o k) head body)
  sent-own l peer (Ask s r) k head body out h =
      record { who = refl; idle = refl; plain = λ e. refl; brings = λ e. tt }
  sent-own l peer (Reply t r) k head body out h =
      record { who = refl; idle = refl; plain = λ e. refl; brings = λ e. tt }
  sent-own l peer Control k head body out h = absurd (cc)

  sends-own : Owns Sends
  sends-own s x t z h =
      owns-goes s x t z h.goes (rw h.facts (
        sent-own s.lists h.out.peer h.entry.owner h.entry.number
            h.head h.out.body h.out h.packet,
        tt,
      ))

  closes-own : Owns Closes
  closes-own s x t z h =
      owns-goes s x t z h.goes (rw h.facts (
        record
            { who = refl; idle = refl; plain = λ e. refl; brings = λ e. tt },
        tt,
      ))

  pub poll-own : (mode : ℕ → Mode) (now : ℕ) → Owns (Poll mode now)
  poll-own mode now s x t z h =
      let closing = owns-then SendsSome Closes (owns-chain Sends sends-own) closes-own in
      let posting = owns-then PostsAll (Then SendsSome Closes)
      (λ s x t z h. owns-visits Serves serves-own (length s.lists.clients) s x t z h)
      closing in
      let timing = owns-then TimesAll (Then PostsAll (Then SendsSome Closes))
      (λ s x t z h. owns-visits (TimesSession s.lists.timeout)
      (times-session s.lists.timeout) (length s.lists.clients) s x t z h) posting in
      let handling = owns-then (HandlesAll mode)
      (Then TimesAll (Then PostsAll (Then SendsSome Closes)))
      (owns-until (Handles mode) _ (handles-own mode)) timing in
      let hearing = owns-then HearsAll (Then (HandlesAll mode)
      (Then TimesAll (Then PostsAll (Then SendsSome Closes))))
      (owns-until Hears _ hears-own) handling in
      let all = owns-then FinishesSome (Then HearsAll
      (Then (HandlesAll mode) (Then TimesAll (Then PostsAll (Then SendsSome Closes)))))
      (owns-chain FinishesOne finishes-one) hearing (raised now s) x t z h in
      record { facts = all.facts; me = all.me; quiet = all.quiet }

  -- the calls of an application, and a delivery
  own-state : (state : SessionState) (session req_type room : ℕ) (ask : List ℕ) (l : Lists)
      → IsOwn still l.me (ask_by_state state session req_type room ask l)
  own-state Connected session req_type room ask l =
      record { who = refl; idle = refl; plain = λ e. refl; brings = λ e. tt }
  own-state _ session req_type room ask l = record { who = refl; idle = refl; plain = λ e. refl; brings = λ e. tt }

  own-ask : (b : Bool) (session req_type room : ℕ) (ask : List ℕ) (l : Lists) (state : SessionState)
      → IsOwn still l.me (cond b (plain l.me (NcallTooLarge session (length ask)))
      (ask_by_state state session req_type room ask l))
  own-ask true session req_type room ask l state =
      record { who = refl; idle = refl; plain = λ e. refl; brings = λ e. tt }
  own-ask false session req_type room ask l state = own-state state session req_type room ask l

  pub asks-own : (session req_type : ℕ) (ask : List ℕ) (room : ℕ) → Owns (Asks session req_type ask room)
  asks-own session req_type ask room s x t z h =
      owns-goes s x t z h.goes (rw h.facts (
        own-ask _ session req_type room ask s.lists
            (state_of (find (is_client session) s.lists.clients)),
        tt,
      ))

  own-delivery : (a b c d : Bool) (me peer : ℕ) (bytes : List ℕ)
      → (still ≡ true → is_control bytes ≡ false)
      → IsOwn still me (with_bytes me (cond a (cond b (Arrived peer) (Overflowed peer))
      (cond c (cond d (Arrived peer) (Overflowed peer)) (Bad peer))) bytes)
  own-delivery true true c d me peer bytes n = record { who = refl; idle = refl; plain = λ e. refl; brings = n }
  own-delivery true false c d me peer bytes n =
      record { who = refl; idle = refl; plain = λ e. refl; brings = λ e. tt }
  own-delivery false b true true me peer bytes n = record { who = refl; idle = refl; plain = λ e. refl; brings = n }
  own-delivery false b true false me peer bytes n =
      record { who = refl; idle = refl; plain = λ e. refl; brings = λ e. tt }
  own-delivery false b false d me peer bytes n =
      record { who = refl; idle = refl; plain = λ e. refl; brings = λ e. tt }

  pub delivers-own : (peer : ℕ) (bytes : List ℕ) → (still ≡ true → is_control bytes ≡ false)
      → Owns (Delivers peer bytes)
  delivers-own peer bytes n s x t z h =
      owns-goes s x t z h.goes (rw h.facts (
        own-delivery (is_message bytes)
            (nat_lt (length s.lists.ring) s.lists.room) (is_control bytes)
            (nat_lt (length s.lists.inbox) inbox_room) s.lists.me peer bytes n,
        tt,
      ))

  own-rated : (b : Bool) (me session rate : ℕ) → AllOwn still me (cond b [] (plain me (Rated session rate) ∷ []))
  own-rated true me session rate = tt
  own-rated false me session rate = (record { who = refl; idle = refl; plain = λ e. refl; brings = λ e. tt }, tt)

  own-connect : (not_still : still ≡ true → ⊥) (refusal : Option Event) (peer credits rate : ℕ)
      (l : Lists) → client_refusal credits l ≡ refusal
      → AllOwn still l.me (connect_by refusal peer credits rate l)
  own-connect not_still (Some e) peer credits rate l is = (
    record {
      who = refl;
      idle = refusal-idle (clients_spent l) (has_no_room credits l) (shares l)
          credits l.room e is;
      plain = λ z. absurd (not_still z);
      brings = λ z. absurd (not_still z);
    },
    tt,
  )
  own-connect not_still None peer credits rate l is = (
    record { who = refl; idle = refl; plain = λ e. absurd (not_still e); brings = λ e. tt },
    own-rated (eqb rate 0) l.me (length l.clients) rate,
  )

  pub connects-own : (not_still : still ≡ true → ⊥) (peer credits rate : ℕ) → Owns (Connects peer credits rate)
  connects-own not_still peer credits rate s x t z h =
      owns-goes s x t z h.goes (rw h.facts (own-connect not_still (client_refusal credits s.lists)
      peer credits rate s.lists refl))

  own-disconnect : (not_still : still ≡ true → ⊥) (a b : Bool) (me session calls : ℕ)
      (state : SessionState)
      → IsOwn still me (plain me (cond a (NcloseState session state)
      (cond b (NcloseBusy session calls) (BeginsClosing session))))
  own-disconnect not_still true b me session calls state =
      record { who = refl; idle = refl; plain = λ e. absurd (not_still e); brings = λ e. tt }
  own-disconnect not_still false true me session calls state =
      record { who = refl; idle = refl; plain = λ e. absurd (not_still e); brings = λ e. tt }
  own-disconnect not_still false false me session calls state =
      record { who = refl; idle = refl; plain = λ e. absurd (not_still e); brings = λ e. tt }

  pub disconnects-own : (not_still : still ≡ true → ⊥) (session : ℕ) → Owns (Disconnects session)
  disconnects-own not_still session s x t z h =
      let client = find (is_client session) s.lists.clients in
      owns-goes s x t z h.goes (rw h.facts (
        own-disconnect not_still _ _ s.lists.me session
            (pending client) (state_of client),
        tt,
      ))

  own-rate : (b : Bool) (me session rate : ℕ) (state : SessionState)
      → IsOwn still me (plain me (cond b (Rated session rate) (Nrate session state)))
  own-rate true me session rate state = record { who = refl; idle = refl; plain = λ e. refl; brings = λ e. tt }
  own-rate false me session rate state = record { who = refl; idle = refl; plain = λ e. refl; brings = λ e. tt }

  pub rates-own : (session rate : ℕ) → Owns (SetsRate session rate)
  rates-own session rate s x t z h =
      let state = state_of (find (is_client session) s.lists.clients) in
      owns-goes s x t z h.goes (rw h.facts (own-rate (is_live state) s.lists.me session rate state, tt))
