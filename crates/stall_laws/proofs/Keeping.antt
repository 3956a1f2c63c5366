-- Each step of a node leaves its calls going on.
use Rattle.std.proofs.Common.{◌≡◌, ◌==◌, ℕ, zero, suc, Bool, true, false, cond, List, [], ◌∷◌, ◌++◌}
use Rattle.std.proofs.Common.{length, map, Option, Some, None, slice_get, refl, sym, ap, ◌∙◌, subst}
use Rattle.std.specs.Prelude.{option_and_then, option_map, flat_map}
use Rattle.std.specs.List.{find, AllByRecursion}
use Rattle.packet_header.specs.Reading.{message_of, body_of}
use Rattle.packet_header.specs.declared.packet.Kind.{Kind}
use Rattle.packet_header.specs.declared.packet.Kind.TheVariants.{Request, Rfr, Cr, Response}
use Rattle.packet_header.specs.declared.packet.MessageHeader.{MessageHeader}
use Rattle.rpc_base.specs.declared.event.Event.{Event}
use Rattle.rpc_base.specs.declared.event.Event.TheVariants.{Begun, Posted, Flushed, Broken}
use Rattle.rpc_base.specs.declared.event.Event.TheVariants.{DonePeerLost, Dropped, Ran, Given}
use Rattle.rpc_base.specs.declared.state.DropReason.TheVariants.{StaleLife}
use Rattle.rpc_base.specs.declared.fact.Fact.{Fact}
use Rattle.rpc_base.specs.declared.owner.Owner.{Owner}
use Rattle.rpc_base.specs.declared.owner.Owner.TheVariants.{Ask, Reply}
use Rattle.rpc_laws.specs.declared.rows.ClientRow.{ClientRow}
use Rattle.rpc_laws.specs.declared.rows.ClientRow.TheVariants.{Drops as DropsReply}
use Rattle.rpc_laws.specs.declared.rows.ClientRow.TheVariants.{Takes as TakesReply}
use Rattle.rpc_laws.specs.declared.rows.ServerRow.{ServerRow}
use Rattle.rpc_laws.specs.declared.rows.ServerRow.TheVariants.{Drops, Begins, Takes, Repeats}
use Rattle.rpc_laws.specs.declared.rows.TimerRow.{TimerRow}
use Rattle.rpc_laws.specs.declared.rows.TimerRow.TheVariants.{Waits, RollsBack, Breaks}
use Rattle.rpc_laws.specs.declared.tables.Call.{Call}
use Rattle.rpc_laws.specs.declared.tables.Client.{Client}
use Rattle.rpc_laws.specs.declared.tables.Job.{Job}
use Rattle.rpc_laws.specs.declared.tables.Lists.{Lists}
use Rattle.rpc_laws.specs.declared.tables.Progress.{Progress}
use Rattle.rpc_laws.specs.declared.tables.Queued.{Queued}
use Rattle.rpc_laws.specs.declared.tables.Served.{Served}
use Rattle.rpc_laws.specs.declared.tables.Server.{Server}
use Rattle.rpc_laws.specs.declared.tables.Timed.{Timed}
use Rattle.rpc_laws.specs.Calls.{is_call, is_waiting}
use Rattle.rpc_laws.specs.ClientTable.{client_row, reply_facts}
use Rattle.rpc_laws.specs.ControlSteps.{EndsOutdated, Hears, HearsAll, Retries, TimesSession}
use Rattle.rpc_laws.specs.ControlSteps.{TimesAll}
use Rattle.rpc_laws.specs.Facts.{plain, with_two}
use Rattle.rpc_laws.specs.Front.{front_header, front_body}
use Rattle.rpc_laws.specs.GoBackN.{Watches, WatchesSession, Each, flushes_of, row_facts, row_of}
use Rattle.rpc_laws.specs.GoBackN.{progress_facts, call_facts, client_facts, numbers_in}
use Rattle.rpc_laws.specs.Jobs.{are_full}
use Rattle.rpc_laws.specs.NodeLists.{after, after_all}
use Rattle.rpc_laws.specs.PollOrder.{answer_posted, awaited, FinishesOne, FinishesSome, Handles}
use Rattle.rpc_laws.specs.PollOrder.{HandlesAll, NoMoreToHandle}
use Rattle.rpc_laws.specs.PollOrder.{handled, handling_by, Serves, PostsAll, Sends, SendsSome}
use Rattle.rpc_laws.specs.PollOrder.{Closes, Poll}
use Rattle.rpc_laws.specs.PollOrder.{raised}
use Rattle.rpc_laws.specs.Posting.{if_connected, beginning, posting, next_begun, next_posted}
use Rattle.rpc_laws.specs.Posting.{next_packet, next_turn, lowest_free, can_post}
use Rattle.rpc_laws.specs.Queues.{flush_facts, numbers_of}
use Rattle.rpc_laws.specs.Requests.{is_server, in_slot_of}
use Rattle.rpc_laws.specs.ServerTable.{is_last, took_facts, whole_ask, flushes, flushes_older}
use Rattle.rpc_laws.specs.ServerTable.{makes_job, served_facts, server_row}
use Rattle.rpc_laws.specs.Sessions.{is_client, is_connected, clients_after}
use Rattle.rpc_laws.specs.Steps.{Rel, Then, Chain, none, more, Until, Visits, NotesNext, NotesAll}
use Rattle.rpc_outside.specs.declared.service.Mode.{Mode}
use Rattle.node_laws.specs.Valid.{Valid, client_no}
use Rattle.node_laws.proofs.Allowed.{AllAllowed}
use Rattle.node_laws.proofs.ControlLemmas.{hears-all-lawful}
use Rattle.node_laws.proofs.LeadsLemmas.{Lawful, LeadsAt, valid-at, valid_after_all, lawful-goes}
use Rattle.node_laws.proofs.LeadsLemmas.{lawful-then, lawful-chain, lawful-until, lawful-visits}
use Rattle.node_laws.proofs.LeadsLemmas.{lawful-each}
use Rattle.node_laws.proofs.NumberLemmas.{numbered-found}
use Rattle.node_laws.proofs.PostLemmas.{begun-by, posted-by, posts-lawful}
use Rattle.node_laws.proofs.RunLaws.{handles-lawful, finishes-lawful, finishes-some, closes-lawful}
use Rattle.node_laws.proofs.RunLaws.{sends-lawful}
use Rattle.node_laws.proofs.TimerLemmas.{watches-lawful, retries-lawful, timers-lawful}
use Rattle.end_laws.proofs.ListLemmas.{all-append}
use Rattle.end_laws.proofs.ReplySteps.{front-is}
use Rattle.packet_header.specs.declared.packet.ControlHeader.{ControlHeader}
use Rattle.rpc_base.specs.declared.state.SessionState.{SessionState}
use Rattle.rpc_base.specs.declared.state.SessionState.TheVariants.{Closing as IsClosing, Connecting}
use Rattle.rpc_laws.specs.declared.rows.ControlRow.{ControlRow}
use Rattle.rpc_laws.specs.declared.rows.ControlRow.TheVariants.{Accepts, Closes as ClosesRow}
use Rattle.rpc_laws.specs.declared.rows.ControlRow.TheVariants.{Connects, Declines, Ends, Fails}
use Rattle.rpc_laws.specs.declared.rows.ControlRow.TheVariants.{Starves}
use Rattle.rpc_laws.specs.declared.rows.RetryRow.{RetryRow}
use Rattle.rpc_laws.specs.declared.rows.RetryRow.TheVariants.{Asks, GivesUp, Rests}
use Rattle.rpc_laws.specs.ControlSteps.{control_fact, given_up, own_request, RetriesAs, RetriesBy}
use Rattle.rpc_laws.specs.ControlSteps.{RetriesOf}
use Rattle.rpc_laws.specs.ControlSteps.{retry_row, Speaks, SpeaksIf}
use Rattle.rpc_laws.specs.ControlTable.{control_facts, control_reply, control_row, named_end}
use Rattle.rpc_laws.specs.ControlTable.{session_end}
use Rattle.rpc_laws.specs.ControlTable.{session_flushes}
use Rattle.rpc_laws.specs.Requests.{in_slot_of}
use Rattle.rpc_laws.specs.ServerTable.{flushes}
use Rattle.stall_laws.proofs.OrderSteps.{IsFlush, calls-all}
use Rattle.stall_laws.proofs.Endings.{taken-ongoing, breaks-ongoing}
use Rattle.stall_laws.proofs.Ongoing.{OngoingNode, AllMild, is_mild, ongoing-all}

abbrev pub Keeps : Rel → Type 0
Keeps P = (s : Timed) (x : List Fact) (t : Timed) → Valid s.lists → OngoingNode s.lists
    → P s x t → OngoingNode t.lists

-- a step, and then others
pub keeps-then : (P Q : Rel) → Lawful P → Keeps P → Keeps Q → Keeps (Then P Q)
keeps-then P Q law p q s x t v on h =
    q h.between h.back t
    (valid-at s h.front h.between v (law s h.front h.between v h.first))
    (p s h.front h.between v on h.first) h.second

pub keeps-chain : (P : Rel) → Lawful P → Keeps P → Keeps (Chain P)
keeps-chain P law p s x t v on none = on
keeps-chain P law p s x t v on (more {x = front} {t = between} c y u h) =
    p between y u (valid-at s front between v (lawful-chain P law s v c))
    (keeps-chain P law p s front between v on c) h

pub keeps-until : (P : Rel) (Over : Timed → Type 0) → Lawful P → Keeps P → Keeps (Until P Over)
keeps-until P Over law p s x t v on h = keeps-chain P law p s x t v on h.steps

same-node : (s t : Timed) → t ≡ s → OngoingNode s.lists → OngoingNode t.lists
same-node s t e on = subst (λ (u : Timed). OngoingNode u.lists) (sym e) on

pub keeps-visits : (P : ℕ → Rel) → ((n : ℕ) → Lawful (P n)) → ((n : ℕ) → Keeps (P n)) → (n : ℕ) → Keeps (Visits P n)
keeps-visits P law p zero s x t v on h = same-node s t h.1 on
keeps-visits P law p (suc n) s x t v on h =
    keeps-then (Visits P n) (P n) (lawful-visits P law n) (keeps-visits P law p n)
    (p n) s x t v on h

pub keeps-each : (P : ℕ → Rel) → ((n : ℕ) → Lawful (P n)) → ((n : ℕ) → Keeps (P n)) → (ns : List ℕ) → Keeps (Each P ns)
keeps-each P law p [] s x t v on h = same-node s t h.1 on
keeps-each P law p (n ∷ ns) s x t v on h =
    keeps-then (P n) (Each P ns) (law n) (p n) (keeps-each P law p ns) s x t v on h

pub mild-step : (s : Timed) (x : List Fact) (t : Timed) → LeadsAt s x t → AllMild x
    → OngoingNode s.lists → OngoingNode t.lists
mild-step s x t l m on = rw (l.lists) (ongoing-all s.clock s.lists x l.all m on)

abbrev MildAt : Fact → Type 0
MildAt f = is_mild f.event ≡ true

-- a job is finished
posted-mild : (me : ℕ) (job : Job) (o : Option ℕ) → AllMild (answer_posted me job o)
posted-mild me job None = tt
posted-mild me job (Some k) = (refl, tt)

finishes-keeps : Keeps FinishesOne
finishes-keeps s x t v on h =
    mild-step s x t (finishes-lawful h.session h.request s x t v h.finishes)
    (rw h.finishes.facts (refl, posted-mild s.lists.me h.finishes.job (awaited h.finishes.job s.lists.servers))) on

-- the front of the ring is handled
flush-mild : (me : ℕ) (owner : Owner) (ks : List ℕ) → AllMild (map (λ k. plain me (Flushed owner k)) ks)
flush-mild me owner [] = tt
flush-mild me owner (k ∷ ks) = (refl, flush-mild me owner ks)

older-mild : (me session : ℕ) (queued : List Queued) (old : Option Served) → AllMild (flushes me queued session old)
older-mild me session queued None = tt
older-mild me session queued (Some q) =
    flush-mild me (Reply session q.number) (numbers_of (Reply session q.number) queued)

begins-mild : (me r : ℕ) (queued : List Queued) (v : Option Server) → AllMild (flushes_older me queued v r)
begins-mild me r queued None = tt
begins-mild me r queued (Some v) = older-mild me v.way.number queued (find (in_slot_of r) v.slots)

brings-mild : (a b : Bool) (me : ℕ) (answer : List ℕ) (h : MessageHeader) (ask : List ℕ)
    → AllMild (cond a (plain me (Given h.session h.request) ∷ [])
    (cond b (with_two me (Ran h.session h.request h.req_type) ask answer ∷ []) []
    ++ plain me (Posted (Reply h.session h.request) h.number) ∷ []))
brings-mild true b me answer h ask = (refl, tt)
brings-mild false true me answer h ask = (refl, (refl, tt))
brings-mild false false me answer h ask = (refl, tt)

took-mild : (mode : Mode) (me : ℕ) (answer : List ℕ) (h : MessageHeader) (ask : List ℕ)
    → AllMild (took_facts mode me answer h ask)
took-mild mode me answer h ask = (refl, brings-mild (makes_job mode h) (is_last h) me answer h ask)

served-mild : (mode : Mode) (me : ℕ) (answer : List ℕ) (queued : List Queued) (v : Option Server)
    (h : MessageHeader) (body : List ℕ) (row : ServerRow)
    → AllMild (served_facts mode me answer queued v h body row)
served-mild mode me answer queued v h body (Drops why) = (refl, tt)
served-mild mode me answer queued v h body Begins =
    all-append MildAt (flushes_older me queued v h.request) _ (begins-mild me h.request queued v)
    (took-mild mode me answer h body)
served-mild mode me answer queued v h body Takes = took-mild mode me answer h (whole_ask v h.request body)
served-mild mode me answer queued v h body Repeats = (refl, (refl, tt))

reply-keeps : (clock : ℕ) (l : Lists) (h : MessageHeader) (x : Option Client) (row : ClientRow)
    → Valid l → OngoingNode l → front_header l.ring ≡ Some h
    → find (is_client h.session) l.clients ≡ x
    → AllAllowed clock l (reply_facts l.me x h (front_body l.ring) row)
    → OngoingNode (after_all clock l (reply_facts l.me x h (front_body l.ring) row))
reply-keeps clock l h x (DropsReply why) v on reads is a =
    ongoing-all clock l (reply_facts l.me x h (front_body l.ring) (DropsReply why)) a (refl, tt) on
reply-keeps clock l h x TakesReply v on reads is a =
    let m = a.0 in
    let same : Some m.client ≡ x = sym m.active.place.client ∙ is in
    subst (λ (y : Option Client). OngoingNode (after_all clock l (reply_facts l.me y h
    (front_body l.ring) TakesReply))) same
    (taken-ongoing clock l v on h m reads)

kind-keeps : (mode : ℕ → Mode) (lacks : Bool) (answer : List ℕ) (clock : ℕ) (l : Lists) (peer : ℕ)
    (h : MessageHeader) (k : Kind) → Valid l → OngoingNode l → front_header l.ring ≡ Some h
    → AllAllowed clock l (handling_by mode lacks answer k l peer h (front_body l.ring))
    → OngoingNode (after_all clock l (handling_by mode lacks answer k l peer h (front_body l.ring)))
kind-keeps mode lacks answer clock l peer h Request v on reads a =
    let found = find (is_server h.session) l.servers in
    ongoing-all clock l (handling_by mode lacks answer Request l peer h (front_body l.ring)) a
    (served-mild (mode h.req_type) l.me answer l.queued found h (front_body l.ring)
    (server_row (mode h.req_type) (are_full l.jobs) lacks found peer h)) on
kind-keeps mode lacks answer clock l peer h Rfr v on reads a =
    let found = find (is_server h.session) l.servers in
    ongoing-all clock l (handling_by mode lacks answer Rfr l peer h (front_body l.ring)) a
    (served-mild (mode h.req_type) l.me answer l.queued found h (front_body l.ring)
    (server_row (mode h.req_type) (are_full l.jobs) lacks found peer h)) on
kind-keeps mode lacks answer clock l peer h Cr v on reads a =
    reply-keeps clock l h (find (is_client h.session) l.clients)
    (client_row l.queued (find (is_client h.session) l.clients) peer h (length (front_body l.ring)))
    v on reads refl a
kind-keeps mode lacks answer clock l peer h Response v on reads a =
    reply-keeps clock l h (find (is_client h.session) l.clients)
    (client_row l.queued (find (is_client h.session) l.clients) peer h (length (front_body l.ring)))
    v on reads refl a

-- one for another life is dropped
handled-keeps : (mode : ℕ → Mode) (lacks : Bool) (answer : List ℕ) (clock : ℕ) (l : Lists)
    (peer : ℕ) (h : MessageHeader) (b : Bool) → Valid l → OngoingNode l
    → front_header l.ring ≡ Some h
    → AllAllowed clock l (cond b (handling_by mode lacks answer h.kind l peer h (front_body l.ring))
    (plain l.me (Dropped StaleLife) ∷ []))
    → OngoingNode (after_all clock l
    (cond b (handling_by mode lacks answer h.kind l peer h (front_body l.ring))
    (plain l.me (Dropped StaleLife) ∷ [])))
handled-keeps mode lacks answer clock l peer h true v on reads a =
    kind-keeps mode lacks answer clock l peer h h.kind v on reads a
handled-keeps mode lacks answer clock l peer h false v on reads a =
    ongoing-all clock l (plain l.me (Dropped StaleLife) ∷ []) a (refl, tt) on

handles-keeps : (mode : ℕ → Mode) → Keeps (Handles mode)
handles-keeps mode s x t v on h =
    let bytes = front-is s.lists.ring h.front h.is_front in
    let reads : front_header s.lists.ring ≡ Some h.header = ap message_of bytes ∙ h.reads in
    let facts : x ≡ handled mode h.lacks h.answer s.lists h.front.peer h.header
    (front_body s.lists.ring) = h.facts ∙ sym (ap (λ (b : List ℕ). handled mode h.lacks h.answer
    s.lists h.front.peer h.header (body_of b)) bytes) in
    let l = handles-lawful mode s x t v h in
    let all = subst (λ (y : List Fact). AllAllowed s.clock s.lists y) facts l.all in
    rw (l.lists, facts) (handled-keeps mode h.lacks h.answer s.clock s.lists h.front.peer h.header
    (h.header.to_life == s.lists.life) v on reads all)

-- session control
speaks-mild : (me peer : ℕ) (c : ControlHeader) (said : List Fact) → Speaks me peer c said
    → AllMild said
speaks-mild me peer c said s = rw (s.facts) (by s.taken)
  where
    by : (taken : Bool) → AllMild (control_fact taken me peer s.head ∷ [])
    by true = (refl, tt)
    by false = (refl, tt)

says-mild : (me peer : ℕ) (o : Option ControlHeader) (said : List Fact) → SpeaksIf me peer o said
    → AllMild said
says-mild me peer None said s = rw s tt
says-mild me peer (Some c) said s = speaks-mild me peer c said s

ends-mild : (me : ℕ) (queued : List Queued) (v : Server) (slots : List ℕ)
    → AllMild (flat_map (λ slot. flushes me queued v.way.number (find (in_slot_of slot) v.slots))
    slots)
ends-mild me queued v [] = tt
ends-mild me queued v (slot ∷ slots) =
    all-append MildAt (flushes me queued v.way.number (find (in_slot_of slot) v.slots)) _
    (by (find (in_slot_of slot) v.slots)) (ends-mild me queued v slots)
  where
    by : (o : Option Served) → AllMild (flushes me queued v.way.number o)
    by None = tt
    by (Some q) = flush-mild me (Reply v.way.number q.number)
        (numbers_of (Reply v.way.number q.number) queued)

end-mild : (me : ℕ) (queued : List Queued) (o : Option Server) → AllMild (session_end me queued o)
end-mild me queued None = tt
end-mild me queued (Some v) =
    all-append MildAt (session_flushes me queued v) _
    (ends-mild me queued v (0 ∷ 1 ∷ 2 ∷ 3 ∷ 4 ∷ 5 ∷ 6 ∷ 7 ∷ [])) (refl, tt)

row-mild : (l : Lists) (peer : ℕ) (c : ControlHeader) (row : ControlRow)
    → AllMild (control_facts l peer c row)
row-mild l peer c Declines = (refl, tt)
row-mild l peer c Starves = (refl, tt)
row-mild l peer c (Accepts t) = (refl, tt)
row-mild l peer c Ends = end-mild l.me l.queued (named_end peer c.client c.from_life c.server l.servers)
row-mild l peer c (Connects t) = (refl, tt)
row-mild l peer c Fails = (refl, tt)
row-mild l peer c ClosesRow = (refl, tt)
row-mild l peer c _ = tt

hears-mild : (l : Lists) (peer : ℕ) (c : ControlHeader) (row : ControlRow) (said : List Fact)
    → SpeaksIf l.me peer (control_reply l.life c row) said
    → AllMild (control_facts l peer c row ++ said)
hears-mild l peer c row said s =
    all-append MildAt (control_facts l peer c row) said (row-mild l peer c row)
    (says-mild l.me peer (control_reply l.life c row) said s)

gives-mild : (me : ℕ) (state : SessionState) (number : ℕ)
    → AllMild (map (plain me) (given_up state number))
gives-mild me Connecting number = (refl, tt)
gives-mild me IsClosing number = (refl, tt)
gives-mild me _ number = tt

retry-mild : (row : RetryRow) (me : ℕ) (x : Client) (c : ControlHeader) (facts : List Fact)
    → RetriesBy row me x c facts → AllMild facts
retry-mild Rests me x c facts r = rw r tt
retry-mild Asks me x c facts r = speaks-mild me x.way.peer c facts r
retry-mild GivesUp me x c facts r = rw r (gives-mild me x.state x.way.number)

retries-as : (clock timeout me : ℕ) (x : Client) (o : Option ControlHeader) (facts : List Fact)
    → RetriesAs o clock timeout me x facts → AllMild facts
retries-as clock timeout me x None facts r = rw r tt
retries-as clock timeout me x (Some c) facts r =
    retry-mild (retry_row clock timeout x.sends x.sent_at) me x c facts r

retries-mild : (clock timeout me own : ℕ) (x : Option Client) (facts : List Fact)
    → RetriesOf clock timeout me own x facts → AllMild facts
retries-mild clock timeout me own None facts r = rw r tt
retries-mild clock timeout me own (Some x) facts r =
    retries-as clock timeout me x (own_request own x) facts r

outdated-mild : (peer : ℕ) (c : ControlHeader) (s : Timed) (x : List Fact) (t : Timed)
    → Chain (EndsOutdated peer c) s x t → AllMild x
outdated-mild peer c s x t none = tt
outdated-mild peer c s x t (more {x = front} {t = between} chain y u e) =
    all-append MildAt front y (outdated-mild peer c s front between chain)
    (rw e.facts (end-mild between.lists.me between.lists.queued (Some e.server)))

heard-mild : (s : Timed) (x : List Fact) (t : Timed) → Hears s x t → AllMild x
heard-mild s x t h =
    let rest = h.steps.second in
    let peer = h.front.peer in
    let between = rest.between in
    let l = between.lists in
    let ends = outdated-mild peer h.header h.steps.between rest.front between rest.first.steps in
    let row = control_row rest.second.lacks peer h.header l in
    let answers : AllMild rest.back =
    rw (rest.second.facts) (hears-mild l peer h.header row rest.second.said rest.second.speaks) in
    let back : AllMild h.steps.back =
    rw (rest.joined) (all-append MildAt rest.front rest.back ends answers) in
    rw (h.steps.joined) (all-append MildAt h.steps.front h.steps.back
    (rw (h.steps.first.facts) (refl, tt)) back)

hears-keeps : Keeps HearsAll
hears-keeps s x t v on h = mild-step s x t (hears-all-lawful s x t v h) (all-heard s x t h.steps) on
  where
    all-heard : (s : Timed) (x : List Fact) (t : Timed) → Chain Hears s x t → AllMild x
    all-heard s x t none = tt
    all-heard s x t (more {x = front} {t = between} c y u h) =
        all-append MildAt front y (all-heard s front between c) (heard-mild between y u h)

-- the timers
all-mild : (me s : ℕ) (x : List Fact) → AllByRecursion (IsFlush me s) x → AllMild x
all-mild me s [] h = tt
all-mild me s (f ∷ x) h = (ap is_mild h.0.event, all-mild me s x h.1)

flush-clients : (clock me s : ℕ) (l : Lists) (x : List Fact) → AllByRecursion (IsFlush me s) x
    → (after_all clock l x).clients ≡ l.clients
flush-clients clock me s l [] h = refl
flush-clients clock me s l (f ∷ x) h =
    flush-clients clock me s (after clock l f) x h.1
    ∙ ap (λ (e : Event). clients_after clock e f.first (front_header l.ring) (front_body l.ring) l.clients)
    h.0.event

split-allowed : (clock : ℕ) (l : Lists) (x y : List Fact) → AllAllowed clock l (x ++ y)
    → AllAllowed clock l x × AllAllowed clock (after_all clock l x) y
split-allowed clock l [] y a = (tt, a)
split-allowed clock l (f ∷ x) y a = let rest = split-allowed clock (after clock l f) x y a.1 in ((a.0, rest.0), rest.1)

after-append : (clock : ℕ) (l : Lists) (x y : List Fact) → after_all clock l (x ++ y) ≡ after_all clock
    (after_all clock l x) y
after-append clock l [] y = refl
after-append clock l (f ∷ x) y = after-append clock (after clock l f) x y

row-keeps : (clock : ℕ) (l : Lists) (x : Client) (number : ℕ) (p : Progress) (row : TimerRow) → Valid l
    → OngoingNode l → find (is_client x.way.number) l.clients ≡ Some x
    → AllAllowed clock l (row_facts l.me l.queued x number p row)
    → OngoingNode (after_all clock l (row_facts l.me l.queued x number p row))
row-keeps clock l x number p Waits v on found a = on
row-keeps clock l x number p RollsBack v on found a =
    ongoing-all clock l (row_facts l.me l.queued x number p RollsBack) a
    (all-append MildAt (flush_facts l.me l.queued (Ask x.way.number p.request)) _
    (flush-mild l.me (Ask x.way.number p.request) (numbers_of (Ask x.way.number p.request) l.queued)) (refl, tt)) on
row-keeps clock l x number p Breaks v on found a =
    let flushing = flat_map (λ c. flushes_of l.me x.way.number l.queued c.progress) x.calls in
    let losing = plain l.me (Broken x.way.number) ∷ map (λ c. plain l.me (DonePeerLost c.what.number)) x.calls in
    let are = calls-all l.me x.way.number l.queued x.calls in
    let both = split-allowed clock l flushing losing a in
    let l1 = after_all clock l flushing in
    let mild = all-mild l.me x.way.number flushing are in
    let on1 = ongoing-all clock l flushing both.0 mild on in
    let same = flush-clients clock l.me x.way.number l flushing are in
    rw (after-append clock l flushing losing)
    (breaks-ongoing clock l1 l.me x x.calls (valid_after_all clock l flushing v both.0) on1 both.1
    (ap (find (is_client x.way.number)) same ∙ found) refl)

progress-keeps : (clock timeout : ℕ) (l : Lists) (x : Client) (number : ℕ) (p : Option Progress) → Valid l
    → OngoingNode l → find (is_client x.way.number) l.clients ≡ Some x
    → AllAllowed clock l (progress_facts clock timeout l.me l.queued x number p)
    → OngoingNode (after_all clock l (progress_facts clock timeout l.me l.queued x number p))
progress-keeps clock timeout l x number None v on found a = on
progress-keeps clock timeout l x number (Some p) v on found a =
    row-keeps clock l x number p (row_of clock timeout x.way.number l.queued p) v on found a

call-keeps : (clock timeout : ℕ) (l : Lists) (x : Client) (c : Option Call) → Valid l
    → OngoingNode l → find (is_client x.way.number) l.clients ≡ Some x
    → AllAllowed clock l (call_facts clock timeout l.me l.queued x c)
    → OngoingNode (after_all clock l (call_facts clock timeout l.me l.queued x c))
call-keeps clock timeout l x None v on found a = on
call-keeps clock timeout l x (Some c) v on found a =
    progress-keeps clock timeout l x c.what.number c.progress v
    on found a

client-keeps : (clock timeout number i : ℕ) (l : Lists) (x : Option Client) → Valid l → OngoingNode l
    → slice_get l.clients i ≡ x → AllAllowed clock l (client_facts clock timeout l.me l.queued number x)
    → OngoingNode (after_all clock l (client_facts clock timeout l.me l.queued number x))
client-keeps clock timeout number i l None v on is a = on
client-keeps clock timeout number i l (Some x) v on is a =
    call-keeps clock timeout l x (find (is_call number) x.calls) v on
    (numbered-found client_no 0 i l.clients x v.numbered is) a

watches-keeps : (timeout i number : ℕ) → Keeps (Watches timeout i number)
watches-keeps timeout i number s x t v on h =
    let l = watches-lawful timeout i number s x t v h in
    let all = subst (λ (y : List Fact). AllAllowed s.clock s.lists y) h.facts l.all in
    rw (l.lists, h.facts) (client-keeps s.clock timeout number i s.lists
    (slice_get s.lists.clients i) v on refl all)

retries-keeps : (timeout i : ℕ) → Keeps (Retries timeout i)
retries-keeps timeout i s x t v on h =
    mild-step s x t (retries-lawful timeout i s x t v h)
    (retries-mild s.clock timeout s.lists.me s.lists.life (slice_get s.lists.clients i) x h.facts)
    on

times-keeps : Keeps TimesAll
times-keeps s x t v on h =
    keeps-visits (TimesSession s.lists.timeout)
    (λ i. lawful-then (Retries s.lists.timeout i) (WatchesSession s.lists.timeout i)
    (retries-lawful s.lists.timeout i) (session-lawful s.lists.timeout i))
    (λ i. keeps-then (Retries s.lists.timeout i) (WatchesSession s.lists.timeout i)
    (retries-lawful s.lists.timeout i) (retries-keeps s.lists.timeout i)
    (λ s2 x t v on h. keeps-each (Watches s.lists.timeout i) (watches-lawful s.lists.timeout i)
    (watches-keeps s.lists.timeout i) (numbers_in (slice_get s2.lists.clients i)) s2 x t v on h))
    (length s.lists.clients) s x t v on h
  where
    session-lawful : (timeout i : ℕ) → Lawful (WatchesSession timeout i)
    session-lawful timeout i s x t v h =
        lawful-each (Watches timeout i) (watches-lawful timeout i) (numbers_in (slice_get s.lists.clients i)) s x t v h

-- what begins next, and what is posted next
pub record BeginsAt (i : ℕ) (l : Lists) (e : Event) : Type 0 where
  pub client : Client
  pub is_there : slice_get l.clients i ≡ Some client
  pub call : Call
  pub waits : find is_waiting client.calls ≡ Some call
  pub request : ℕ
  pub event : e ≡ Begun call.what.number request

pub record PostsAt (i : ℕ) (l : Lists) (e : Event) : Type 0 where
  pub client : Client
  pub is_there : slice_get l.clients i ≡ Some client
  pub request : ℕ
  pub number : ℕ
  pub event : e ≡ Posted (Ask client.way.number request) number

when-on : (b : Bool) (o : Option Event) (e : Event) → cond b o None ≡ Some e → o ≡ Some e
when-on true o e h = h
when-on false o e h = cc

when-off : (b : Bool) (o : Option Event) (e : Event) → cond b None o ≡ Some e → o ≡ Some e
when-off true o e h = cc
when-off false o e h = h

pub begins-at : (i : ℕ) (l : Lists) (e : Event) → next_begun i l ≡ Some e → BeginsAt i l e
begins-at i l e h = client (slice_get l.clients i) refl h
  where
    slot : (x : Client) (c : Call) → slice_get l.clients i ≡ Some x → find is_waiting x.calls ≡ Some c → (o : Option ℕ)
        → option_map (λ slot. Begun c.what.number (next_turn x.turns slot)) o ≡ Some e → BeginsAt i l e
    slot x c is waits None k = cc
    slot x c is waits (Some n) k =
        record { client = x; is_there = is; call = c; waits = waits; request = next_turn x.turns n; event = cc }

    call : (x : Client) (o : Option Call) → slice_get l.clients i ≡ Some x → find is_waiting x.calls ≡ o
        → option_and_then (λ c. option_map (λ slot. Begun c.what.number (next_turn x.turns slot))
        (lowest_free x.calls)) o ≡ Some e → BeginsAt i l e
    call x None is waits k = cc
    call x (Some c) is waits k = slot x c is waits (lowest_free x.calls) k

    client : (o : Option Client) → slice_get l.clients i ≡ o → option_and_then (if_connected beginning) o ≡ Some e
        → BeginsAt i l e
    client None is k = cc
    client (Some x) is k = call x (find is_waiting x.calls) is refl (when-on (is_connected x.state) (beginning x) e k)

pub posts-at : (i : ℕ) (l : Lists) (e : Event) → next_posted i l ≡ Some e → PostsAt i l e
posts-at i l e h = client (slice_get l.clients i) refl h
  where
    packet : (x : Client) → slice_get l.clients i ≡ Some x → (p : Option Progress)
        → next_packet x.way.number p ≡ Some e → PostsAt i l e
    packet x is None k = cc
    packet x is (Some p) k =
        record { client = x; is_there = is; request = p.request; number = p.posted; event = cc }

    call : (x : Client) (o : Option Call) → slice_get l.clients i ≡ Some x
        → option_and_then (λ c. next_packet x.way.number c.progress) o ≡ Some e → PostsAt i l e
    call x None is k = cc
    call x (Some c) is k = packet x is c.progress k

    client : (o : Option Client) → slice_get l.clients i ≡ o → option_and_then (if_connected posting) o ≡ Some e
        → PostsAt i l e
    client None is k = cc
    client (Some x) is k =
        call x (find can_post x.calls) is (when-off (x.free == 0) _ e (when-on (is_connected x.state) (posting x) e k))

pub begun-one : (i : ℕ) → Lawful (NotesNext (next_begun i))
begun-one i s x t v h =
    lawful-goes s x t h.goes (rw h.facts (begun-by i s.lists h.event v h.is_next, tt))

pub posted-one : (i : ℕ) → Lawful (NotesNext (next_posted i))
posted-one i s x t v h =
    lawful-goes s x t h.goes (rw h.facts (posted-by i s.lists h.event v h.is_next, tt))

pub serves-lawful : (i : ℕ) → Lawful (Serves i)
serves-lawful i =
    lawful-then (NotesAll (next_begun i)) (NotesAll (next_posted i))
    (lawful-until (NotesNext (next_begun i)) _ (begun-one i))
    (lawful-until (NotesNext (next_posted i)) _ (posted-one i))

begun-keeps : (i : ℕ) → Keeps (NotesNext (next_begun i))
begun-keeps i s x t v on h =
    let b = begins-at i s.lists h.event h.is_next in
    mild-step s x t (begun-one i s x t v h) (rw h.facts (ap is_mild b.event, tt)) on

posted-keeps : (i : ℕ) → Keeps (NotesNext (next_posted i))
posted-keeps i s x t v on h =
    let b = posts-at i s.lists h.event h.is_next in
    mild-step s x t (posted-one i s x t v h) (rw h.facts (ap is_mild b.event, tt)) on

posts-keeps : Keeps PostsAll
posts-keeps s x t v on h =
    keeps-visits Serves serves-lawful (λ i. keeps-then (NotesAll (next_begun i)) (NotesAll (next_posted i))
    (lawful-until (NotesNext (next_begun i)) _ (begun-one i))
    (keeps-until (NotesNext (next_begun i)) _ (begun-one i) (begun-keeps i))
    (keeps-until (NotesNext (next_posted i)) _ (posted-one i) (posted-keeps i)))
    (length s.lists.clients) s x t v on h

sends-keeps : Keeps Sends
sends-keeps s x t v on h = mild-step s x t (sends-lawful s x t v h) (rw h.facts (refl, tt)) on

closes-keeps : Keeps Closes
closes-keeps s x t v on h = mild-step s x t (closes-lawful s x t v h) (rw h.facts (refl, tt)) on

-- a whole poll does
pub poll-keeps : (mode : ℕ → Mode) (now : ℕ) → Keeps (Poll mode now)
poll-keeps mode now s x t v on h =
    keeps-then FinishesSome (Then HearsAll (Then (HandlesAll mode) (Then TimesAll (Then PostsAll
    (Then SendsSome Closes)))))
    finishes-some (keeps-chain FinishesOne (λ s x t v h. finishes-lawful h.session h.request s x t v h.finishes)
    finishes-keeps)
    (keeps-then HearsAll (Then (HandlesAll mode) (Then TimesAll (Then PostsAll (Then SendsSome Closes))))
    hears-all-lawful hears-keeps
    (keeps-then (HandlesAll mode) (Then TimesAll (Then PostsAll (Then SendsSome Closes)))
    (lawful-until (Handles mode) NoMoreToHandle (handles-lawful mode))
    (keeps-until (Handles mode) NoMoreToHandle (handles-lawful mode) (handles-keeps mode))
    (keeps-then TimesAll (Then PostsAll (Then SendsSome Closes)) timers-lawful times-keeps
    (keeps-then PostsAll (Then SendsSome Closes) posts-lawful posts-keeps
    (keeps-then SendsSome Closes (λ s x t v h. lawful-chain Sends sends-lawful s v h)
    (keeps-chain Sends sends-lawful sends-keeps) closes-keeps)))))
    (raised now s) x t v on h
