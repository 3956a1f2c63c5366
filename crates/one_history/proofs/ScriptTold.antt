-- Each step of a node, and each command of a script, adds facts with no other bytes than their
-- lines show, and none of the network but its own.
use Rattle.std.proofs.Common.{◌≡◌, ℕ, zero, suc, ◌+◌, nat_lt, Bool, true, false, List, [], ◌∷◌, ◌++◌}
use Rattle.std.proofs.Common.{cond, length, map, Option, Some, None, slice_get, refl, sym, subst}
use Rattle.std.specs.Bool.{MatchBool}
use Rattle.std.specs.List.{find, list_all}
use Rattle.network_model.specs.declared.stage.Stage.{Stage}
use Rattle.packet_header.specs.Reading.{body_of}
use Rattle.packet_header.specs.declared.packet.ControlHeader.{ControlHeader}
use Rattle.report_text.specs.Told.{AllTold, IsTold}
use Rattle.rpc_base.specs.declared.event.Event.{Event}
use Rattle.rpc_base.specs.declared.event.Event.TheVariants.{Carried, Heard, Lost, Made, Missed, Repeated}
use Rattle.rpc_base.specs.declared.event.Event.TheVariants.{Restarted, Ticked}
use Rattle.rpc_base.specs.declared.fact.Fact.{Fact}
use Rattle.rpc_laws.specs.declared.rows.RetryRow.{RetryRow}
use Rattle.rpc_laws.specs.declared.rows.RetryRow.TheVariants.{Rests, Asks as AsksAgain, GivesUp}
use Rattle.rpc_laws.specs.declared.tables.Client.{Client}
use Rattle.rpc_laws.specs.declared.tables.Lists.{Lists}
use Rattle.rpc_laws.specs.declared.tables.Timed.{Timed}
use Rattle.rpc_laws.specs.declared.tables.WorkedJob.{WorkedJob}
use Rattle.rpc_laws.specs.ControlSteps.{AnswersControl, control_fact, EndsAllOutdated, EndsOutdated}
use Rattle.rpc_laws.specs.ControlSteps.{given_up, Hears, HearsAll, own_request}
use Rattle.rpc_laws.specs.ControlSteps.{Retries, RetriesAs, RetriesBy, RetriesOf, retry_row, Speaks}
use Rattle.rpc_laws.specs.ControlSteps.{SpeaksIf, TakesControl, TimesAll, TimesSession}
use Rattle.rpc_laws.specs.ControlTable.{control_facts, control_reply, control_row, outdated}
use Rattle.rpc_laws.specs.Deliveries.{Delivers}
use Rattle.rpc_laws.specs.Facts.{of_net, plain}
use Rattle.rpc_laws.specs.GoBackN.{Each, numbers_in, Watches, WatchesSession}
use Rattle.rpc_laws.specs.Groups.{Asks, client_refusal, Connects, disconnect_by, disconnect_fact}
use Rattle.rpc_laws.specs.Groups.{Disconnects, pair_refusal, pending, rate_by, rate_fact, SetsRate}
use Rattle.rpc_laws.specs.Groups.{state_of}
use Rattle.rpc_laws.specs.Pacing.{line}
use Rattle.rpc_laws.specs.PollOrder.{Closes, Finishes, Handles, HandlesAll, PollBy, PostsAll}
use Rattle.rpc_laws.specs.PollOrder.{raised, Sends, SendsAll, Serves}
use Rattle.rpc_laws.specs.Posting.{next_begun, next_posted}
use Rattle.rpc_laws.specs.Sessions.{is_client}
use Rattle.rpc_laws.specs.Steps.{Chain, more, none, NotesAll, NotesNext, Rel, Then, Until, Visits}
use Rattle.rpc_laws.specs.Working.{FinishesEach, FinishesWorked, waiting_of, work_of}
use Rattle.rpc_outside.specs.PlainAnswer.{plain_mode}
use Rattle.rpc_outside.specs.declared.service.Mode.{Mode}
use Rattle.script_grammar.specs.declared.line.Command.{Command}
use Rattle.script_grammar.specs.declared.line.Command.TheVariants.{Node, Pair, Connect, Disconnect}
use Rattle.script_grammar.specs.declared.line.Command.TheVariants.{Rate, Call, Poll as PollNode}
use Rattle.script_grammar.specs.declared.line.Command.TheVariants.{Arrive, Lose, Repeat, Tick, Work}
use Rattle.script_grammar.specs.declared.line.Command.TheVariants.{Restart, Settle}
use Rattle.script_grammar.specs.declared.line.Line.{Line}
use Rattle.sim_script.specs.FollowsScript.{ask_bytes, AtNode, Carries, Does, empty_stage, Follows}
use Rattle.sim_script.specs.FollowsScript.{FollowsFrom, is_polled, Joins, OfNet, or_missed, PairsBy}
use Rattle.sim_script.specs.FollowsScript.{PollsFirst, PollsNode, Round, Settles, Times, Unless}
use Rattle.sim_script.specs.FollowsScript.{WorksAndPolls, WorksFirst, WorksNode}
use Rattle.rpc_base.proofs.FirstLemmas.{all-each}
use Rattle.one_history.specs.NetFacts.{is_of_net}
use Rattle.one_history.proofs.FactsTold.{AllSound, IsSound, one-plain, told-append, told-ask}
use Rattle.one_history.proofs.FactsTold.{told-client, told-connect, told-control, told-delivery}
use Rattle.one_history.proofs.FactsTold.{told-finished}
use Rattle.one_history.proofs.FactsTold.{told-handled, told-map, told-net, told-plain, told-session-end, told-works}

-- each step of P adds such facts
abbrev pub Tells : Rel → Type 0
Tells P = (s : Timed) (x : List Fact) (t : Timed) → P s x t → AllSound x

pub told-by : (x y : List Fact) → x ≡ y → AllSound y → AllSound x
told-by x y e a = subst AllSound (sym e) a

tells-then : (P Q : Rel) → Tells P → Tells Q → Tells (Then P Q)
tells-then P Q p q s x t h =
    told-by x (h.front ++ h.back) h.joined (told-append h.front h.back
    (p s h.front h.between h.first) (q h.between h.back t h.second))

pub tells-chain : (P : Rel) → Tells P → (s : Timed) {x : List Fact} {t : Timed} → Chain P s x t
    → AllSound x
tells-chain P p s none = tt
tells-chain P p s (more {x = front} {t = between} c y u h) =
    told-append front y (tells-chain P p s c) (p between y u h)

tells-until : (P : Rel) (Over : Timed → Type 0) → Tells P → Tells (Until P Over)
tells-until P Over p s x t h = tells-chain P p s h.steps

tells-visits : (P : ℕ → Rel) → ((i : ℕ) → Tells (P i)) → (n : ℕ) → Tells (Visits P n)
tells-visits P p zero s x t h = told-by x [] h.0 tt
tells-visits P p (suc n) s x t h = tells-then (Visits P n) (P n) (tells-visits P p n) (p n) s x t h

tells-each : (P : ℕ → Rel) → ((i : ℕ) → Tells (P i)) → (is : List ℕ) → Tells (Each P is)
tells-each P p [] s x t h = told-by x [] h.0 tt
tells-each P p (i ∷ is) s x t h = tells-then (P i) (Each P is) (p i) (tells-each P p is) s x t h

tells-notes : (next : Lists → Option Event) → Tells (NotesAll next)
tells-notes next =
    tells-until (NotesNext next) (λ t. next t.lists ≡ None)
    (λ s x t h. told-by x (plain s.lists.me h.event ∷ []) h.facts (one-plain s.lists.me h.event))

-- session control
told-spoken : (taken : Bool) (me peer : ℕ) (head : List ℕ)
    → AllSound (control_fact taken me peer head ∷ [])
told-spoken true me peer head = ((tt, tt), tt)
told-spoken false me peer head = ((refl, tt), tt)

told-speaks : (me peer : ℕ) (h : ControlHeader) (x : List Fact) → Speaks me peer h x → AllSound x
told-speaks me peer h x a =
    told-by x (control_fact a.taken me peer a.head ∷ []) a.facts (told-spoken a.taken me peer a.head)

told-speaks-if : (me peer : ℕ) (o : Option ControlHeader) (x : List Fact) → SpeaksIf me peer o x
    → AllSound x
told-speaks-if me peer None x e = told-by x [] e tt
told-speaks-if me peer (Some h) x a = told-speaks me peer h x a

tells-takes : Tells TakesControl
tells-takes s x t h = told-by x (plain s.lists.me Heard ∷ []) h.facts (one-plain s.lists.me Heard)

tells-ends : (peer : ℕ) (header : ControlHeader) → Tells (EndsAllOutdated peer header)
tells-ends peer header =
    tells-until (EndsOutdated peer header) (λ t. outdated peer header t.lists ≡ None)
    (λ s x t h. told-by x _ h.facts (told-session-end s.lists.me s.lists.queued (Some h.server)))

tells-answers : (peer : ℕ) (header : ControlHeader) → Tells (AnswersControl peer header)
tells-answers peer header s x t h =
    let row = control_row h.lacks peer header s.lists in
    let facts = control_facts s.lists peer header row in
    told-by x (facts ++ h.said) h.facts (told-append facts h.said
    (told-control s.lists peer header row)
    (told-speaks-if s.lists.me peer (control_reply s.lists.life header row) h.said h.speaks))

tells-hears : Tells HearsAll
tells-hears =
    tells-until Hears (λ t. t.lists.inbox ≡ []) (λ s x t h.
    let peer = h.front.peer in
    tells-then TakesControl (Then (EndsAllOutdated peer h.header) (AnswersControl peer h.header))
    tells-takes (tells-then (EndsAllOutdated peer h.header) (AnswersControl peer h.header)
    (tells-ends peer h.header) (tells-answers peer h.header)) s x t h.steps)

told-retries-by : (r : RetryRow) (me : ℕ) (c : Client) (h : ControlHeader) (x : List Fact)
    → RetriesBy r me c h x → AllSound x
told-retries-by Rests me c h x e = told-by x [] e tt
told-retries-by AsksAgain me c h x a = told-speaks me c.way.peer h x a
told-retries-by GivesUp me c h x e =
    told-by x (map (plain me) (given_up c.state c.way.number)) e
    (told-map (plain me) (told-plain me) (given_up c.state c.way.number))

told-retries-as : (o : Option ControlHeader) (clock timeout me : ℕ) (c : Client) (x : List Fact)
    → RetriesAs o clock timeout me c x → AllSound x
told-retries-as None clock timeout me c x e = told-by x [] e tt
told-retries-as (Some h) clock timeout me c x a =
    told-retries-by (retry_row clock timeout c.sends c.sent_at) me c h x a

told-retries : (clock timeout me own : ℕ) (o : Option Client) (x : List Fact)
    → RetriesOf clock timeout me own o x → AllSound x
told-retries clock timeout me own None x e = told-by x [] e tt
told-retries clock timeout me own (Some c) x a =
    told-retries-as (own_request own c) clock timeout me c x a

tells-session : (timeout i : ℕ) → Tells (TimesSession timeout i)
tells-session timeout i =
    tells-then (Retries timeout i) (WatchesSession timeout i)
    (λ s x t h. told-retries s.clock timeout s.lists.me s.lists.life
    (slice_get s.lists.clients i) x h.facts)
    (λ s x t h. tells-each (Watches timeout i)
    (λ number v y u k. told-by y _ k.facts
    (told-client v.clock timeout v.lists.me v.lists.queued number
    (slice_get v.lists.clients i))) (numbers_in (slice_get s.lists.clients i)) s x t h)

tells-times : Tells TimesAll
tells-times s x t h =
    tells-visits (TimesSession s.lists.timeout) (tells-session s.lists.timeout) (length s.lists.clients) s x t h

-- the other steps of a poll
tells-handles : (mode : ℕ → Mode) → Tells (Handles mode)
tells-handles mode s x t h =
    told-by x _ h.facts (told-handled mode h.lacks h.answer s.lists h.front.peer h.header
    (body_of h.front.bytes))

pub tells-finishes : (session request : ℕ) → Tells (Finishes session request)
tells-finishes session request s x t h = told-by x _ h.facts (told-finished h.answer s.lists h.job)

tells-finishes-each : (ws : List WorkedJob) → Tells (FinishesEach ws)
tells-finishes-each [] s x t h = told-by x [] h.0 tt
tells-finishes-each (w ∷ ws) s x t h =
    tells-then (Finishes w.session w.request) (FinishesEach ws) (tells-finishes w.session w.request)
    (tells-finishes-each ws) s x t h

tells-posts : Tells PostsAll
tells-posts s x t h =
    tells-visits Serves (λ i. tells-then (NotesAll (next_begun i)) (NotesAll (next_posted i))
    (tells-notes (next_begun i)) (tells-notes (next_posted i))) (length s.lists.clients) s x t h

pub tells-sends : Tells Sends
tells-sends s x t h = told-by x _ h.facts ((tt, tt), tt)

tells-sends-all : Tells SendsAll
tells-sends-all = tells-until Sends (λ t. line t.clock t.lists.queued ≡ []) tells-sends

tells-closes : Tells Closes
tells-closes s x t h = told-by x _ h.facts (((refl, refl), tt), tt)

pub tells-poll-by : (finishing sending : Rel) → Tells finishing → Tells sending
    → (mode : ℕ → Mode) (now : ℕ) → Tells (PollBy finishing sending mode now)
tells-poll-by finishing sends finished sent mode now s x t h =
    let sending = tells-then sends Closes sent tells-closes in
    let posting = tells-then PostsAll (Then sends Closes) tells-posts sending in
    let timing = tells-then TimesAll (Then PostsAll (Then sends Closes)) tells-times posting in
    let handling = tells-then (HandlesAll mode)
    (Then TimesAll (Then PostsAll (Then sends Closes)))
    (λ v y u k. tells-chain (Handles mode) (tells-handles mode) v k.steps) timing in
    let hearing = tells-then HearsAll (Then (HandlesAll mode)
    (Then TimesAll (Then PostsAll (Then sends Closes)))) tells-hears handling in
    tells-then finishing (Then HearsAll
    (Then (HandlesAll mode) (Then TimesAll (Then PostsAll (Then sends Closes)))))
    finished hearing (raised now s) x t h

tells-poll : (worked : List WorkedJob) (mode : ℕ → Mode) (now : ℕ)
    → Tells (PollBy (FinishesWorked worked) SendsAll mode now)
tells-poll worked =
    tells-poll-by (FinishesWorked worked) SendsAll
    (λ v y u k. tells-finishes-each k.done v y u k.finishes) tells-sends-all

-- what an application asks of a node
pub tells-connects : (peer credits rate : ℕ) → Tells (Connects peer credits rate)
tells-connects peer credits rate s x t h =
    told-by x _ h.facts (told-connect (client_refusal credits s.lists) peer credits rate s.lists)

pub tells-disconnects : (session : ℕ) → Tells (Disconnects session)
tells-disconnects session s x t h =
    let client = find (is_client session) s.lists.clients in
    told-by x (disconnect_fact session s.lists ∷ []) h.facts
    (one-plain s.lists.me (disconnect_by (state_of client) session (pending client)))

pub tells-rates : (session rate : ℕ) → Tells (SetsRate session rate)
tells-rates session rate s x t h =
    told-by x (rate_fact session rate s.lists ∷ []) h.facts
    (one-plain s.lists.me (rate_by (state_of (find (is_client session) s.lists.clients)) session rate))

pub tells-asks : (session req_type : ℕ) (ask : List ℕ) (room : ℕ)
    → Tells (Asks session req_type ask room)
tells-asks session req_type ask room s x t h =
    told-by x _ h.facts (told-ask session req_type room ask s.lists, tt)

-- and what is delivered to it
pub tells-delivers : (peer : ℕ) (bytes : List ℕ) → Tells (Delivers peer bytes)
tells-delivers peer bytes s x t h = told-by x _ h.facts (told-delivery s.lists peer bytes, tt)

-- so does each group of a stage
abbrev Groups : Type 1
Groups = Stage → List Fact → Stage → Type 0

abbrev AllTell : Groups → Type 0
AllTell P = (s : Stage) (x : List Fact) (t : Stage) → P s x t → AllSound x

tell-at : (P : Rel) (n : ℕ) → Tells P → AllTell (AtNode P n)
tell-at P n p s x t h = p h.before x h.now h.step

tell-net : (e : Event) → is_of_net e ≡ true → AllTell (OfNet e)
tell-net e own s x t h = told-by x (of_net e ∷ []) h.facts (told-net e own, tt)

own-or-missed : (b : Bool) (i : ℕ) (e : Event) → is_of_net e ≡ true
    → is_of_net (cond b e (Missed i)) ≡ true
own-or-missed true i e own = own
own-or-missed false i e own = refl

tell-or-missed : (i : ℕ) (e : Event) → is_of_net e ≡ true → (s : Stage) (x : List Fact) (t : Stage)
    → OfNet (or_missed s.flight i e) s x t → AllSound x
tell-or-missed i e own s =
    tell-net (or_missed s.flight i e) (own-or-missed (nat_lt i (length s.flight)) i e own) s

tell-joins : (P Q : Groups) → AllTell P → AllTell Q → AllTell (Joins P Q)
tell-joins P Q p q s x t h =
    told-by x (h.group ++ h.rest) h.joined (told-append h.group h.rest
    (p s h.group h.between h.does) (q h.between h.rest t h.follows))

tell-times : (P : Groups) → AllTell P → (n : ℕ) → AllTell (Times P n)
tell-times P p zero s x t h = told-by x [] h.0 tt
tell-times P p (suc n) s x t h = tell-joins (Times P n) P (tell-times P p n) p s x t h

tell-poll : (n : ℕ) → AllTell (PollsNode n)
tell-poll n s x t h = tells-poll s.worked plain_mode s.clock h.before x h.now h.step

tell-polls : (n : ℕ) → AllTell (PollsFirst n)
tell-polls zero s x t h = told-by x [] h.0 tt
tell-polls (suc n) s x t h = tell-joins (PollsFirst n) (PollsNode n) (tell-polls n) (tell-poll n) s x t h

tell-work-all : (n : ℕ) → AllTell (WorksNode n)
tell-work-all n s x t h =
    told-by x _ h.step.facts (told-works h.before.lists.me (waiting_of s.worked h.before.lists))

tell-works : (n : ℕ) → AllTell (WorksFirst n)
tell-works zero s x t h = told-by x [] h.0 tt
tell-works (suc n) s x t h =
    tell-joins (WorksFirst n) (WorksNode n) (tell-works n) (tell-work-all n) s x t h

tell-carries : (i : ℕ) → AllTell (Carries i)
tell-carries i s x t h =
    let a = h.arrives in
    told-by x (of_net (Carried i) ∷ h.delivered) h.facts (
      told-net (Carried i) refl,
      told-by h.delivered _ a.step.facts
          (told-delivery a.before.lists h.copy.from h.copy.bytes, tt),
    )

tell-arrives : (i : ℕ) (b : Bool) (s : Stage) (x : List Fact) (t : Stage)
    → MatchBool b (Carries i s x t) (OfNet (Missed i) s x t) → AllSound x
tell-arrives i true s x t h = tell-carries i s x t h
tell-arrives i false s x t h = tell-net (Missed i) refl s x t h

tell-round : AllTell Round
tell-round s x t h =
    tell-joins (Times (Carries 0) (length s.flight)) (λ u. WorksAndPolls (length u.nodes) u)
    (tell-times (Carries 0) (tell-carries 0) (length s.flight))
    (λ u. tell-joins (WorksFirst (length u.nodes)) (PollsFirst (length u.nodes))
    (tell-works (length u.nodes)) (tell-polls (length u.nodes)) u) s x t h

tell-unless : (b : Bool) (P : Groups) → AllTell P → AllTell (Unless b P)
tell-unless true P p s x t h = told-by x [] h.0 tt
tell-unless false P p s x t h = p s x t h

tell-settles : (k : ℕ) → AllTell (Settles k)
tell-settles zero s x t h = told-by x [] h.0 tt
tell-settles (suc k) s x t h =
    told-by x (h.round ++ h.rest) h.joined (told-append h.round h.rest
    (tell-round s h.round h.between h.makes)
    (tell-unless (list_all (λ f. is_polled f.event) h.round) (Settles k)
    (tell-settles k) h.between h.rest t h.goes_on))

tell-pairs-by : (o r : Option Event) (a b credits : ℕ) (client server : Timed)
    → AllTell (PairsBy o r a b credits client server)
tell-pairs-by (Some e) r a b credits client server s x t h = told-by x _ h.0 (one-plain client.lists.me e)
tell-pairs-by None (Some e) a b credits client server s x t h =
    told-by x _ h.0 (one-plain server.lists.me e)
tell-pairs-by None None a b credits client server s x t h =
    let client_told : IsSound h.at_client = subst IsSound (sym h.for_client) ((refl, refl), tt) in
    let server_told : IsSound h.at_server = subst IsSound (sym h.for_server) ((refl, refl), tt) in
    told-by x (h.at_client ∷ h.at_server ∷ []) h.facts (client_told, (server_told, tt))

tell-does : (c : Command) → AllTell (Does c)
tell-does (Node ring) = λ s x t h. told-by x _ h.facts (one-plain (length s.nodes) (Made ring))
tell-does (Pair a b credits) =
    λ s x t h. tell-pairs-by (pair_refusal credits h.client.lists)
    (pair_refusal credits h.server.lists) a b credits h.client h.server s x t h.pairs
tell-does (Connect a b credits) =
    tell-at (Connects b credits 0) a (tells-connects b credits 0)
tell-does (Disconnect n session) = tell-at (Disconnects session) n (tells-disconnects session)
tell-does (Rate n session rate) = tell-at (SetsRate session rate) n (tells-rates session rate)
tell-does (Call n session y ask room) =
    tell-at (Asks session y (ask_bytes ask) room) n (tells-asks session y (ask_bytes ask) room)
tell-does (PollNode n) = tell-poll n
tell-does (Arrive i) = λ s. tell-arrives i (nat_lt i (length s.flight)) s
tell-does (Lose i) = tell-or-missed i (Lost i) refl
tell-does (Repeat i) = tell-or-missed i (Repeated i) refl
tell-does (Tick by) =
    λ s x t h. told-by x (of_net (Ticked by) ∷ []) h.facts (told-net (Ticked by) refl, tt)
tell-does (Work n i) =
    λ s x t h. told-by x _ h.step.facts (one-plain h.before.lists.me
    (work_of i (slice_get (waiting_of s.worked h.before.lists) i)))
tell-does (Settle rounds) = tell-settles rounds
tell-does (Restart n) =
    λ s x t h. told-by x _ h.facts (one-plain h.before.lists.me (Restarted (h.before.lists.life + 1)))

tell-follows : (lines : List Line) → AllTell (FollowsFrom lines)
tell-follows [] s x t h = told-by x [] h.0 tt
tell-follows (first ∷ lines) s x t h =
    tell-joins (Does first.command) (FollowsFrom lines) (tell-does first.command) (tell-follows lines) s x t h

-- and so does a whole script
pub all-sound : (script : List Line) (h : List Fact) → Follows script h → AllSound h
all-sound script h (end, f) = tell-follows script empty_stage h end f.commands

pub all-told : (script : List Line) (h : List Fact) → Follows script h → AllTold h
all-told script h f = all-each IsSound IsTold h (λ g s. s.0) (all-sound script h f)
