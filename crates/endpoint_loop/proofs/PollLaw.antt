-- A poll of an endpoint, put together from its steps.
use Rattle.std.proofs.Common.{◌≡◌, ℕ, ◌+◌, ◌≤◌, ◌||◌, ◌⊎◌, inl, inr, Bool, true, false, cond, Option, Some, None}
use Rattle.std.proofs.Common.{List, [], ◌∷◌, ◌++◌, length, refl, sym, ap, ap₂, ◌∙◌, subst, arith}
use Rattle.std.proofs.Common.{append-nil, append_assoc, suc}
use Rattle.std.specs.Prelude.{count_by, map, option_map, IfOk, IfSome, Result, Ok, Err}
use Rattle.std.specs.List.{AllByRecursion, filter}
use Rattle.std.proofs.lemmas.List.{map-append}
use Rattle.std.proofs.lemmas.List.Elements.{filter-append}
use Rattle.rpc_outside.specs.Recording.{Log}
use Rattle.client_core.specs.Handing.{Handed}
use Rattle.client_core.specs.Shown.{done_fact}
use Rattle.client_core.specs.declared.outcome.Done.{Done}
use Rattle.rpc_base.specs.Tables.{without_first}
use Rattle.rpc_base.specs.declared.event.Event.{Event}
use Rattle.rpc_base.specs.declared.event.Event.TheVariants.{Accepted, Again, Arrived, Begun, Broken}
use Rattle.rpc_base.specs.declared.event.Event.TheVariants.{ClosedHeard, Took}
use Rattle.rpc_base.specs.declared.event.Event.TheVariants.{ClosedUnheard, Declined, DonePeerLost}
use Rattle.rpc_base.specs.declared.event.Event.TheVariants.{Connected as IsConnected, Dropped, Ended}
use Rattle.rpc_base.specs.declared.event.Event.TheVariants.{FailedNoAnswer, FailedNoRoom, Flushed}
use Rattle.rpc_base.specs.declared.event.Event.TheVariants.{Heard, Polled, Posted, Ran, Restarted}
use Rattle.rpc_base.specs.declared.event.Event.TheVariants.{Rolled, Sent, Starved, Unsent}
use Rattle.rpc_base.specs.declared.fact.Fact.{Fact}
use Rattle.rpc_base.specs.declared.owner.Owner.{Owner}
use Rattle.rpc_base.specs.declared.owner.Owner.TheVariants.{Reply}
use Rattle.rpc_base.proofs.FirstLemmas.{all-both, all-left, found-holds}
use Rattle.rpc_laws.specs.declared.tables.Arrival.{Arrival}
use Rattle.rpc_laws.specs.declared.tables.Job.{Job}
use Rattle.rpc_laws.specs.declared.tables.Jobs.{Jobs}
use Rattle.rpc_laws.specs.declared.tables.Lists.{Lists}
use Rattle.rpc_laws.specs.declared.tables.Queued.{Queued}
use Rattle.rpc_laws.specs.declared.tables.Timed.{Timed}
use Rattle.rpc_laws.specs.ControlSteps.{HearsAll, TimesAll}
use Rattle.rpc_laws.specs.Facts.{with_two}
use Rattle.rpc_laws.specs.Jobs.{is_job}
use Rattle.rpc_laws.specs.NodeLists.{after_all}
use Rattle.rpc_laws.specs.PollOrder.{answer_posted, awaited, Closes, finished_facts, HandlesAll, PollBy}
use Rattle.rpc_laws.specs.Pacing.{line}
use Rattle.rpc_laws.specs.PollOrder.{PostsAll, raised, SendsSome}
use Rattle.rpc_laws.specs.Queues.{is_due, made_ready, replies, ring_after}
use Rattle.rpc_laws.specs.Service.{Answers, is_mode_inline, Serving, served_after, served_after_all}
use Rattle.rpc_laws.specs.Service.{rules_of}
use Rattle.rpc_laws.proofs.AnswerLemmas.{answers-append, served-append}
use Rattle.rpc_laws.proofs.RunLemmas.{me-after_all}
use Rattle.memory_count.specs.Faults.{HasCause, HasRisen, HasRisenBy}
use Rattle.memory_count.proofs.Risen.{both-risen}
use Rattle.rpc_outside.specs.Served.{Served, StandsForSome}
use Rattle.rpc_outside.specs.declared.service.Mode.{Mode}
use Rattle.rpc_outside.specs.declared.service.Mode.TheVariants.{Background}
use Rattle.rpc_outside.specs.declared.link.Link as Link
use Rattle.rpc_outside.specs.declared.service.Service as Service
use Rattle.worker_crew.specs.declared.workers.Workers as Workers
use Rattle.node_laws.specs.Kept.{Kept}
use Rattle.server_core.proofs.FlushLemmas.{grew-then}
use Rattle.worker_board.specs.declared.Parcel.{Parcel}
use Rattle.worker_crew.specs.Jobs.{Job as CrewJob}
use Rattle.node_steps.proofs.HandedGiven.{gave-then}
use Rattle.node_steps.specs.Changes.{◌⟶◌}
use Rattle.node_steps.specs.Lacks.{is_lack, lacks_in}
use Rattle.endpoint_loop.specs.Polls.{CountsTurn}
use Rattle.node_steps.specs.Counts.{is_handled, is_sent}
use Rattle.endpoint_loop.specs.declared.endpoint.poll.Turn.{Turn}
use Rattle.node_steps.specs.Jobs.{Agree, AllBackground, AreStaffed, FinishesThese, FinishesTaken}
use Rattle.node_steps.specs.Jobs.{MakesFinished, NoneBack, Staff, staff_of}
use Rattle.node_steps.specs.Packets.{HandlesWith, MakesAllHandled, WorksFor}
use Rattle.node_steps.specs.Packets.{with_all_given}
use Rattle.node_steps.specs.Notes.{is_end, is_end_event, Makes, MakesSent, sent_of}
use Rattle.endpoint_loop.specs.Polls.{FinishesBack, held_in, is_stopped}
use Rattle.node_steps.specs.Links.{left_one}
use Rattle.endpoint_loop.specs.Polls.{MakesPoll, PollsWith, SendsUntil, TellsOfPoll, turn_of}
use Rattle.endpoint_loop.specs.Polls.{turn_told, wire_of}
use Rattle.node_steps.specs.declared.told.Sending.{Sending}
use Rattle.endpoint_loop.specs.Endpoints.{asks_of, IsServing, IsStaffed, told, crew_of}
use Rattle.node_steps.specs.Seen.{Asks, asking, with_ask}
use Rattle.node_steps.specs.Requests.{AllServed, IsNoWant, SparesShort, job_named, ring_left}
use Rattle.node_steps.specs.Links.{FailedAs, HeldBack, is_unsent, LinkTook}
use Rattle.node_steps.specs.Links.{troubles_of}
use Rattle.node_steps.specs.Timers.{MakesTimes}
use Rattle.node_steps.specs.Control.{Listens}
use Rattle.node_steps.specs.declared.told.Listening.{Listening}
use Rattle.node_steps.specs.declared.told.Asking.{Asking}
use Rattle.node_steps.proofs.PacketCrew.{ones, staffed-still}
use Rattle.node_steps.proofs.ShortLemmas.{spares-append, spares-calm}
use Rattle.endpoint_loop.proofs.PollControl.{hears-still}
use Rattle.node_steps.proofs.NoteSteps.{sent-append, took-then}
use Rattle.node_steps.proofs.SendCounts.{both, held-more, link-both, link-still, nothing}
use Rattle.node_steps.proofs.NoteStill.{AllStill, closes-still, posts-still, sends-still}
use Rattle.node_steps.proofs.NoteStill.{still-append, still-none, times-still}
use Rattle.endpoint_loop.proofs.PollCrew.{same-told, staffed-told}
use Rattle.node_steps.proofs.NoteCounts.{handled-count, handled-elsewhere, handled-unsaid}
use Rattle.node_steps.proofs.NoteCounts.{handled-unsent, is_elsewhere, many, many-append}
use Rattle.node_steps.specs.Requests.{service_change}
use Rattle.node_steps.specs.Jobs.{staff_change}
use Rattle.endpoint_loop.specs.Bounds.{bounds}
use Rattle.node_steps.proofs.NoteCounts.{many-none, sent-after, sent-before, sent-count}

-- whether a handler ran, or a life began, in which none did
abbrev pub is_ran : Event → Bool
is_ran (Ran t r y) = true
is_ran (Restarted life) = true
is_ran _ = false

-- whether a packet came to the receive ring, or left it
abbrev moves_ring : Event → Bool
moves_ring (Arrived peer) = true
moves_ring (Took owner k) = true
moves_ring (Again owner k) = true
moves_ring (Dropped why) = true
moves_ring _ = false

-- where none did, none was dropped for want of memory
undropped : (x : List Fact) → AllStill moves_ring x → AllByRecursion IsNoWant x
undropped [] a = tt
undropped (f ∷ x) a = (
  (λ e. let no : true ≡ false = sym (ap moves_ring e) ∙ a.0 in cc),
  undropped x a.1,
)

-- and the ring is the same
same-ring : (e : Event) (bytes : List ℕ) (ring : List Arrival) → moves_ring e ≡ false
    → ring_after e bytes ring ≡ ring
same-ring (Arrived peer) bytes ring still = cc
same-ring (Took owner k) bytes ring still = cc
same-ring (Again owner k) bytes ring still = cc
same-ring (Dropped why) bytes ring still = cc
same-ring _ bytes ring still = refl

still-left : (ring : List Arrival) (x : List Fact) → AllStill moves_ring x → ring_left ring x ≡ ring
still-left ring [] still = refl
still-left ring (f ∷ x) still =
    ap (λ (r : List Arrival). ring_left r x) (same-ring f.event f.first ring still.0)
    ∙ still-left ring x still.1

-- so such facts before others spare what these do
spares-before : (v : Serving) (ring : List Arrival) (x y : List Fact) → AllStill moves_ring x
    → SparesShort v ring y → SparesShort v ring (x ++ y)
spares-before v ring x y still spared =
    spares-append v ring x y (spares-calm v ring x (undropped x still))
    (subst (λ (r : List Arrival). SparesShort v r y) (sym (still-left ring x still)) spared)

-- the posting of an answer
answer-still : (q : Event → Bool) → ((o : Owner) (k : ℕ) → q (Posted o k) ≡ false) → (me : ℕ)
    (job : Job) (k : Option ℕ) → AllStill q (answer_posted me job k)
answer-still q posted me job None = tt
answer-still q posted me job (Some k) = (posted (Reply job.session job.request) k, tt)

-- facts among which no handler ran have the answers, and serve nothing
pub still-answers : (v : Serving) (served : Served) (x : List Fact) → AllStill is_ran x
    → Answers v served x × (served_after_all v.mode served x ≡ served)
still-answers v served [] a = (tt, refl)
still-answers v served (f ∷ x) a = one f.event refl (still-answers v served x a.1)
  where
    one : (e : Event) → f.event ≡ e
        → Answers v served x × (served_after_all v.mode served x ≡ served)
        → Answers v served (f ∷ x) × (served_after_all v.mode served (f ∷ x) ≡ served)
    one (Ran t r y) e rest = let no : true ≡ false = sym (ap is_ran e) ∙ a.0 in cc
    one (Restarted life) e rest = let no : true ≡ false = sym (ap is_ran e) ∙ a.0 in cc
    one d e rest = rw e ((tt, rest.0), rest.1)

-- the jobs of parcels that are given stand behind the others
all-given-out : (ps : List Parcel) (jobs : Jobs)
    → (with_all_given ps jobs).out ≡ jobs.out ++ map job_named ps
all-given-out [] jobs = sym (append-nil jobs.out)
all-given-out (p ∷ ps) jobs =
    all-given-out ps (record jobs { given = jobs.given + 1; out = jobs.out ++ job_named p ∷ [] })
    ∙ append_assoc jobs.out (job_named p ∷ []) (map job_named ps)

-- jobs that are finished have the answers of the service
module _ (v : Serving) (answer : ℕ → List ℕ → List ℕ) (works : WorksFor answer v) where
  finish-answers : (served : Served) (s : Lists) (job : Job) → v.mode job.req_type ≡ Background
      → Answers v served (finished_facts (answer job.req_type job.ask) s job)
      × (served_after_all v.mode served (finished_facts (answer job.req_type job.ask) s job)
      ≡ served)
  finish-answers served s job type =
      let posted = answer_posted s.me job (awaited job s.servers) in
      let still = answer-still is_ran (λ o k. refl) s.me job (awaited job s.servers) in
      let rest = still-answers v served posted still in
      let one = still-answers v (served_after v.mode (Ran job.session job.request job.req_type)
      job.ask served) posted still in (
        (sym (works served job.req_type job.ask type), one.0),
        ap (λ (m : Mode). served_after_all v.mode (cond (is_mode_inline m)
            (served ++ (job.req_type, job.ask) ∷ []) served) posted) type ∙ rest.1,
      )

  -- and leave the other jobs
  finish-out : (clock : ℕ) (s : Lists) (job : Job) (bytes : List ℕ) (k : Option ℕ)
      → (after_all clock s (with_two s.me (Ran job.session job.request job.req_type) job.ask bytes
      ∷ answer_posted s.me job k)).jobs.out
      ≡ without_first (is_job job.session job.request) s.jobs.out
  finish-out clock s job bytes None = refl
  finish-out clock s job bytes (Some k) = refl

  these-answer : (ps : List Parcel) (s : Timed) (x : List Fact) (t : Timed)
      → AllBackground v.mode s.lists.jobs.out → FinishesThese answer ps s x t → (served : Served)
      → Answers v served x × (served_after_all v.mode served x ≡ served)
  these-answer [] s x t all h served = rw (h.0) (tt, refl)
  these-answer (p ∷ ps) s x t all h served =
      let one = h.first in
      let bg = found-holds (is_job p.session p.request) (λ j. v.mode j.req_type ≡ Background)
      s.lists.jobs.out one.job all one.is_out in
      let first : Answers v served h.front × (served_after_all v.mode served h.front ≡ served) =
      rw one.facts (finish-answers served s.lists one.job bg) in
      let out = ap (λ (u : Timed). u.lists.jobs.out) one.goes
      ∙ ap (λ (fs : List Fact). (after_all s.clock s.lists fs).jobs.out) one.facts
      ∙ finish-out s.clock s.lists one.job (answer one.job.req_type one.job.ask)
      (awaited one.job s.lists.servers) in
      let left : AllBackground v.mode h.between.lists.jobs.out =
      rw out (all-left (is_job one.job.session one.job.request)
      (λ j. v.mode j.req_type ≡ Background) s.lists.jobs.out all) in
      let rest = these-answer ps h.between h.back t left h.second served in
      rw h.joined (
        answers-append v served h.front h.back first.0 (rw first.1 rest.0),
        served-append v.mode served h.front h.back ∙ ap (λ (z : Served).
            served_after_all v.mode z h.back) first.1 ∙ rest.1,
      )

-- finishing jobs notes runs and postings alone
module _ (q : Event → Bool) (ran : (t r y : ℕ) → q (Ran t r y) ≡ false)
    (posted : (o : Owner) (k : ℕ) → q (Posted o k) ≡ false) where
  pub these-still : (answer : ℕ → List ℕ → List ℕ) (ps : List Parcel) (s : Timed) (x : List Fact)
      (t : Timed) → FinishesThese answer ps s x t → AllStill q x
  these-still answer [] s x t h = rw (h.0) tt
  these-still answer (p ∷ ps) s x t h =
      let one = h.first in
      let first : AllStill q h.front =
      rw one.facts (
        ran one.job.session one.job.request one.job.req_type,
        answer-still q posted s.lists.me one.job (awaited one.job s.lists.servers),
      ) in
      rw h.joined (still-append q h.front h.back first
      (these-still answer ps h.between h.back t h.second))

-- types stay where jobs are asked
asked-background : (mode : ℕ → Mode) (asks : Asks) (jobs : List Job) → AllBackground mode jobs
    → AllBackground mode (map (with_ask asks) jobs)
asked-background mode asks [] all = tt
asked-background mode asks (j ∷ jobs) all = (all.0, asked-background mode asks jobs all.1)

length-asked : (asks : Asks) (jobs : List Job) → length (map (with_ask asks) jobs) ≡ length jobs
length-asked asks [] = refl
length-asked asks (j ∷ jobs) = ap (λ (n : ℕ). suc n) (length-asked asks jobs)

-- however many jobs a node has out, the workers have
as-many : (answer : ℕ → List ℕ → List ℕ) (asks : Asks) (out : List CrewJob) (s : Timed)
    → Agree answer asks out s → length s.lists.jobs.out ≡ length out
as-many answer asks out s agree =
    sym (ones s.lists.jobs.out) ∙ agree.same (λ job. 1) ∙ ones out

-- the node keeps its number
these-me : (answer : ℕ → List ℕ → List ℕ) (ps : List Parcel) (s : Timed) (x : List Fact) (t : Timed)
    → FinishesThese answer ps s x t → t.lists.me ≡ s.lists.me
these-me answer [] s x t h = ap (λ (u : Timed). u.lists.me) h.1
these-me answer (p ∷ ps) s x t h =
    these-me answer ps h.between h.back t h.second
    ∙ ap (λ (u : Timed). u.lists.me) h.first.goes ∙ me-after_all s.clock s.lists h.front

-- and its receive ring
finish-ring : (clock : ℕ) (s : Lists) (job : Job) (bytes : List ℕ) (k : Option ℕ)
    → (after_all clock s (with_two s.me (Ran job.session job.request job.req_type) job.ask bytes
    ∷ answer_posted s.me job k)).ring ≡ s.ring
finish-ring clock s job bytes None = refl
finish-ring clock s job bytes (Some k) = refl

these-ring : (answer : ℕ → List ℕ → List ℕ) (ps : List Parcel) (s : Timed) (x : List Fact)
    (t : Timed) → FinishesThese answer ps s x t → t.lists.ring ≡ s.lists.ring
these-ring answer [] s x t h = ap (λ (u : Timed). u.lists.ring) h.1
these-ring answer (p ∷ ps) s x t h =
    let job = h.first.job in
    these-ring answer ps h.between h.back t h.second
    ∙ ap (λ (u : Timed). u.lists.ring) h.first.goes
    ∙ ap (λ (fs : List Fact). (after_all s.clock s.lists fs).ring) h.first.facts
    ∙ finish-ring s.clock s.lists job (answer job.req_type job.ask) (awaited job s.lists.servers)

-- sending to the end, or until the link stops it
sends-until : (stopped : Bool) (s : Timed) (x : List Fact) (t : Timed) → SendsSome s x t
    → (stopped ≡ false → line t.clock t.lists.queued ≡ []) → SendsUntil stopped s x t
sends-until true s x t steps all = steps
sends-until false s x t steps all = record {
  steps = steps;
  over = all refl;
}

-- what a poll counts that met no fault of the link
abbrev pub IsCounted : Listening → Asking → (n2 n3 n5 n6 : Timed) → Turn → Type 0
IsCounted heard asked n2 n3 n5 n6 w =
    (w.handled + length n3.lists.ring ≡ heard.heard + length n2.lists.ring)
    × (w.sent + length n6.lists.queued ≡ heard.sent + asked.sent + length n5.lists.queued)

told-by : (b c : Bool) (w : Turn) (P : Turn → Type 0) → P w
    → IfSome (cond (b || c) None (Some w)) P
told-by true c w P h = tt
told-by false true w P h = tt
told-by false false w P h = h

pub turn-counted : {E : Type 0} (handled : ℕ) (heard : Listening) (asked : Asking)
    (sent : Result Sending E) (n2 n3 n5 n6 : Timed)
    → handled + length n3.lists.ring ≡ length n2.lists.ring
    → IfOk sent (λ s. s.sent + length n6.lists.queued ≡ length n5.lists.queued)
    → IfSome (turn_told handled heard asked sent) (IsCounted heard asked n2 n3 n5 n6)
turn-counted handled heard asked (Ok s) n2 n3 n5 n6 h q =
    told-by heard.failed asked.failed _ (IsCounted heard asked n2 n3 n5 n6)
    (omega (arith, h), omega (arith, q))
turn-counted handled heard asked (Err e) n2 n3 n5 n6 h q = tt

-- where the sending wasn't stopped, nothing is left to be sent
unstopped : (b c : Bool) (w : Turn) (claim : Type 0) → (w.busy ≡ false → claim)
    → is_stopped (cond (b || c) None (Some w)) ≡ false → claim
unstopped true c w claim all e = cc
unstopped false true w claim all e = cc
unstopped false false w claim all e = all e

pub turn-sent : {E : Type 0} (handled : ℕ) (heard : Listening) (asked : Asking)
    (sent : Result Sending E) (claim : Type 0) → IfOk sent (λ s. s.busy ≡ false → claim)
    → is_stopped (turn_told handled heard asked sent) ≡ false → claim
turn-sent handled heard asked (Ok s) claim all e =
    unstopped heard.failed asked.failed _ claim all e
turn-sent handled heard asked (Err f) claim all e = cc

-- a fault is answered exactly where one came
cause-of : {T E : Type 0} (b c : Bool) (w : T) (f0 f1 f2 f3 : ℕ) → FailedAs b f0 f1
    → FailedAs c f1 f2 → f3 ≡ f2 → (result : Result T E) → (turn : Option T)
    → ((t : T) → result ≡ Ok t → turn ≡ Some t) → ((e : E) → result ≡ Err e → turn ≡ None)
    → turn ≡ cond (b || c) None (Some w) → HasCause f0 f3 result
cause-of true true w f0 f1 f2 f3 p q r (Ok t) turn ok err is =
    let no : Some t ≡ None = sym (ok t refl) ∙ is in cc
cause-of true false w f0 f1 f2 f3 p q r (Ok t) turn ok err is =
    let no : Some t ≡ None = sym (ok t refl) ∙ is in cc
cause-of false true w f0 f1 f2 f3 p q r (Ok t) turn ok err is =
    let no : Some t ≡ None = sym (ok t refl) ∙ is in cc
cause-of false false w f0 f1 f2 f3 p q r (Ok t) turn ok err is = r ∙ q ∙ p
cause-of true true w f0 f1 f2 f3 p q r (Err e) turn ok err is = record {
  no_less = omega (arith, p.no_less, q.no_less, r);
  rose = omega (arith, p.rose, q.no_less, r);
}
cause-of true false w f0 f1 f2 f3 p q r (Err e) turn ok err is =
    record { no_less = omega (arith, p.no_less, q, r); rose = omega (arith, p.rose, q, r) }
cause-of false true w f0 f1 f2 f3 p q r (Err e) turn ok err is =
    record { no_less = omega (arith, q.no_less, p, r); rose = omega (arith, q.rose, p, r) }
cause-of false false w f0 f1 f2 f3 p q r (Err e) turn ok err is =
    let no : Some w ≡ None = sym is ∙ err e refl in cc

risen-last : (b : Bool) (f0 f1 f2 : ℕ) → FailedAs b f0 f1 → HasRisen f1 f2 → HasRisen f0 f2
risen-last true f0 f1 f2 p q = record {
  no_less = omega (arith, p.no_less, q.no_less);
  rose = omega (arith, p.rose, q.no_less);
}
risen-last false f0 f1 f2 p q =
    record { no_less = omega (arith, p, q.no_less); rose = omega (arith, p, q.rose) }

pub turn-cause : {E F : Type 0} (handled : ℕ) (heard : Listening) (asked : Asking)
    (sent : Result Sending E) (f0 f1 f2 f3 : ℕ) → FailedAs heard.failed f0 f1
    → FailedAs asked.failed f1 f2 → HasCause f2 f3 sent → (result : Result Turn F)
    → turn_of result ≡ turn_told handled heard asked sent → HasCause f0 f3 result
turn-cause handled heard asked (Ok s) f0 f1 f2 f3 p q r result is =
    cause-of heard.failed asked.failed _ f0 f1 f2 f3 p q r result (turn_of result)
    (λ t e. ap turn_of e) (λ f e. ap turn_of e) is
turn-cause handled heard asked (Err e) f0 f1 f2 f3 p q r (Ok t) is =
    let no : Some t ≡ None = is in cc
turn-cause handled heard asked (Err e) f0 f1 f2 f3 p q r (Err f) is =
    risen-last heard.failed f0 f1 f3 p (risen-last asked.failed f1 f2 f3 q r)

-- a turn tells of a busy link only where it was busy
busy-of : (b c : Bool) (w t : Turn) (claim : Type 0) → (w.busy ≡ true → claim)
    → Some t ≡ cond (b || c) None (Some w) → t.busy ≡ true → claim
busy-of true c w t claim own is e = cc
busy-of false true w t claim own is e = cc
busy-of false false w t claim own is e =
    let same : t ≡ w = cc in own (sym (ap (λ (u : Turn). u.busy) same) ∙ e)

pub turn-busy : {E F : Type 0} (handled : ℕ) (heard : Listening) (asked : Asking)
    (sent : Result Sending E) (b0 b1 b2 b3 : ℕ) → b0 ≤ b1 → b1 ≤ b2
    → IfOk sent (λ s. s.busy ≡ true → HasRisen b2 b3) → (result : Result Turn F)
    → turn_of result ≡ turn_told handled heard asked sent
    → IfOk result (λ turn. turn.busy ≡ true → HasRisen b0 b3)
turn-busy handled heard asked (Ok s) b0 b1 b2 b3 p q r (Ok t) is =
    busy-of heard.failed asked.failed _ t (HasRisen b0 b3)
    (λ e. record {
      no_less = omega (arith, p, q, (r e).no_less);
      rose = omega (arith, p, q, (r e).rose);
    }) is
turn-busy handled heard asked (Err e) b0 b1 b2 b3 p q r (Ok t) is =
    let no : Some t ≡ None = is in cc
turn-busy handled heard asked sent b0 b1 b2 b3 p q r (Err f) is = tt

-- as many packets may be sent after the end of a poll as before it
made-due : (now : ℕ) (q : Queued) (b : Bool) → is_due now q.due ≡ b
    → is_due now (made_ready now q).due ≡ b
made-due now q true e = rw e refl
made-due now q false e = rw e e

left-cons : (now : ℕ) (q : Queued) (qs : List Queued) (b : Bool) → is_due now q.due ≡ b
    → left_one (line now (q ∷ qs)) ≡ cond {A = ℕ} b 1 (left_one (line now qs))
left-cons now q qs true e = rw e refl
left-cons now q qs false e = rw e refl

ready-left : (now : ℕ) (qs : List Queued)
    → left_one (line now (map (made_ready now) qs)) ≡ left_one (line now qs)
ready-left now [] = refl
ready-left now (q ∷ qs) =
    let due = is_due now q.due in
    left-cons now (made_ready now q) (map (made_ready now) qs) due (made-due now q due refl)
    ∙ ap (λ (n : ℕ). cond {A = ℕ} due 1 n) (ready-left now qs) ∙ sym (left-cons now q qs due refl)

closed-left : (s : Timed) (x : List Fact) (t : Timed) → Closes s x t
    → left_one (line t.clock t.lists.queued) ≡ left_one (line s.clock s.lists.queued)
closed-left s x t h =
    ap (λ (u : Timed). left_one (line u.clock u.lists.queued)) h.goes
    ∙ ap (λ (fs : List Fact). left_one (line s.clock (after_all s.clock s.lists fs).queued)) h.facts
    ∙ ready-left s.clock s.lists.queued

module _ {R K L V W : Type 0} (log : R → Log)
    (given : K → List Done → Type 0) (net : Link.Ghosts L)
    (service : Service.Ghosts V) (workers : Workers.Ghosts W) (works : WorksFor workers.answer (rules_of service)) (now : ℕ) (n0 n1 n2 n3 n4 n5 n6 n7 : Timed) (w0 w1 w2 : W)
    (s0 s1 : V) (r0 rf r1 r2 r3 r4 r5 r6 : R) (k0 k1 k2 : K) (l0 l1 l2 l3 : L) (m0 m1 m2 : ℕ)
    (background : AllBackground service.mode_of n0.lists.jobs.out)
    (finish : MakesFinished log workers.answer
    ((crew_of workers w0).staff.out ⟶ (crew_of workers w1).staff.out)
    ((crew_of workers w0).worked ⟶ (crew_of workers w1).worked) (raised now n0 ⟶ n1) (r0 ⟶ rf))
    (over : (n1.lists.room ≤ replies n1.lists.queued)
    ⊎ NoneBack (crew_of workers w1).worked (length (crew_of workers w1).staff.out) (crew_of workers w0).looks (crew_of workers w1).looks)
    (limit : (crew_of workers w1).staff.limit ≡ (crew_of workers w0).staff.limit)
    (given_is : (crew_of workers w1).staff.given ≡ (crew_of workers w0).staff.given)
    (waiting : (crew_of workers w1).staff.waiting ≡ (crew_of workers w0).staff.waiting)
    (heard_told : Listening) (asked_told : Asking)
    (hear : Listens log net HearsAll heard_told (n1 ⟶ n2) (rf ⟶ r1) (l0 ⟶ l1) (m0 ⟶ m1))
    (heard_jobs : n2.lists.jobs ≡ n1.lists.jobs) (heard_me : n2.lists.me ≡ n1.lists.me)
    (heard_ring : n2.lists.ring ≡ n1.lists.ring)
    (inbox : n2.lists.inbox ≡ [])
    (handle : MakesAllHandled log given (service_change service (s0 ⟶ s1))
    (staff_change workers (w1 ⟶ w2)) (HandlesAll service.mode_of) (n2 ⟶ n3) (r1 ⟶ r2) (k0 ⟶ k1)
    (m1 ⟶ m2))
    (worked : (crew_of workers w2).worked ≡ (crew_of workers w1).worked) (looks : (crew_of workers w2).looks ≡ (crew_of workers w1).looks)
    (me : n3.lists.me ≡ n2.lists.me)
    (watch : MakesTimes log given net TimesAll asked_told (n3 ⟶ n4) (r2 ⟶ r3) (k1 ⟶ k2) (l1 ⟶ l2))
    (post : Makes log PostsAll n4 n5 r3 r4)
    (send : MakesSent log net.sent SendsSome n5 n6 r4 r5 l2 l3)
    (held : HeldBack (left_one (line n6.clock n6.lists.queued)) (troubles_of net l2) (troubles_of net l3))
    (close : Makes log Closes n6 n7 r5 r6) (turn : Option Turn)
    (all : is_stopped turn ≡ false → line n6.clock n6.lists.queued ≡ [])
    (jobs : n7.lists.jobs ≡ n3.lists.jobs) (kept : Kept n7.lists)
    (counted : IfSome turn (IsCounted heard_told asked_told n2 n3 n5 n6)) where
  abbrev stopped : Bool
  stopped = is_stopped turn

  abbrev heard : List Fact
  heard = hear.sends.makes.noted

  abbrev watched : List Fact
  watched = watch.ends.makes.noted

  -- what is noted after the timers, and after the handling
  abbrev tail : List Fact
  tail = post.noted ++ (send.makes.noted ++ close.noted)

  abbrev last : List Fact
  last = watched ++ tail

  abbrev noted : List Fact
  noted = finish.noted ++ (heard ++ (handle.noted ++ last))

  abbrev staff : W → Staff
  staff w = staff_of workers w

  -- none after the handling is
  last-none : (q : Event → Bool) → ((o : Owner) (k : ℕ) → q (Flushed o k) ≡ false)
      → ((c a b : ℕ) → q (Rolled c a b) ≡ false) → ((i : ℕ) → q (Broken i) ≡ false)
      → ((c : ℕ) → q (DonePeerLost c) ≡ false)
      → ((p : ℕ) (o : Owner) (k : ℕ) → q (Sent p o k) ≡ false)
      → ((p : ℕ) → q (Unsent p) ≡ false) → ((i : ℕ) → q (FailedNoAnswer i) ≡ false)
      → ((i : ℕ) → q (ClosedUnheard i) ≡ false) → ((c r : ℕ) → q (Begun c r) ≡ false)
      → ((o : Owner) (k : ℕ) → q (Posted o k) ≡ false) → ((n : ℕ) → q (Polled n) ≡ false)
      → AllStill q last
  last-none q flushed rolled broken lost sent unsent failed closed begun posted polled =
      still-append q watched _
      (times-still q flushed rolled broken lost sent unsent failed closed
      (asking (λ t r. []) n3) watched (asking (λ t r. []) n4)
      (watch.ends.makes.step (λ t r. [])))
      (still-append q post.noted _
      (posts-still q begun posted (asking (λ t r. []) n4) post.noted
      (asking (λ t r. []) n5) (post.step (λ t r. [])))
      (still-append q send.makes.noted close.noted
      (sends-still q sent (asking (λ t r. []) n5) send.makes.noted
      (asking (λ t r. []) n6) (send.makes.step (λ t r. [])))
      (closes-still q polled (asking (λ t r. []) n6) close.noted
      (asking (λ t r. []) n7) (close.step (λ t r. [])))))

  last-still : AllStill is_ran last
  last-still =
      last-none is_ran (λ o k. refl) (λ c a b. refl) (λ i. refl) (λ c. refl) (λ p o k. refl)
      (λ p. refl) (λ i. refl) (λ i. refl) (λ c r. refl) (λ o k. refl) (λ n. refl)

  last-unmoved : AllStill moves_ring last
  last-unmoved =
      last-none moves_ring (λ o k. refl) (λ c a b. refl) (λ i. refl) (λ c. refl) (λ p o k. refl)
      (λ p. refl) (λ i. refl) (λ i. refl) (λ c r. refl) (λ o k. refl) (λ n. refl)

  last-fed : AllStill is_lack last
  last-fed =
      last-none is_lack (λ o k. refl) (λ c a b. refl) (λ i. refl) (λ c. refl) (λ p o k. refl)
      (λ p. refl) (λ i. refl) (λ i. refl) (λ c r. refl) (λ o k. refl) (λ n. refl)

  -- none of control is of a call or a job
  heard-none : (q : Event → Bool) → ((o : Owner) (k : ℕ) → q (Flushed o k) ≡ false)
      → ((t : ℕ) → q (Ended t) ≡ false) → ((p i c : ℕ) → q (Declined p i c) ≡ false)
      → ((p i c : ℕ) → q (Starved p i c) ≡ false)
      → ((t p i c l : ℕ) → q (Accepted t p i c l) ≡ false)
      → ((i t l : ℕ) → q (IsConnected i t l) ≡ false) → ((i : ℕ) → q (FailedNoRoom i) ≡ false)
      → ((i : ℕ) → q (ClosedHeard i) ≡ false)
      → ((p : ℕ) (o : Owner) (k : ℕ) → q (Sent p o k) ≡ false)
      → ((p : ℕ) → q (Unsent p) ≡ false) → q Heard ≡ false → AllStill q heard
  heard-none q a b c d e f g h i j k =
      hears-still q a b c d e f g h i j k (asking (λ t r. []) n1) heard (asking (λ t r. []) n2)
      (hear.sends.makes.step (λ t r. []))

  heard-unran : AllStill is_ran heard
  heard-unran =
      heard-none is_ran (λ o k. refl) (λ i. refl) (λ p i c. refl) (λ p i c. refl) (λ i p j c l. refl)
      (λ i j l. refl) (λ i. refl) (λ i. refl) (λ p o k. refl) (λ p. refl) refl

  heard-unmoved : AllStill moves_ring heard
  heard-unmoved =
      heard-none moves_ring (λ o k. refl) (λ i. refl) (λ p i c. refl) (λ p i c. refl)
      (λ i p j c l. refl) (λ i j l. refl) (λ i. refl) (λ i. refl) (λ p o k. refl) (λ p. refl) refl

  heard-endless : AllStill is_end_event heard
  heard-endless =
      heard-none is_end_event (λ o k. refl) (λ i. refl) (λ p i c. refl) (λ p i c. refl)
      (λ i p j c l. refl) (λ i j l. refl) (λ i. refl) (λ i. refl) (λ p o k. refl) (λ p. refl) refl

  tail-still : AllStill is_end_event tail
  tail-still =
      still-append is_end_event post.noted _
      (posts-still is_end_event (λ c r. refl) (λ o k. refl) (asking (λ t r. []) n4) post.noted
      (asking (λ t r. []) n5) (post.step (λ t r. [])))
      (still-append is_end_event send.makes.noted close.noted
      (sends-still is_end_event (λ p o k. refl) (asking (λ t r. []) n5) send.makes.noted
      (asking (λ t r. []) n6) (send.makes.step (λ t r. [])))
      (closes-still is_end_event (λ n. refl) (asking (λ t r. []) n6) close.noted
      (asking (λ t r. []) n7) (close.step (λ t r. []))))

  module _ (staffed : IsStaffed workers.answer (staff w0) n0) where
    abbrev asks : Asks
    asks = asks_of (staff w0).out

    f : FinishesTaken workers.answer (staff w1).out (crew_of workers w0).worked (crew_of workers w1).worked asks (raised now n0)
        finish.noted n1
    f = finish.step asks (record { same = staffed.agree.same; ready = staffed.agree.ready })

    staffed-finished : AreStaffed workers.answer asks (staff w1) n1
    staffed-finished = record {
      agree = f.agree;
      limit_is = limit ∙ staffed.limit_is ∙ ap (λ (js : Jobs). js.limit) (sym f.left);
      given_is = given_is ∙ staffed.given_is ∙ ap (λ (js : Jobs). js.given) (sym f.left);
    }

    h : HandlesWith (HandlesAll service.mode_of) workers.answer handle.gave (staff w1) (staff w2) asks n2
        handle.noted n3
    h = handle.step asks
        (staffed-still workers.answer asks (staff w1) n1 n2 heard_jobs staffed-finished)

    abbrev then_asks : Asks
    then_asks = h.then_asks

    staffed-last : AreStaffed workers.answer then_asks (staff w2) n7
    staffed-last = staffed-still workers.answer then_asks (staff w2) n3 n7 jobs h.staffed

    alone : (t r : ℕ) → count_by (is_job t r) n7.lists.jobs.out ≤ 1
    alone t r = omega (arith, kept.valid.runs t r)

    finishes-back : FinishesBack workers.answer f.parcels (crew_of workers w0) (crew_of workers w2) (asking asks (raised now n0))
        finish.noted (asking asks n1)
    finishes-back = record { finishes = f.finishes; over = by over }
      where
        many : length (staff w1).out ≡ length (map (with_ask asks) n1.lists.jobs.out)
        many = sym (as-many workers.answer asks (staff w1).out n1 f.agree)
            ∙ sym (length-asked asks n1.lists.jobs.out)

        by : (n1.lists.room ≤ replies n1.lists.queued)
            ⊎ NoneBack (crew_of workers w1).worked (length (staff w1).out) (crew_of workers w0).looks (crew_of workers w1).looks
            → (n1.lists.room ≤ replies n1.lists.queued)
            ⊎ NoneBack (crew_of workers w2).worked (length (map (with_ask asks) n1.lists.jobs.out))
            (crew_of workers w0).looks (crew_of workers w2).looks
        by (inl full) = inl full
        by (inr back) = inr (rw (worked, looks, ← many) back)

    polls-to : PollBy (FinishesBack workers.answer f.parcels (crew_of workers w0) (crew_of workers w2)) (SendsUntil stopped)
        service.mode_of now (told (staff w0).out n0) noted (asking then_asks n7)
    polls-to = record {
      between = asking asks n1;
      front = finish.noted;
      back = heard ++ (handle.noted ++ last);
      joined = refl;
      first = finishes-back;
      second = record {
        between = asking asks n2;
        front = heard;
        back = handle.noted ++ last;
        joined = refl;
        first = hear.sends.makes.step asks;
        second = record {
          between = asking then_asks n3;
          front = handle.noted;
          back = last;
          joined = refl;
          first = h.handles;
          second = record {
            between = asking then_asks n4;
            front = watched;
            back = tail;
            joined = refl;
            first = watch.ends.makes.step then_asks;
            second = record {
              between = asking then_asks n5;
              front = post.noted;
              back = send.makes.noted ++ close.noted;
              joined = refl;
              first = post.step then_asks;
              second = record {
                between = asking then_asks n6;
                front = send.makes.noted;
                back = close.noted;
                joined = refl;
                first = sends-until stopped (asking then_asks n5) send.makes.noted
                    (asking then_asks n6) (send.makes.step then_asks) all;
                second = close.step then_asks;
              };
            };
          };
        };
      };
    }

    polls-with : PollsWith (rules_of service) workers.answer stopped now (crew_of workers w0) (crew_of workers w2) n0 noted n7
    polls-with = record {
      parcels = f.parcels;
      gave = handle.gave;
      first = f.first ∙ ap (option_map (λ ps. f.parcels ++ ps)) (sym worked);
      waits = h.waits ∙ ap (option_map (λ ps. ps ++ handle.gave)) waiting;
      jobs = ap (λ (js : Jobs). js.out) (jobs ∙ handle.jobs)
          ∙ all-given-out handle.gave n2.lists.jobs
          ∙ ap (λ (js : Jobs). js.out ++ map job_named handle.gave) (heard_jobs ∙ f.left);
      staffed = staffed-told workers.answer then_asks (staff w2) n7 staffed-last alone;
      polls = subst (λ (t : Timed). PollBy (FinishesBack workers.answer f.parcels (crew_of workers w0) (crew_of workers w2))
          (SendsUntil stopped) service.mode_of now (told (staff w0).out n0) noted t)
          (same-told workers.answer then_asks (staff w2) n7 staffed-last alone) polls-to;
    }

    answers : (served : Served) → service.stands s0 served
        → Answers (rules_of service) served noted × service.stands s1 (served_after_all service.mode_of served noted)
    answers served founded =
        let rest = heard ++ (handle.noted ++ last) in
        let first = these-answer (rules_of service) workers.answer works f.parcels (asking asks (raised now n0)) finish.noted
        (asking asks n1) (asked-background service.mode_of asks n0.lists.jobs.out background) f.finishes
        served in
        let none = still-answers (rules_of service) served heard heard-unran in
        let second = handle.answers served founded in
        let third = still-answers (rules_of service) (served_after_all service.mode_of served handle.noted) last last-still in
        let after = served-append service.mode_of served finish.noted rest
        ∙ ap (λ (z : Served). served_after_all service.mode_of z rest) first.1
        ∙ served-append service.mode_of served heard (handle.noted ++ last)
        ∙ ap (λ (z : Served). served_after_all service.mode_of z (handle.noted ++ last)) none.1
        ∙ served-append service.mode_of served handle.noted last ∙ third.1 in (
          answers-append (rules_of service) served finish.noted rest first.0
              (subst (λ (z : Served). Answers (rules_of service) z rest) (sym first.1)
              (answers-append (rules_of service) served heard (handle.noted ++ last) none.0
              (subst (λ (z : Served). Answers (rules_of service) z (handle.noted ++ last)) (sym none.1)
              (answers-append (rules_of service) served handle.noted last second.0 third.0)))),
          subst (service.stands s1) (sym after) second.1,
        )

    same-me : n1.lists.me ≡ n0.lists.me
    same-me = these-me workers.answer f.parcels (asking asks (raised now n0)) finish.noted (asking asks n1)
        f.finishes

    abbrev me0 : ℕ
    me0 = n0.lists.me

    -- finishing jobs notes runs and postings alone
    finish-still : (q : Event → Bool) → ((t r y : ℕ) → q (Ran t r y) ≡ false)
        → ((o : Owner) (k : ℕ) → q (Posted o k) ≡ false) → AllStill q finish.noted
    finish-still q ran posted = these-still q ran posted workers.answer f.parcels
        (asking asks (raised now n0)) finish.noted (asking asks n1) f.finishes

    all-ends : filter is_end noted ≡ map (done_fact me0) (handle.dones ++ watch.ends.dones)
    all-ends =
        filter-append is_end finish.noted (heard ++ (handle.noted ++ last))
        ∙ ap (λ z. z ++ filter is_end (heard ++ (handle.noted ++ last)))
        (still-none is_end_event finish.noted (finish-still is_end_event (λ t r y. refl) (λ o k. refl)))
        ∙ filter-append is_end heard (handle.noted ++ last)
        ∙ ap (λ z. z ++ filter is_end (handle.noted ++ last))
        (still-none is_end_event heard heard-endless)
        ∙ filter-append is_end handle.noted last
        ∙ ap₂ (λ (a b : List Fact). a ++ b) (handle.ends ∙ ap (λ m. map (done_fact m) handle.dones)
        (heard_me ∙ same-me))
        (filter-append is_end watched tail
        ∙ ap₂ (λ (a b : List Fact). a ++ b) (watch.ends.ends
        ∙ ap (λ m. map (done_fact m) watch.ends.dones) (me ∙ heard_me ∙ same-me))
        (still-none is_end_event tail tail-still)
        ∙ append-nil (map (done_fact me0) watch.ends.dones))
        ∙ sym (map-append (done_fact me0) handle.dones watch.ends.dones)

    handled-still : AllStill is_elsewhere handle.noted
    handled-still = handled-elsewhere service.mode_of (asking asks n2) handle.noted (asking then_asks n3)
        h.handles.steps

    post-still : (q : Event → Bool) → ((c r : ℕ) → q (Begun c r) ≡ false)
        → ((o : Owner) (k : ℕ) → q (Posted o k) ≡ false) → AllStill q post.noted
    post-still q begun posted = posts-still q begun posted (asking asks n4) post.noted
        (asking asks n5) (post.step asks)

    close-still : (q : Event → Bool) → ((n : ℕ) → q (Polled n) ≡ false) → AllStill q close.noted
    close-still q polled = closes-still q polled (asking asks n6) close.noted (asking asks n7)
        (close.step asks)

    -- what is counted comes of some steps alone
    parts : (q : Event → Bool) → many q noted
        ≡ many q finish.noted + (many q heard + (many q handle.noted + (many q watched
        + (many q post.noted + (many q send.makes.noted + many q close.noted)))))
    parts q =
        let one = many-append q finish.noted (heard ++ (handle.noted ++ last)) in
        let two = many-append q heard (handle.noted ++ last) in
        let three = many-append q handle.noted last in
        let four = many-append q watched tail in
        let five = many-append q post.noted (send.makes.noted ++ close.noted) in
        let six = many-append q send.makes.noted close.noted in
        omega (arith, one, two, three, four, five, six)

    handled-in : many is_handled noted + length n3.lists.ring
        ≡ heard_told.heard + length n2.lists.ring
    handled-in =
        let none = many-none is_handled watched (times-still is_handled (λ o k. refl)
        (λ c a b. refl) (λ i. refl) (λ c. refl) (λ p o k. refl) (λ p. refl) (λ i. refl) (λ i. refl)
        (asking asks n3) watched (asking asks n4) (watch.ends.makes.step asks)) in
        let finishes = many-none is_handled finish.noted
        (finish-still is_handled (λ t r y. refl) (λ o k. refl)) in
        let posts = many-none is_handled post.noted
        (post-still is_handled (λ c r. refl) (λ o k. refl)) in
        let sends = many-none is_handled send.makes.noted (sends-still is_handled (λ p o k. refl)
        (asking asks n5) send.makes.noted (asking asks n6) (send.makes.step asks)) in
        let closes = many-none is_handled close.noted (close-still is_handled (λ n. refl)) in
        let handles = handled-count service.mode_of (asking asks n2) handle.noted (asking then_asks n3)
        h.handles.steps in
        omega (
          arith,
          parts is_handled,
          finishes,
          none,
          posts,
          sends,
          closes,
          hear.heard,
          handles,
        )

    sent-in : many is_sent noted + length n6.lists.queued
        ≡ heard_told.sent + asked_told.sent + length n5.lists.queued
    sent-in =
        let finishes = many-none is_sent finish.noted
        (finish-still is_sent (λ t r y. refl) (λ o k. refl)) in
        let handles = many-none is_sent handle.noted (handled-unsent handle.noted handled-still) in
        let posts = many-none is_sent post.noted
        (post-still is_sent (λ c r. refl) (λ o k. refl)) in
        let closes = many-none is_sent close.noted (close-still is_sent (λ n. refl)) in
        let sends = sent-count (asking asks n5) send.makes.noted (asking asks n6)
        (send.makes.step asks) in
        omega (
          arith,
          parts is_sent,
          finishes,
          handles,
          posts,
          closes,
          sends,
          hear.went,
          watch.link.went,
        )

    counts : IfSome turn (CountsTurn noted)
    counts = by turn counted
      where
        by : (o : Option Turn) → IfSome o (IsCounted heard_told asked_told n2 n3 n5 n6)
            → IfSome o (CountsTurn noted)
        by None c = tt
        by (Some w) c = record {
          handled = omega (arith, handled-in, c.0);
          sent = omega (arith, sent-in, c.1);
        }

    -- what is handed to the link in the steps before the sending
    abbrev front : List Fact
    front = finish.noted ++ (heard ++ (handle.noted ++ watched))

    abbrev answers_told : Asking
    answers_told = record { sent = heard_told.sent; failed = heard_told.failed }

    abbrev rest_told : Asking
    rest_told = both nothing asked_told

    front-carried : LinkTook net (both nothing (both answers_told rest_told)) front l0 l2
    front-carried =
        link-both net nothing (both answers_told rest_told) _ finish.noted _ l0 l0 l2 refl
        refl
        (link-still net finish.noted l0
        (finish-still is_sent (λ t r y. refl) (λ o k. refl))
        (finish-still is_unsent (λ t r y. refl) (λ o k. refl)))
        (link-both net answers_told rest_told _ heard _ l0 l1 l2 refl refl
        (record { took = hear.sends.took; went = hear.went; counts = hear.counts })
        (link-both net nothing asked_told _ handle.noted watched l1 l1 l2 refl refl
        (link-still net handle.noted l1 (handled-unsent handle.noted handled-still)
        (handled-unsaid handle.noted handled-still)) watch.link))

    front-tail : front ++ tail ≡ noted
    front-tail =
        append_assoc finish.noted (heard ++ (handle.noted ++ watched)) tail
        ∙ ap (λ (z : List Fact). finish.noted ++ z)
        (append_assoc heard (handle.noted ++ watched) tail
        ∙ ap (λ (z : List Fact). heard ++ z) (append_assoc handle.noted watched tail))

    tail-sent : sent_of tail ≡ sent_of send.makes.noted
    tail-sent =
        sent-after post.noted (send.makes.noted ++ close.noted)
        (post-still is_sent (λ c r. refl) (λ o k. refl))
        ∙ sent-before send.makes.noted close.noted (close-still is_sent (λ n. refl))

    took : net.sent l3 ≡ option_map (λ ds. ds ++ sent_of noted) (net.sent l0)
    took =
        send.took ∙ ap (option_map (λ ds. ds ++ sent_of send.makes.noted)) front-carried.took
        ∙ took-then (net.sent l0) (sent_of front) (sent_of send.makes.noted)
        ∙ ap (λ xs. option_map (λ ds. ds ++ xs) (net.sent l0))
        (ap (λ xs. sent_of front ++ xs) (sym tail-sent) ∙ sym (sent-append front tail)
        ∙ ap (λ (z : List Fact). sent_of z) front-tail)

    tail-taken : many is_unsent tail ≡ 0
    tail-taken =
        many-none is_unsent tail
        (still-append is_unsent post.noted _ (post-still is_unsent (λ c r. refl) (λ o k. refl))
        (still-append is_unsent send.makes.noted close.noted
        (sends-still is_unsent (λ p o k. refl) (asking asks n5) send.makes.noted
        (asking asks n6) (send.makes.step asks)) (close-still is_unsent (λ n. refl))))

    -- the end of the poll leaves as much to be sent
    left : left_one (line n7.clock n7.lists.queued) ≡ left_one (line n6.clock n6.lists.queued)
    left = closed-left (asking asks n6) close.noted (asking asks n7) (close.step asks)

    held-all : HeldBack (held_in noted n7) (troubles_of net l0) (troubles_of net l3)
    held-all =
        subst (λ (n : ℕ). HeldBack n (troubles_of net l0) (troubles_of net l3))
        (omega (
          arith,
          left,
          tail-taken,
          many-append is_unsent front tail,
          ap (λ (z : List Fact). many is_unsent z) front-tail,
        ))
        (held-more (many is_unsent front) (left_one (line n6.clock n6.lists.queued)) (troubles_of net l0)
        (troubles_of net l2) (troubles_of net l3) front-carried.counts.held held)

    -- short requests are dropped for want of memory by none of the steps
    same-front : n2.lists.ring ≡ n0.lists.ring
    same-front =
        heard_ring ∙ these-ring workers.answer f.parcels (asking asks (raised now n0)) finish.noted
        (asking asks n1) f.finishes

    spared-on : SparesShort (rules_of service) n2.lists.ring (handle.noted ++ last)
    spared-on =
        spares-append (rules_of service) n2.lists.ring handle.noted last handle.spared
        (spares-calm (rules_of service) (ring_left n2.lists.ring handle.noted) last
        (undropped last last-unmoved))

    spared : SparesShort (rules_of service) n0.lists.ring noted
    spared =
        spares-before (rules_of service) n0.lists.ring finish.noted _
        (finish-still moves_ring (λ t r y. refl) (λ o k. refl))
        (spares-before (rules_of service) n0.lists.ring heard _ heard-unmoved
        (subst (λ (r : List Arrival). SparesShort (rules_of service) r (handle.noted ++ last))
        same-front spared-on))

    -- and each lack is of the control packets or of the handling
    wants : HasRisenBy (lacks_in noted) m0 m2
    wants =
        subst (λ (n : ℕ). HasRisenBy n m0 m2)
        (omega (
          arith,
          many-append is_lack finish.noted (heard ++ (handle.noted ++ last)),
          many-append is_lack heard (handle.noted ++ last),
          many-append is_lack handle.noted last,
          many-none is_lack finish.noted (finish-still is_lack (λ t r y. refl) (λ o k. refl)),
          many-none is_lack last last-fed,
        ))
        (both-risen (lacks_in heard) (lacks_in handle.noted) m0 m1 m2 hear.wants handle.wants)

    tells : TellsOfPoll given (service_change service (s0 ⟶ s1)) turn
        (wire_of net l0 ⟶ wire_of net l3) (n0 ⟶ n7) noted (k0 ⟶ k2) (m0 ⟶ m2)
    tells = record {
      answers = answers;
      dones = handle.dones ++ watch.ends.dones;
      ends = all-ends;
      gave = gave-then given k0 k1 k2 handle.dones watch.ends.dones handle.told watch.ends.gave;
      counts = counts;
      took = took;
      held = held-all;
      spared = spared;
      wants = wants;
    }

  pub makes-poll : (h0 h7 : List (List Handed))
      → MakesPoll (bounds log given service workers) turn now (wire_of net l0 ⟶ wire_of net l3)
      ((record { timed = n0; handed = h0; service = s0; workers = w0 })
      ⟶ (record { timed = n7; handed = h7; service = s1; workers = w2 })) (r0 ⟶ r6) (k0 ⟶ k2)
      (m0 ⟶ m2)
  makes-poll h0 h7 = record {
    noted = noted;
    grew = grew-then log r0 rf r6 finish.noted _ finish.grew
        (grew-then log rf r1 r6 heard (handle.noted ++ last) hear.sends.makes.grew
        (grew-then log r1 r2 r6 handle.noted last handle.grew
        (grew-then log r2 r3 r6 watched tail watch.ends.makes.grew
        (grew-then log r3 r4 r6 post.noted _ post.grew
        (grew-then log r4 r5 r6 send.makes.noted close.noted send.makes.grew close.grew)))));
    does = λ staffed. (polls-with staffed, tells staffed);
  }

-- an endpoint serves on
given-background : (mode : ℕ → Mode) (ps : List Parcel) (jobs : Jobs)
    → AllByRecursion (λ p. mode p.req_type ≡ Background) ps → AllBackground mode jobs.out
    → AllBackground mode (with_all_given ps jobs).out
given-background mode ps jobs given all =
    subst (AllBackground mode) (sym (all-given-out ps jobs))
    (all-both (λ (j : Job). mode j.req_type ≡ Background) jobs.out (map job_named ps) all
    (named ps given))
  where
    named : (ps : List Parcel) → AllByRecursion (λ p. mode p.req_type ≡ Background) ps
        → AllBackground mode (map job_named ps)
    named [] g = tt
    named (p ∷ ps) g = (g.0, named ps g.1)

pub still-serving : (v : Serving) (stands : Served → Type 0) (answer : ℕ → List ℕ → List ℕ)
    (n2 n3 n7 : Timed) (ps : List Parcel) → StandsForSome stands → WorksFor answer v
    → AllServed v.mode n3.lists.servers → n7.lists.servers ≡ n3.lists.servers
    → AllBackground v.mode n2.lists.jobs.out
    → AllByRecursion (λ p. v.mode p.req_type ≡ Background) ps
    → n3.lists.jobs ≡ with_all_given ps n2.lists.jobs → n7.lists.jobs ≡ n3.lists.jobs
    → IsServing v stands answer n7.lists
still-serving v stands answer n2 n3 n7 ps founded works served servers background given jobs same =
    record {
      founded = founded;
      works = works;
      served = rw servers served;
      background = rw (same, jobs) (given-background v.mode ps n2.lists.jobs given background);
    }
