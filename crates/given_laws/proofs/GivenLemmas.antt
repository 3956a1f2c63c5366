-- The jobs that a poll gives are those of its Given facts, in order.
use Rattle.std.proofs.Common.{◌≡◌, ℕ, ◌+◌, Bool, true, false, cond, Option, Some, None, List, []}
use Rattle.std.proofs.Common.{◌∷◌, ◌++◌, length, map, refl, sym, ap, ap₂, ◌∙◌, subst, arith}
use Rattle.std.proofs.Common.{append_assoc, append-nil, length-append}
use Rattle.std.specs.Prelude.{◌==◌, ◌&&◌}
use Rattle.std.specs.List.{find}
use Rattle.std.proofs.lemmas.Bool.{and_parts, eqb-true}
use Rattle.std.proofs.lemmas.List.{append_cancel_left, map-append}
use Rattle.std.proofs.lemmas.Simd.{map-map}
use Rattle.given_laws.proofs.HearStill.{hears-still}
use Rattle.endpoint_loop.proofs.StandingLaw.{sends-some, these-some}
use Rattle.endpoint_loop.specs.Endpoints.{Crew, told}
use Rattle.endpoint_loop.specs.Polls.{PollsWith, SendsUntil}
use Rattle.node_steps.proofs.NoteStill.{AllStill, Stills, closes-still, posts-still, sends-still}
use Rattle.node_steps.proofs.NoteStill.{times-still}
use Rattle.node_steps.specs.Jobs.{FinishesThese, jobs_left}
use Rattle.node_steps.specs.Requests.{job_named}
use Rattle.node_steps.specs.Seen.{Asks, with_ask}
use Rattle.node_laws.proofs.Allowed.{AllAllowed}
use Rattle.node_laws.proofs.ControlLemmas.{hears-all-lawful}
use Rattle.node_laws.proofs.LeadsLemmas.{Lawful, LeadsAt, lawful-chain, valid-at}
use Rattle.node_laws.proofs.PostLemmas.{posts-lawful}
use Rattle.node_laws.proofs.RunLaws.{closes-lawful, finishes-some, handles-lawful, sends-lawful}
use Rattle.node_laws.proofs.TimerLemmas.{timers-lawful}
use Rattle.node_laws.specs.Valid.{jobs_of, Valid}
use Rattle.packet_header.specs.Kinds.{is_asking}
use Rattle.packet_header.specs.Reading.{body_of}
use Rattle.packet_header.specs.declared.packet.Kind.{Kind}
use Rattle.packet_header.specs.declared.packet.Kind.TheVariants.{Request, Rfr, Cr, Response}
use Rattle.packet_header.specs.declared.packet.MessageHeader.{MessageHeader}
use Rattle.rpc_base.proofs.TakingLemmas.{find-passes}
use Rattle.rpc_base.specs.Tables.{without_first}
use Rattle.rpc_base.specs.declared.event.Event.{Event}
use Rattle.rpc_base.specs.declared.event.Event.TheVariants.{Dropped, Given, Ran}
use Rattle.rpc_base.specs.declared.fact.Fact.{Fact}
use Rattle.rpc_base.specs.declared.state.DropReason.TheVariants.{StaleLife}
use Rattle.rpc_laws.proofs.RunLemmas.{after_all-append}
use Rattle.rpc_laws.specs.ClientTable.{call_ending, client_ending, client_row, end_facts}
use Rattle.rpc_laws.specs.ClientTable.{progress_ending, reply_facts}
use Rattle.rpc_laws.specs.ControlSteps.{HearsAll, TimesAll}
use Rattle.rpc_laws.specs.Calls.{is_active}
use Rattle.rpc_laws.specs.Facts.{plain, with_two}
use Rattle.rpc_laws.specs.Jobs.{are_full, is_job, jobs_after}
use Rattle.rpc_laws.specs.NodeLists.{after, after_all}
use Rattle.rpc_laws.specs.PollOrder.{answer_posted, awaited, Closes, handled, handling_by, Handles}
use Rattle.rpc_laws.specs.PollOrder.{HandlesAll, PollBy, PostsAll, raised, Sends}
use Rattle.rpc_laws.specs.Requests.{is_server}
use Rattle.rpc_laws.specs.ServerTable.{flushes_older, served_facts, server_row, took_facts}
use Rattle.rpc_laws.specs.ServerTable.{whole_ask}
use Rattle.rpc_laws.specs.Service.{Serving}
use Rattle.rpc_laws.specs.Sessions.{is_client}
use Rattle.rpc_laws.specs.Steps.{Chain, more, none, Rel, Then, Until}
use Rattle.rpc_laws.specs.declared.rows.ClientRow.{ClientRow}
use Rattle.rpc_laws.specs.declared.rows.ClientRow.TheVariants.{Drops as ClientDrops}
use Rattle.rpc_laws.specs.declared.rows.ClientRow.TheVariants.{Takes as ClientTakes}
use Rattle.rpc_laws.specs.declared.rows.EndRow.{EndRow}
use Rattle.rpc_laws.specs.declared.rows.EndRow.TheVariants.{EndsOk, EndsTooSmall, GoesOn}
use Rattle.rpc_laws.specs.declared.rows.ServerRow.{ServerRow}
use Rattle.rpc_laws.specs.declared.rows.ServerRow.TheVariants.{Begins, Drops, Repeats, Takes}
use Rattle.rpc_laws.specs.declared.tables.Call.{Call}
use Rattle.rpc_laws.specs.declared.tables.Client.{Client}
use Rattle.rpc_laws.specs.declared.tables.Job.{Job}
use Rattle.rpc_laws.specs.declared.tables.Jobs.{Jobs}
use Rattle.rpc_laws.specs.declared.tables.Lists.{Lists}
use Rattle.rpc_laws.specs.declared.tables.Progress.{Progress}
use Rattle.rpc_laws.specs.declared.tables.Server.{Server}
use Rattle.rpc_laws.specs.declared.tables.Timed.{Timed}
use Rattle.rpc_outside.specs.declared.service.Mode.{Mode}
use Rattle.given_laws.proofs.RowGives.{allowed-back, begins-by, gives-none, GivesJobs}
use Rattle.given_laws.proofs.RowGives.{is_of_jobs, names}
use Rattle.given_laws.proofs.RowGives.{none-given, older-still, same-jobs, takes-by, took-gives}
use Rattle.given_laws.specs.Given.{given_by, given_in, job_name, name_of}
use Rattle.worker_board.specs.declared.Parcel.{Parcel}

pub given-append : (x y : List Fact) → given_in (x ++ y) ≡ given_in x ++ given_in y
given-append [] y = refl
given-append (f ∷ x) y =
    ap (λ (l : List (ℕ × ℕ)). given_by f.event ++ l) (given-append x y)
    ∙ sym (append_assoc (given_by f.event) (given_in x) (given_in y))

-- facts, and then further ones
pub gives-then : (clock : ℕ) (s : Lists) (x y : List Fact) → GivesJobs clock s x
    → GivesJobs clock (after_all clock s x) y → GivesJobs clock s (x ++ y)
gives-then clock s x y a b =
    ap (λ (l : Lists). names l.jobs.out) (after_all-append clock s x y)
    ∙ (b ∙ (ap (λ (l : List (ℕ × ℕ)). l ++ given_in y) a
    ∙ (append_assoc (names s.jobs.out) (given_in x) (given_in y)
    ∙ ap (λ (l : List (ℕ × ℕ)). names s.jobs.out ++ l) (sym (given-append x y)))))

-- each fact counts the jobs that it gives, and leaves the limit
one-counts : (e : Event) (servers : List Server) (jobs : Jobs)
    → (jobs_after e servers jobs).given ≡ jobs.given + length (given_by e)
one-counts (Given t r) servers jobs = omega arith
one-counts (Ran t r y) servers jobs = omega arith
one-counts _ servers jobs = omega arith

one-limit : (e : Event) (servers : List Server) (jobs : Jobs)
    → (jobs_after e servers jobs).limit ≡ jobs.limit
one-limit (Given t r) servers jobs = refl
one-limit (Ran t r y) servers jobs = refl
one-limit _ servers jobs = refl

pub counts-given : (clock : ℕ) (s : Lists) (x : List Fact)
    → (after_all clock s x).jobs.given ≡ s.jobs.given + length (given_in x)
counts-given clock s [] = omega arith
counts-given clock s (f ∷ x) = omega (
  arith,
  counts-given clock (after clock s f) x,
  one-counts f.event s.servers s.jobs,
  length-append (given_by f.event) (given_in x),
)

pub keeps-limit : (clock : ℕ) (s : Lists) (x : List Fact)
    → (after_all clock s x).jobs.limit ≡ s.jobs.limit
keeps-limit clock s [] = refl
keeps-limit clock s (f ∷ x) =
    keeps-limit clock (after clock s f) x ∙ one-limit f.event s.servers s.jobs

-- the end of a call
end-still : (me number : ℕ) (parts : List ℕ) (row : EndRow)
    → AllStill is_of_jobs (end_facts me number parts row)
end-still me number parts GoesOn = tt
end-still me number parts EndsOk = (refl, tt)
end-still me number parts (EndsTooSmall size) = (refl, tt)

progress-still : (me : ℕ) (h : MessageHeader) (body : List ℕ) (c : Call) (p : Option Progress)
    → AllStill is_of_jobs (progress_ending me c.what h body p)
progress-still me h body c None = tt
progress-still me h body c (Some p) = end-still me c.what.number _ _

call-still : (me : ℕ) (h : MessageHeader) (body : List ℕ) (c : Option Call)
    → AllStill is_of_jobs (call_ending me h body c)
call-still me h body None = tt
call-still me h body (Some c) = progress-still me h body c c.progress

client-still : (me : ℕ) (h : MessageHeader) (body : List ℕ) (x : Option Client)
    → AllStill is_of_jobs (client_ending me h body x)
client-still me h body None = tt
client-still me h body (Some x) = call-still me h body (find (is_active h.request) x.calls)

reply-still : (me : ℕ) (x : Option Client) (h : MessageHeader) (body : List ℕ) (row : ClientRow)
    → AllStill is_of_jobs (reply_facts me x h body row)
reply-still me x h body (ClientDrops why) = (refl, tt)
reply-still me x h body ClientTakes = (refl, client-still me h body x)

-- a packet is handled
module _ (clock : ℕ) (s : Lists) (valid : Valid s) (mode : ℕ → Mode) (lacks : Bool)
    (answer : List ℕ) (peer : ℕ) (h : MessageHeader) (body : List ℕ) where
  abbrev own_server : Option Server
  own_server = find (is_server h.session) s.servers

  abbrev served : ServerRow → List Fact
  served row = served_facts (mode h.req_type) s.me answer s.queued own_server h body row

  begun : server_row (mode h.req_type) (are_full s.jobs) lacks own_server peer h ≡ Begins
      → AllAllowed clock s (served Begins) → GivesJobs clock s (served Begins)
  begun row all =
      let older = flushes_older s.me s.queued own_server h.request in
      let still = older-still s.me s.queued own_server h.request in
      let jobs = same-jobs clock s older still in
      gives-then clock s older (took_facts (mode h.req_type) s.me answer h body)
      (gives-none clock s older still)
      (took-gives clock (after_all clock s older) s.me answer h body (mode h.req_type)
      (λ last. ap (λ (j : Jobs). jobs_of h.session h.request j.out) jobs
      ∙ begins-by s valid h (mode h.req_type) (are_full s.jobs) lacks peer own_server refl row)
      (allowed-back clock s older (took_facts (mode h.req_type) s.me answer h body) all))

  served-by : (row : ServerRow)
      → server_row (mode h.req_type) (are_full s.jobs) lacks own_server peer h ≡ row
      → AllAllowed clock s (served row) → GivesJobs clock s (served row)
  served-by (Drops why) row all = gives-none clock s (served (Drops why)) (refl, tt)
  served-by Begins row all = begun row all
  served-by Takes row all =
      took-gives clock s s.me answer h (whole_ask own_server h.request body) (mode h.req_type)
      (λ last. takes-by s valid h (mode h.req_type) (are_full s.jobs) lacks peer last own_server
      refl row) all
  served-by Repeats row all = gives-none clock s (served Repeats) (refl, (refl, tt))

  abbrev own_row : ServerRow
  own_row = server_row (mode h.req_type) (are_full s.jobs) lacks own_server peer h

  asks-give : AllAllowed clock s (served own_row) → GivesJobs clock s (served own_row)
  asks-give all = served-by own_row refl all

  replies-give : GivesJobs clock s (reply_facts s.me (find (is_client h.session) s.clients) h body
      (client_row s.queued (find (is_client h.session) s.clients) peer h (length body)))
  replies-give =
      gives-none clock s _ (reply-still s.me (find (is_client h.session) s.clients) h body
      (client_row s.queued (find (is_client h.session) s.clients) peer h (length body)))

  by-kind : (k : Kind) → AllAllowed clock s (handling_by mode lacks answer k s peer h body)
      → GivesJobs clock s (handling_by mode lacks answer k s peer h body)
  by-kind Request all = asks-give all
  by-kind Rfr all = asks-give all
  by-kind Cr all = replies-give
  by-kind Response all = replies-give

  by-life : (b : Bool)
      → AllAllowed clock s (cond b (handling_by mode lacks answer h.kind s peer h body)
      (plain s.me (Dropped StaleLife) ∷ []))
      → GivesJobs clock s (cond b (handling_by mode lacks answer h.kind s peer h body)
      (plain s.me (Dropped StaleLife) ∷ []))
  by-life true all = by-kind h.kind all
  by-life false all = gives-none clock s (plain s.me (Dropped StaleLife) ∷ []) (refl, tt)

-- a step from valid lists: its facts give the jobs that are out behind it, and these are valid
pub record Gives (s : Timed) (x : List Fact) (t : Timed) : Type 0 where
  pub out : names t.lists.jobs.out ≡ names s.lists.jobs.out ++ given_in x
  pub valid : Valid t.lists

abbrev pub GivesBy : Rel → Type 0
GivesBy P = (s : Timed) (x : List Fact) (t : Timed) → Valid s.lists → P s x t → Gives s x t

gives-at : (s : Timed) (x : List Fact) (t : Timed) → Valid s.lists → LeadsAt s x t
    → GivesJobs s.clock s.lists x → Gives s x t
gives-at s x t v leads g = record {
  out = ap (λ (l : Lists). names l.jobs.out) leads.lists ∙ g;
  valid = valid-at s x t v leads;
}

still-gives : (P : Rel) → Lawful P → Stills is_of_jobs P → GivesBy P
still-gives P lawful still s x t v h =
    gives-at s x t v (lawful s x t v h) (gives-none s.clock s.lists x (still s x t h))

then-gives : (P Q : Rel) → GivesBy P → GivesBy Q → GivesBy (Then P Q)
then-gives P Q p q s x t v h =
    let a = p s h.front h.between v h.first in
    let b = q h.between h.back t a.valid h.second in
    record {
      out = b.out ∙ (ap (λ (l : List (ℕ × ℕ)). l ++ given_in h.back) a.out
          ∙ (append_assoc (names s.lists.jobs.out) (given_in h.front) (given_in h.back)
          ∙ ap (λ (l : List (ℕ × ℕ)). names s.lists.jobs.out ++ l)
          (sym (given-append h.front h.back) ∙ ap given_in (sym h.joined))));
      valid = b.valid;
    }

chain-gives : (P : Rel) → GivesBy P → GivesBy (Chain P)
chain-gives P p s x t v none =
    record { out = sym (append-nil (names s.lists.jobs.out)); valid = v }
chain-gives P p s x t v (more {x = front} {t = between} c y u h) =
    let a = chain-gives P p s front between v c in
    let b = p between y u a.valid h in
    record {
      out = b.out ∙ (ap (λ (l : List (ℕ × ℕ)). l ++ given_in y) a.out
          ∙ (append_assoc (names s.lists.jobs.out) (given_in front) (given_in y)
          ∙ ap (λ (l : List (ℕ × ℕ)). names s.lists.jobs.out ++ l) (sym (given-append front y))));
      valid = b.valid;
    }

handles-give : (mode : ℕ → Mode) → GivesBy (Handles mode)
handles-give mode s x t v h =
    let leads = handles-lawful mode s x t v h in
    let body = body_of h.front.bytes in
    let all : AllAllowed s.clock s.lists
    (handled mode h.lacks h.answer s.lists h.front.peer h.header body) =
    subst (λ (y : List Fact). AllAllowed s.clock s.lists y) h.facts leads.all in
    gives-at s x t v leads (subst (λ (y : List Fact). GivesJobs s.clock s.lists y) (sym h.facts)
    (by-life s.clock s.lists v mode h.lacks h.answer h.front.peer h.header body
    (h.header.to_life == s.lists.life) all))

-- the steps of a poll behind the first
module _ (mode : ℕ → Mode) (stopped : Bool) where
  abbrev Later : Rel
  Later = Then HearsAll (Then (HandlesAll mode)
      (Then TimesAll (Then PostsAll (Then (SendsUntil stopped) Closes))))

  sends-give : GivesBy (SendsUntil stopped)
  sends-give s x t v h =
      still-gives (Chain Sends) (λ s x t v h. lawful-chain Sends sends-lawful s v h)
      (sends-still is_of_jobs (λ p o k. refl)) s x t v (sends-some stopped s x t h)

  later-give : GivesBy Later
  later-give =
      then-gives HearsAll _ (still-gives HearsAll hears-all-lawful
      (hears-still is_of_jobs (λ o k. refl) (λ i. refl) (λ p i c. refl) (λ p i c. refl)
      (λ i p j c l. refl) (λ i j l. refl) (λ i. refl) (λ i. refl) (λ p o k. refl) (λ p. refl) refl))
      (then-gives (HandlesAll mode) _
      (λ s x t v h. chain-gives (Handles mode) (handles-give mode) s x t v h.steps)
      (then-gives TimesAll _ (still-gives TimesAll timers-lawful
      (times-still is_of_jobs (λ o k. refl) (λ c a b. refl) (λ i. refl) (λ c. refl)
      (λ p o k. refl) (λ p. refl) (λ i. refl) (λ i. refl)))
      (then-gives PostsAll _ (still-gives PostsAll posts-lawful
      (posts-still is_of_jobs (λ c r. refl) (λ o k. refl)))
      (then-gives (SendsUntil stopped) Closes sends-give
      (still-gives Closes closes-lawful (closes-still is_of_jobs (λ n. refl)))))))

-- jobs are finished
finished-one : (clock : ℕ) (s : Lists) (job : Job) (answer : List ℕ) (posted : Option ℕ)
    → ((after_all clock s (with_two s.me (Ran job.session job.request job.req_type) job.ask answer
    ∷ answer_posted s.me job posted)).jobs.out
    ≡ without_first (is_job job.session job.request) s.jobs.out)
    × (given_in (with_two s.me (Ran job.session job.request job.req_type) job.ask answer
    ∷ answer_posted s.me job posted) ≡ [])
finished-one clock s job answer None = (refl, refl)
finished-one clock s job answer (Some k) = (refl, refl)

these-left : (answer : ℕ → List ℕ → List ℕ) (ps : List Parcel) (s : Timed) (x : List Fact)
    (t : Timed) → FinishesThese answer ps s x t
    → (t.lists.jobs.out ≡ jobs_left ps s.lists.jobs.out) × (given_in x ≡ [])
these-left answer [] s x t h =
    (ap (λ (u : Timed). u.lists.jobs.out) h.1, ap given_in h.0)
these-left answer (p ∷ ps) s x t h =
    let f = h.first in
    let job = f.job in
    let rest = these-left answer ps h.between h.back t h.second in
    let parts = and_parts (job.session == p.session) (job.request == p.request)
    (find-passes (is_job p.session p.request) s.lists.jobs.out job f.is_out) in
    let session : job.session ≡ p.session = eqb-true job.session p.session parts.0 in
    let request : job.request ≡ p.request = eqb-true job.request p.request parts.1 in
    let one = finished-one s.clock s.lists job (answer job.req_type job.ask)
    (awaited job s.lists.servers) in
    let left : h.between.lists.jobs.out
    ≡ without_first (is_job p.session p.request) s.lists.jobs.out =
    ap (λ (u : Timed). u.lists.jobs.out) f.goes
    ∙ (ap (λ (y : List Fact). (after_all s.clock s.lists y).jobs.out) f.facts
    ∙ (one.0 ∙ ap₂ (λ (a b : ℕ). without_first (is_job a b) s.lists.jobs.out) session request)) in (
      rest.0 ∙ ap (jobs_left ps) left,
      ap given_in h.joined ∙ (given-append h.front h.back
          ∙ ap₂ (λ (a b : List (ℕ × ℕ)). a ++ b) (ap given_in f.facts ∙ one.1) rest.1),
    )

-- names of jobs, whatever these ask
told-names : (asks : Asks) (jobs : List Job) → names (map (with_ask asks) jobs) ≡ names jobs
told-names asks jobs = map-map job_name (with_ask asks) jobs

abbrev is_name : ℕ → ℕ → ℕ × ℕ → Bool
is_name t r n = n.0 == t && n.1 == r

first-by : (t r : ℕ) (j : Job) (js : List Job) (b : Bool)
    → names (without_first (is_job t r) js) ≡ without_first (is_name t r) (names js)
    → names (cond b js (j ∷ without_first (is_job t r) js))
    ≡ cond b (names js) (job_name j ∷ without_first (is_name t r) (names js))
first-by t r j js true ih = refl
first-by t r j js false ih = ap (λ (l : List (ℕ × ℕ)). job_name j ∷ l) ih

first-names : (t r : ℕ) (js : List Job)
    → names (without_first (is_job t r) js) ≡ without_first (is_name t r) (names js)
first-names t r [] = refl
first-names t r (j ∷ js) = first-by t r j js (is_job t r j) (first-names t r js)

left-names : (ps : List Parcel) (js ks : List Job) → names js ≡ names ks
    → names (jobs_left ps js) ≡ names (jobs_left ps ks)
left-names [] js ks same = same
left-names (p ∷ ps) js ks same =
    left-names ps (without_first (is_job p.session p.request) js)
    (without_first (is_job p.session p.request) ks)
    (first-names p.session p.request js
    ∙ (ap (without_first (is_name p.session p.request)) same
    ∙ sym (first-names p.session p.request ks)))

named-names : (ps : List Parcel) → names (map job_named ps) ≡ map name_of ps
named-names ps = map-map job_name job_named ps

-- a poll
module _ (v : Serving) (answer : ℕ → List ℕ → List ℕ) (stopped : Bool) (now : ℕ)
    (before later : Crew) (s : Timed) (x : List Fact) (t : Timed)
    (valid : Valid (told before.staff.out s).lists)
    (does : PollsWith v answer stopped now before later s x t) where
  abbrev from : Timed
  from = raised now (told before.staff.out s)

  -- the jobs that are left, behind the first step
  finished : (names does.polls.between.lists.jobs.out
      ≡ names (jobs_left does.parcels s.lists.jobs.out))
      × (given_in does.polls.front ≡ []) × Valid does.polls.between.lists
  finished =
      let first = does.polls.first.finishes in
      let left = these-left answer does.parcels from does.polls.front does.polls.between first in (
        ap names left.0
            ∙ left-names does.parcels (told before.staff.out s).lists.jobs.out s.lists.jobs.out
            (told-names _ s.lists.jobs.out),
        left.1,
        valid-at from does.polls.front does.polls.between valid
            (finishes-some from does.polls.front does.polls.between valid
            (these-some answer does.parcels from does.polls.front does.polls.between first)),
      )

  -- its Given facts are those of the jobs that its workers were given, in order
  pub polls-given : given_in x ≡ map name_of does.gave
  polls-given =
      let first = finished in
      let later_given = later-give v.mode stopped does.polls.between does.polls.back _ first.2
      does.polls.second in
      let left = names (jobs_left does.parcels s.lists.jobs.out) in
      let end : names t.lists.jobs.out ≡ left ++ map name_of does.gave =
      ap names does.jobs ∙ (map-append job_name (jobs_left does.parcels s.lists.jobs.out)
      (map job_named does.gave)
      ∙ ap (λ (l : List (ℕ × ℕ)). left ++ l) (named-names does.gave)) in
      let facts : given_in x ≡ given_in does.polls.back =
      ap given_in does.polls.joined ∙ (given-append does.polls.front does.polls.back
      ∙ ap (λ (l : List (ℕ × ℕ)). l ++ given_in does.polls.back) first.1) in
      facts ∙ append_cancel_left left (given_in does.polls.back) (map name_of does.gave)
      (ap (λ (l : List (ℕ × ℕ)). l ++ given_in does.polls.back) (sym first.0)
      ∙ (sym later_given.out ∙ (told-names _ t.lists.jobs.out ∙ end)))
