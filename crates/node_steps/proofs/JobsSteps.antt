-- A job that is finished, from what the store did to what the node notes.
use Rattle.std.proofs.Common.{◌≡◌, ◌≢◌, ℕ, ◌+◌, ◌-◌, ◌<◌, Bool, true, false, cond, Option, Some}
use Rattle.std.proofs.Common.{None}
use Rattle.std.proofs.Common.{List, [], ◌∷◌, length, refl, sym, ap, subst, ◌∙◌}
use Rattle.std.proofs.Common.{inr, arith}
use Rattle.std.specs.Prelude.{◌==◌, IfSome, map, option_and_then, option_map, slice_get, slice_set}
use Rattle.std.specs.List.{find, position}
use Rattle.std.proofs.lemmas.Bool.{and_parts, eqb-true}
use Rattle.message_buffer.specs.Buffer.{bytes_of}
use Rattle.packet_header.specs.Parts.{packet_count}
use Rattle.packet_rings.specs.Rings.{Ring}
use Rattle.packet_rings.specs.Values.{DatagramValue, EntryValue}
use Rattle.rpc_base.specs.Tables.{at_first, without_first}
use Rattle.rpc_base.specs.declared.event.Event.TheVariants.{Posted, Ran}
use Rattle.rpc_base.specs.declared.fact.Fact.{Fact}
use Rattle.rpc_base.specs.declared.limits.Limits.{Limits}
use Rattle.rpc_base.specs.declared.owner.Owner.{Owner}
use Rattle.rpc_base.specs.declared.owner.Owner.TheVariants.{Reply}
use Rattle.rpc_base.proofs.FirstLemmas.{all-kept, missing-same}
use Rattle.rpc_base.proofs.FirstLemmas.{all-left, some-counted, sum-fewer}
use Rattle.rpc_base.proofs.TablesLemmas.{at_first-found, find-found, find-missing}
use Rattle.rpc_base.proofs.TakingLemmas.{find-passes}
use Rattle.rpc_base.proofs.PlaceLemmas.{all-at}
use Rattle.rpc_laws.specs.declared.tables.Counted.{Counted}
use Rattle.rpc_laws.specs.declared.tables.Job.{Job}
use Rattle.rpc_laws.specs.declared.tables.Jobs.{Jobs}
use Rattle.rpc_laws.specs.declared.tables.Lists.{Lists}
use Rattle.rpc_laws.specs.declared.tables.Pace.{Pace}
use Rattle.rpc_laws.specs.declared.tables.Queued.{Queued}
use Rattle.rpc_laws.specs.declared.tables.Served.{Served}
use Rattle.rpc_laws.specs.declared.tables.Server.{Server}
use Rattle.rpc_laws.specs.declared.tables.Timed.{Timed}
use Rattle.rpc_laws.specs.Facts.{plain, with_two}
use Rattle.rpc_laws.specs.Jobs.{is_job}
use Rattle.rpc_laws.specs.NodeLists.{after, one_more}
use Rattle.rpc_laws.specs.PollOrder.{awaited, awaited_of, finished_facts, is_working}
use Rattle.rpc_laws.specs.Queues.{put_queued, replies}
use Rattle.rpc_laws.specs.Requests.{answered, is_request, is_server, request_of}
use Rattle.rpc_outside.specs.Recording.{Grew, Log}
use Rattle.rpc_outside.specs.declared.service.Mode.{Mode}
use Rattle.rpc_outside.specs.declared.service.Mode.TheVariants.{Background, Unserved}
use Rattle.node_laws.specs.Kept.{Kept}
use Rattle.node_laws.proofs.Allowed.{Stands}
use Rattle.node_laws.proofs.KeptLemmas.{kept-after, kept-total}
use Rattle.node_laws.proofs.ServeLemmas.{stands-ran}
use Rattle.node_laws.proofs.WorkLemmas.{job-has-worker}
use Rattle.server_core.proofs.FlushLemmas.{grew-then}
use Rattle.server_core.specs.Steps.{gone_on_as}
use Rattle.session_store.specs.Changes.{is_waited}
use Rattle.session_store.specs.Sides.{HasRoom, Shown}
use Rattle.session_ends.specs.Joined.{queued_of}
use Rattle.node_steps.proofs.QueueEntries.{put-all, replies-more}
use Rattle.session_ends.proofs.ListLemmas.{all-set}
use Rattle.worker_board.specs.declared.Parcel.{Parcel}
use Rattle.node_steps.specs.Jobs.{AllBackground, AnswersTo, AsksOf, is_named}
use Rattle.node_steps.specs.Fits.{Fits, HasCredit, IsSendable}
use Rattle.node_steps.specs.Notes.{MakesWhere}
use Rattle.node_steps.specs.Seen.{Asks, Tallies, asking, asking_jobs, jobs_in, seen_node}
use Rattle.node_steps.specs.Seen.{unasked, with_ask}
use Rattle.node_steps.specs.Requests.{AllServed, FinishesWith, SlotsServed}
use Rattle.node_steps.specs.declared.jobs.JobName.{JobName}
use Rattle.node_steps.proofs.NodeFits.{has-places, two-parts}

-- the first that passes, by what is shown of the elements
module _ {A B : Type 0} (f : A → B) (p : B → Bool) where
  find-shown-cons : (x : A) (xs : List A) (b : Bool)
      → find p (map f xs) ≡ option_map f (find (λ y. p (f y)) xs)
      → cond b (Some (f x)) (find p (map f xs))
      ≡ option_map f (cond b (Some x) (find (λ y. p (f y)) xs))
  find-shown-cons x xs true ih = refl
  find-shown-cons x xs false ih = ih

  pub find-shown : (xs : List A) → find p (map f xs) ≡ option_map f (find (λ y. p (f y)) xs)
  find-shown [] = refl
  find-shown (x ∷ xs) = find-shown-cons x xs (p (f x)) (find-shown xs)

  without-shown-cons : (x : A) (xs : List A) (b : Bool)
      → map f (without_first (λ y. p (f y)) xs) ≡ without_first p (map f xs)
      → map f (cond b xs (x ∷ without_first (λ y. p (f y)) xs))
      ≡ cond b (map f xs) (f x ∷ without_first p (map f xs))
  without-shown-cons x xs true ih = refl
  without-shown-cons x xs false ih = ap (λ (ys : List B). f x ∷ ys) ih

  pub without-shown : (xs : List A) → map f (without_first (λ y. p (f y)) xs) ≡ without_first p
      (map f xs)
  without-shown [] = refl
  without-shown (x ∷ xs) = without-shown-cons x xs (p (f x)) (without-shown xs)

-- what changes nothing in the first that passes
module _ {A : Type 0} (p : A → Bool) (f : A → A) where
  own-cons : (x : A) (xs : List A) (b : Bool)
      → ((y : A) → cond b (Some x) (find p xs) ≡ Some y → f y ≡ y)
      → (((y : A) → find p xs ≡ Some y → f y ≡ y) → at_first p f xs ≡ xs)
      → cond b (f x ∷ xs) (x ∷ at_first p f xs) ≡ x ∷ xs
  own-cons x xs true same ih = ap (λ (y : A). y ∷ xs) (same x refl)
  own-cons x xs false same ih = ap (λ (ys : List A). x ∷ ys) (ih same)

  pub first-own : (xs : List A) → ((y : A) → find p xs ≡ Some y → f y ≡ y) → at_first p f xs ≡ xs
  first-own [] same = refl
  first-own (x ∷ xs) same = own-cons x xs (p x) same (first-own xs)

-- the jobs that are out, without one
abbrev pub without_job : (t r : ℕ) → Jobs → Jobs
without_job t r jobs = record jobs { out = without_first (is_job t r) jobs.out }

pub jobs-left : (t r limit given : ℕ) (names left : List JobName) → left ≡ without_first (is_named
    t r) names
    → jobs_in limit given left ≡ without_job t r (jobs_in limit given names)
jobs-left t r limit given names left e =
    ap (λ (out : List Job). record { limit = limit; given = given; out = out })
    (ap (λ (xs : List JobName). map unasked xs) e ∙ without-shown unasked (is_job t r) names)

asked-left : (asks : Asks) (t r : ℕ) (jobs : Jobs)
    → asking_jobs asks (without_job t r jobs) ≡ without_job t r (asking_jobs asks jobs)
asked-left asks t r jobs =
    ap (λ (out : List Job). record { limit = jobs.limit; given = jobs.given; out = out })
    (without-shown (with_ask asks) (is_job t r) jobs.out)

pub job-found : (t r limit given : ℕ) (names : List JobName) (o : Option JobName)
    → o ≡ find (is_named t r) names
    → find (is_job t r) (jobs_in limit given names).out ≡ option_map unasked o
job-found t r limit given names o e = find-shown unasked (is_job t r) names ∙ ap (option_map
    unasked) (sym e)

job-asked : (asks : Asks) (t r : ℕ) (out : List Job) (job : Job) → find (is_job t r) out ≡ Some job
    → find (is_job t r) (map (with_ask asks) out) ≡ Some (with_ask asks job)
job-asked asks t r out job e = find-shown (with_ask asks) (is_job t r) out ∙ ap (option_map
    (with_ask asks)) e

pub whose-job : (t r : ℕ) (job : Job) → is_job t r job ≡ true → (job.session ≡ t) × (job.request ≡
    r)
whose-job t r job e =
    let parts = and_parts (job.session == t) (job.request == r) e in
    (eqb-true job.session t parts.0, eqb-true job.request r parts.1)

-- where none passes, none is taken out
same-cons : {A : Type 0} (p : A → Bool) (y : A) (ys : List A) (b : Bool)
    → (find p ys ≡ None → without_first p ys ≡ ys) → cond b (Some y) (find p ys) ≡ None
    → cond b ys (y ∷ without_first p ys) ≡ y ∷ ys
same-cons p y ys true ih e = cc
same-cons p y ys false ih e = ap (λ zs. y ∷ zs) (ih e)

pub same-left : {A : Type 0} (p : A → Bool) (xs : List A) → find p xs ≡ None → without_first p xs ≡
    xs
same-left p [] e = refl
same-left p (y ∷ ys) e = same-cons p y ys (p y) (same-left p ys) e

-- lists with a job less are kept
kept-fewer : (s : Lists) (counts : Counted) (p : Job → Bool) → Kept s
    → Kept (record s {
      counts = counts;
      jobs = record s.jobs { out = without_first p s.jobs.out };
    })
kept-fewer s counts p k = record {
  valid = record {
    numbered = k.valid.numbered;
    alone = k.valid.alone;
    once = k.valid.once;
    sound = k.valid.sound;
    idle = k.valid.idle;
    served = k.valid.served;
    runs = λ t r.
        omega (
          arith,
          k.valid.runs t r,
          sum-fewer p (λ (job : Job). cond (is_job t r job) 1 0)
              s.jobs.out,
        );
    works = λ t r.
        omega (
          arith,
          k.valid.works t r,
          sum-fewer p (λ (job : Job). cond (is_job t r job) 1 0)
              s.jobs.out,
        );
    shared = k.valid.shared;
  };
  asked = k.asked;
  few = k.few;
  reads = k.reads;
  eight = k.eight;
  windows = k.windows;
  live = k.live;
  once = k.once;
}

-- a request that doesn't wait
waits-cases : (r : ℕ) (o : Option Server) → IfSome o (λ v. is_waited r v ≡ false)
    → is_working (option_and_then (λ v. find (is_request r) v.slots) o) ≡ false
waits-cases r None h = refl
waits-cases r (Some v) h = h

unawaited : (t r : ℕ) (bytes : List ℕ) (xs ys : List Server) (o : Option ℕ)
    → position (is_server t) xs ≡ o → AnswersTo o r bytes None xs ys
    → is_working (request_of t r xs) ≡ false
unawaited t r bytes xs ys None e h =
    ap (λ (v : Option Server). is_working (option_and_then (λ v. find (is_request r) v.slots) v))
    (find-missing (is_server t) xs e)
unawaited t r bytes xs ys (Some i) e h =
    ap (λ (v : Option Server). is_working (option_and_then (λ v. find (is_request r) v.slots) v))
    (find-found (is_server t) xs i e) ∙ waits-cases r (slice_get xs i) h.0

servers-stay : (r : ℕ) (bytes : List ℕ) (xs ys : List Server) (o : Option ℕ)
    → AnswersTo o r bytes None xs ys → ys ≡ xs
servers-stay r bytes xs ys None h = h.1
servers-stay r bytes xs ys (Some i) h = h.1

-- a request that would be with a worker if it were there isn't there
not-there : (o : Option Served) → ((q : Served) → o ≡ Some q → q.working ≡ true)
    → is_working o ≡ false → o ≡ None
not-there None works idle = refl
not-there (Some q) works idle = let clash : true ≡ false = sym (works q refl) ∙ idle in cc

-- the number of the reply to a request
none-awaited : (o : Option Served) → is_working o ≡ false → awaited_of o ≡ None
none-awaited None idle = refl
none-awaited (Some q) idle = let off : q.working ≡ false = idle in rw off refl

number-awaited : (n : ℕ) (o : Option Served) → is_working o ≡ true
    → IfSome o (λ q. n + 1 ≡ packet_count q.size) → awaited_of o ≡ Some n
number-awaited n None w last = let clash : false ≡ true = w in cc
number-awaited n (Some q) w last =
    let on : q.working ≡ true = w in
    let same : packet_count q.size - 1 ≡ n = omega (arith, last) in
    rw on (ap (λ (k : ℕ). Some k) same)

none-here : (r : ℕ) (v : Server) (o : Option Server)
    → option_and_then (λ v. find (is_request r) v.slots) o ≡ None → o ≡ Some v
    → find (is_request r) v.slots ≡ None
none-here r v None e h = cc
none-here r v (Some w) e h =
    let same : w ≡ v = cc in subst (λ (x : Server). find (is_request r) x.slots ≡ None) same e

unanswered : (t r : ℕ) (bytes : List ℕ) (xs : List Server) → request_of t r xs ≡ None
    → at_first (is_server t) (gone_on_as r (answered bytes)) xs ≡ xs
unanswered t r bytes xs none =
    first-own (is_server t) (gone_on_as r (answered bytes)) xs (λ v e.
    ap (λ (slots : List Served). record { way = v.way; credits = v.credits; slots = slots })
    (missing-same (is_request r) (answered bytes) v.slots
    (none-here r v (find (is_server t) xs) none e)))

-- the session of a job stands at its place
there : (n i : ℕ) (vs : List Server) (v : Server) → position (is_server n) vs ≡ Some i
    → slice_get vs i ≡ Some v → v.way.number ≡ n
there n i vs v e at =
    eqb-true v.way.number n (find-passes (is_server n) vs v (find-found (is_server n) vs i e ∙ at))

pub session-there : (n i : ℕ) (vs : List Server) → position (is_server n) vs ≡ Some i
    → IfSome (slice_get vs i) (λ v. n ≡ v.way.number)
session-there n i vs e = by (slice_get vs i) refl
  where
    by : (o : Option Server) → slice_get vs i ≡ o → IfSome o (λ v. n ≡ v.way.number)
    by None at = tt
    by (Some v) at = sym (there n i vs v e at)

-- the types of the jobs are told by those that were out
pub still-background : (mode : ℕ → Mode) (t r : ℕ) (out left : List Job)
    → left ≡ without_first (is_job t r) out → AllBackground mode out → AllBackground mode left
still-background mode t r out left is all =
    rw is (all-left (is_job t r) (λ (job : Job). mode job.req_type ≡ Background) out all)

-- the types of the requests stay
slots-served : (mode : ℕ → Mode) (r : ℕ) (bytes : List ℕ) (v : Server) → SlotsServed mode v
    → SlotsServed mode (gone_on_as r (answered bytes) v)
slots-served mode r bytes v served =
    all-kept (is_request r) (answered bytes) (λ (q : Served). mode q.req_type ≢ Unserved) v.slots
    (λ q h e. h)
    served

pub still-served : (mode : ℕ → Mode) (r : ℕ) (bytes : List ℕ) (xs ys : List Server) (o : Option ℕ)
    (e : Option EntryValue) → AnswersTo o r bytes e xs ys → AllServed mode xs → AllServed mode ys
still-served mode r bytes xs ys None e h served = rw h.1 served
still-served mode r bytes xs ys (Some i) None h served = rw h.1 served
still-served mode r bytes xs ys (Some i) (Some e) h served =
    rw h.changed (all-set (SlotsServed mode) xs i (gone_on_as r (answered bytes) h.server)
    (slots-served mode r bytes h.server (all-at (SlotsServed mode) xs i h.server served h.place))
    (λ j x f other. all-at (SlotsServed mode) xs j x served f))

-- the request that waited, and the number of its reply
record Waited (t r : ℕ) (bytes : List ℕ) (e : EntryValue) (xs ys : List Server) : Type 0 where
  pub place : ℕ
  pub server : Server
  pub at : slice_get xs place ≡ Some server
  pub found : find (is_server t) xs ≡ Some server
  pub waited : is_waited r server ≡ true
  pub owner : e.owner ≡ Reply t r
  pub last : IfSome (find (is_request r) server.slots) (λ q. e.number + 1 ≡ packet_count q.size)
  pub told : ys ≡ at_first (is_server t) (gone_on_as r (answered bytes)) xs
  pub changed : ys ≡ slice_set xs place (gone_on_as r (answered bytes) server)

waited-for : (t r : ℕ) (bytes : List ℕ) (e : EntryValue) (xs ys : List Server) (o : Option ℕ)
    → position (is_server t) xs ≡ o → AnswersTo o r bytes (Some e) xs ys → Waited t r bytes e xs ys
waited-for t r bytes e xs ys None p h = let clash : Some e ≡ None = h.0 in cc
waited-for t r bytes e xs ys (Some i) p h = record {
  place = i;
  server = h.server;
  at = h.place;
  found = find-found (is_server t) xs i p ∙ h.place;
  waited = h.waited;
  owner = h.owner ∙ ap (λ n. Reply n r) (there t i xs h.server p h.place);
  last = h.last;
  told = h.changed ∙ sym (at_first-found (is_server t) (gone_on_as r (answered bytes)) xs i
      h.server p h.place);
  changed = h.changed;
}

module _ (me : ℕ) (limits : Limits) (tallies : Tallies) (paces : List Pace) (jobs : Jobs)
    (clock : ℕ) (rx : Ring DatagramValue) (s : Shown) where
  abbrev seen_with : Jobs → Timed
  seen_with js = seen_node me limits tallies paces js clock rx s

  -- the old node, in which fewer replies are queued than the ring is long
  module _ (fits : Fits (seen_with jobs) s.size s.places) where
    pub ring-room : replies s.queued < rx.size → length s.queued < s.size
    ring-room room =
        let total = kept-total (seen_with jobs).lists fits.kept in
        omega (arith, two-parts s.queued fits.sendable, total, room, fits.packets)

    pub pool-room : HasRoom s
    pool-room = has-places (seen_with jobs).lists s.places fits.kept fits.settled fits.credits
        fits.jobs fits.buffers

    module _ (t : Shown) (p : Parcel) (n : ℕ)
        (clients : t.clients ≡ s.clients) (size : t.size ≡ s.size) (places : t.places ≡ s.places)
        (more : n ≡ one_more tallies.counts.ran)
        (later : Jobs) (left : later ≡ without_job p.session p.request jobs) (job : Job)
        (out : find (is_job p.session p.request) jobs.out ≡ Some job) where
      abbrev session : ℕ
      session = p.session

      abbrev request : ℕ
      request = p.request

      abbrev bytes : List ℕ
      bytes = bytes_of p.out

      abbrev counts : Counted
      counts = record tallies.counts { ran = n }

      -- the node that it becomes
      abbrev next_with : Jobs → Timed
      next_with js =
          seen_node me limits (record tallies { counts = counts }) paces js clock rx t

      whose : (job.session ≡ session) × (job.request ≡ request)
      whose = whose-job session request job (find-passes (is_job session request) jobs.out job out)

      abbrev ran : List ℕ → Fact
      ran ask = with_two me (Ran session request job.req_type) ask bytes

      abbrev posted_by : Option ℕ → List Fact
      posted_by None = []
      posted_by (Some k) = plain me (Posted (Reply session request) k) ∷ []

      abbrev told : List Server
      told = at_first (is_server session) (gone_on_as request (answered bytes)) s.servers

      -- the node after the run is noted
      goes-ran : (js : Jobs) (ask : List ℕ) → t.servers ≡ told → t.queued ≡ s.queued
          → next_with (without_job session request js)
          ≡ record { lists = after clock (seen_with js).lists (ran ask); clock = clock }
      goes-ran js ask servers queued = rw (clients, servers, queued, more) refl

      abbrev waiting : Option Served
      waiting = request_of session request s.servers

      awaited-as : (asks : Asks) → awaited (with_ask asks job) s.servers ≡ awaited_of waiting
      awaited-as asks = rw (whose.0, whose.1) refl

      facts-are : (asks : Asks) (ask : List ℕ) (o : Option ℕ) → asks session request ≡ ask
          → awaited_of waiting ≡ o
          → finished_facts bytes (asking asks (seen_with jobs)).lists (with_ask asks job)
          ≡ ran ask ∷ posted_by o
      facts-are asks ask None same e =
          let is : awaited (with_ask asks job) s.servers ≡ None = awaited-as asks ∙ e in
          rw (is, whose.0, whose.1, same) refl
      facts-are asks ask (Some k) same e =
          let is : awaited (with_ask asks job) s.servers ≡ Some k = awaited-as asks ∙ e in
          rw (is, whose.0, whose.1, same) refl

      out-asked : (asks : Asks) → find (is_job session request) (asking_jobs asks jobs).out ≡ Some
          (with_ask asks job)
      out-asked asks = job-asked asks session request jobs.out job out

      next-asked : (asks : Asks) → asking_jobs asks later ≡ without_job session request
          (asking_jobs asks jobs)
      next-asked asks = ap (asking_jobs asks) left ∙ asked-left asks session request jobs

      -- its request doesn't wait for it
      module _ (answers : AnswersTo (position (is_server session) s.servers) request bytes None
          s.servers t.servers) (queued : t.queued ≡ s.queued) where
        same-servers : t.servers ≡ s.servers
        same-servers = servers-stay request bytes s.servers t.servers (position (is_server session)
            s.servers) answers

        same-queue : t.queued ≡ s.queued
        same-queue = queued

        idle : is_working waiting ≡ false
        idle = unawaited session request bytes s.servers t.servers
            (position (is_server session) s.servers) refl answers

        -- a worker has the request of each job, so this one isn't there
        none-waits : waiting ≡ None
        none-waits =
            not-there waiting (λ q found. job-has-worker session request (seen_with jobs).lists
            fits.kept.valid q found (some-counted (is_job session request) (is_job session request)
            jobs.out job out (find-passes (is_job session request) jobs.out job out))) idle

        pub fits-unposted : Fits (next_with later) t.size t.places
        fits-unposted = record {
          kept = rw (clients, same-servers, same-queue, left)
              (kept-fewer (seen_with jobs).lists counts (is_job session request) fits.kept);
          ascends = rw clients fits.ascends;
          paces = fits.paces;
          settled = rw clients fits.settled;
          numbers = rw clients fits.numbers;
          each = rw clients fits.each;
          credits = rw same-servers fits.credits;
          sendable = rw same-queue fits.sendable;
          replies = rw same-queue fits.replies;
          most = fits.most;
          packets = size ∙ fits.packets;
          jobs = rw left fits.jobs;
          alive = fits.alive;
          server_numbers = fits.server_numbers;
          buffers = rw left (places ∙ fits.buffers);
        }

        pub node-unposted : {R : Type 0} (log : R → Log)
            (before now : R) (first second : List ℕ) → first ≡ bytes_of p.ask → second ≡ bytes
            → Grew (log before) (log now)
            (with_two me (Ran session request job.req_type) first second ∷ [])
            → MakesWhere log (AsksOf p) (FinishesWith session request bytes)
            (seen_with jobs) (next_with later) before now
        node-unposted log before now first second is_first is_second grew = record {
          noted = ran first ∷ [];
          grew = rw (← is_second) grew;
          step = λ asks asked. record {
            job = with_ask asks job;
            is_out = out-asked asks;
            facts = sym (facts-are asks first None (asked ∙ sym is_first)
                (none-awaited waiting idle));
            goes = ap next_with (next-asked asks)
                ∙ goes-ran (asking_jobs asks jobs) first
                (same-servers ∙ sym (unanswered session request bytes s.servers none-waits))
                same-queue;
          };
        }

      -- its request waits for it
      module _ (e : EntryValue) (answers : AnswersTo (position (is_server session) s.servers)
          request
          bytes (Some e) s.servers t.servers) (queued : t.queued ≡ put_queued (queued_of e) s.queued)
        where
          w : Waited session request bytes e s.servers t.servers
          w = waited-for session request bytes e s.servers t.servers
              (position (is_server session) s.servers) refl answers

          abbrev posted : Fact
          posted = plain me (Posted (Reply session request) e.number)

          abbrev entry : Queued
          entry = record { owner = Reply session request; number = e.number; due = None }

          one-more : t.queued ≡ put_queued entry s.queued
          one-more = queued
              ∙ ap (λ (o : Owner). put_queued (record { owner = o; number = e.number; due = None })
              s.queued) w.owner

          at-work : is_working (request_of session request s.servers) ≡ true
          at-work =
              ap (λ (v : Option Server). is_working (option_and_then (λ v. find (is_request
              request) v.slots) v))
              w.found ∙ w.waited

          goes-posted : (js : Jobs) (ask : List ℕ) → next_with (without_job session request js)
              ≡ record {
                lists = after clock (after clock (seen_with js).lists (ran ask)) posted;
                clock = clock;
              }
          goes-posted js ask =
              rw (clients, w.told, one-more, more) refl

          pub fits-answered : replies s.queued < rx.size → Fits (next_with later) t.size t.places
          fits-answered room = record {
            kept = rw left (rw (ap (λ (u : Timed). u.lists) (goes-posted jobs []))
                (kept-after clock (after clock (seen_with jobs).lists (ran [])) posted
                (kept-after clock (seen_with jobs).lists (ran []) fits.kept
                (inr (record { job = job; found = out })))
                (stands-ran session request bytes s.servers
                (stands (request_of session request s.servers) refl at-work))));
            ascends = rw clients fits.ascends;
            paces = fits.paces;
            settled = rw clients fits.settled;
            numbers = rw clients fits.numbers;
            each = rw clients fits.each;
            credits = rw w.changed (all-set HasCredit s.servers w.place
                (gone_on_as request (answered bytes) w.server)
                (all-at HasCredit s.servers w.place w.server fits.credits w.at)
                (λ j x f other. all-at HasCredit s.servers j x fits.credits f));
            sendable = rw one-more (put-all entry IsSendable (refl, λ reply. refl) s.queued fits.sendable);
            replies = rw one-more (omega (arith, replies-more entry s.queued refl, room));
            most = fits.most;
            packets = size ∙ fits.packets;
            jobs = rw left fits.jobs;
            alive = fits.alive;
            server_numbers = fits.server_numbers;
            buffers = rw left (places ∙ fits.buffers);
          }
            where
              stands : (o : Option Served) → request_of session request s.servers ≡ o
                  → is_working o ≡ true → Stands s.servers session request
              stands None found h = cc
              stands (Some q) found h = record { served = q; found = found }

          number-is : awaited_of waiting ≡ Some e.number
          number-is =
              let here : waiting ≡ find (is_request request) w.server.slots =
              ap (λ (v : Option Server). option_and_then (λ v. find (is_request request) v.slots) v)
              w.found in
              ap (λ (o : Option Served). awaited_of o) here
              ∙ number-awaited e.number (find (is_request request) w.server.slots) w.waited w.last

          pub node-answered : {R : Type 0} (log : R → Log)
              (before between now : R) (first second : List ℕ) (number : ℕ) → first ≡ bytes_of p.ask
              → second ≡ bytes → number ≡ e.number
              → Grew (log before) (log between)
              (with_two me (Ran session request job.req_type) first second ∷ [])
              → Grew (log between) (log now) (plain me (Posted (Reply session request) number) ∷ [])
              → MakesWhere log (AsksOf p) (FinishesWith session request bytes)
              (seen_with jobs) (next_with later) before now
          node-answered log before between now first second number is_first is_second
              is_number one two = record {
                noted = ran first ∷ posted ∷ [];
                grew = grew-then log before between now (ran first ∷ []) (posted ∷ [])
                    (rw (← is_second) one) (rw (← is_number) two);
                step = λ asks asked. record {
                  job = with_ask asks job;
                  is_out = out-asked asks;
                  facts = sym (facts-are asks first (Some e.number) (asked ∙ sym is_first)
                      number-is);
                  goes = ap next_with (next-asked asks) ∙ goes-posted (asking_jobs asks jobs) first;
                };
              }
