-- The jobs of a node stay those of requests that stand in their slots, each of another one.
use Rattle.std.proofs.Common.{◌≡◌, ◌≤◌, ◌+◌, ◌==◌, inl, inr, ℕ, Bool, true, false, cond, List, []}
use Rattle.std.proofs.Common.{◌∷◌, ◌++◌, Option, Some, None, refl, sym, ap, ◌∙◌, subst, arith}
use Rattle.std.proofs.Common.{eq-eqb, length, min, ◌*◌}
use Rattle.std.specs.Prelude.{◌%◌, count_by}
use Rattle.std.specs.List.{find, list_any, AllByRecursion}
use Rattle.std.proofs.lemmas.Bool.{eqb-true, and_parts}
use Rattle.packet_header.specs.Parts.{packet_count}
use Rattle.packet_header.proofs.PartsLemmas.{packet_count_room}
use Rattle.packet_header.specs.declared.packet.MessageHeader.{MessageHeader}
use Rattle.rpc_base.specs.Tables.{at_first, without_first}
use Rattle.rpc_base.proofs.TakingLemmas.{find-passes}
use Rattle.rpc_base.specs.declared.event.Event.{Event}
use Rattle.rpc_base.specs.declared.event.Event.TheVariants.{PairedServer, Accepted, Ended, Took, Given, Ran}
use Rattle.rpc_base.specs.declared.owner.Owner.TheVariants.{Ask, Reply, Control}
use Rattle.rpc_laws.specs.declared.tables.InFlight.{InFlight}
use Rattle.rpc_laws.specs.declared.tables.Job.{Job}
use Rattle.rpc_laws.specs.declared.tables.Jobs.{Jobs}
use Rattle.rpc_laws.specs.declared.tables.Lists.{Lists}
use Rattle.rpc_laws.specs.declared.tables.Served.{Served}
use Rattle.rpc_laws.specs.declared.tables.Server.{Server}
use Rattle.rpc_laws.specs.Front.{front_header, front_body}
use Rattle.rpc_laws.specs.Jobs.{is_job, job_of, new_job, jobs_after}
use Rattle.rpc_laws.specs.Requests.{is_server, is_request, in_slot_of, first_packet, next_packet}
use Rattle.rpc_laws.specs.Requests.{took_packet, given, answered, servers_after}
use Rattle.rpc_laws.specs.Requests.{server_end, server_numbers_after}
use Rattle.end_laws.proofs.Allowed.{TakesOf, IsWhole, May}
use Rattle.end_laws.proofs.AskSteps.{slots-found}
use Rattle.rpc_base.proofs.FirstLemmas.{all-fail}
use Rattle.end_laws.proofs.CountLemmas.{count-append, count-one, count-out, count-none}
use Rattle.end_laws.proofs.ListLemmas.{all-both, all-map, all-add, all-without, all-found}
use Rattle.end_laws.proofs.ListLemmas.{find-first, find-after, find-without, find-add}
use Rattle.end_laws.proofs.QueueLemmas.{server-after, stands-same, is_end, found-ended, RightNode}
use Rattle.end_laws.proofs.Rights.{Stands, JobFits, JobRight, JobsRight, stands-right}
use Rattle.end_laws.proofs.SessionLemmas.{Alone, over-after, over-added, over-ended}
use Rattle.end_laws.proofs.SlotLemmas.{with_slots, Apart, Sound, any-find, slot-of-request}
use Rattle.rpc_base.proofs.BasicLemmas.{false-true}

-- what a worker has still stands, with as many packets or more
pub record KeptSlot (slots : List Served) (r : ℕ) (q : Served) : Type 0 where
  pub now : Served
  pub is_there : find (is_request r) slots ≡ Some now
  pub working : now.working ≡ true
  pub sized : now.size ≡ q.size

-- a request that goes on, or becomes a job
changed-kept : (slots : List Served) (n : ℕ) (change : Served → Served) (r : ℕ) (q : Served)
    → ((x : Served) → (change x).number ≡ x.number) → ((x : Served) → (change x).size ≡ x.size)
    → ((x : Served) → x.working ≡ true → (change x).working ≡ true)
    → find (is_request r) slots ≡ Some q → q.working ≡ true
    → KeptSlot (at_first (is_request n) change slots) r q
changed-kept slots n change r q number sized works is w =
    elim (find-after (is_request n) (is_request r) change slots q (λ x. ap (λ (m : ℕ). m == r) (number x)) is) [
      | inl e ↦ record { now = q; is_there = e; working = w; sized = refl }
      | inr c ↦ record { now = change q; is_there = c.is; working = works q w; sized = sized q }
    ]

-- another request is answered
answered-kept : (slots : List Served) (n : ℕ) (answer : List ℕ) (r : ℕ) (q : Served) → (r ≡ n → ⊥)
    → find (is_request r) slots ≡ Some q → q.working ≡ true
    → KeptSlot (at_first (is_request n) (answered answer) slots) r q
answered-kept slots n answer r q other is w =
    elim (find-after (is_request n) (is_request r) (answered answer) slots q (λ x. refl) is) [
      | inl e ↦ record { now = q; is_there = e; working = w; sized = refl }
      | inr c ↦ absurd (other (sym (eqb-true q.number r (find-passes (is_request r) slots q is))
          ∙ eqb-true q.number n c.passes))
    ]

out-of-slot : (n : ℕ) (r : ℕ) (slots : List Served) (q : Served) (b : Bool) → in_slot_of n q ≡ b
    → Apart slots → find (is_request r) slots ≡ Some q → q.working ≡ true
    → ((z : Served) → find (in_slot_of n) slots ≡ Some z → z.working ≡ false) → b ≡ false
out-of-slot n r slots q true t a is w idle =
    let mine : q.number ≡ r = eqb-true q.number r (find-passes (is_request r) slots q is) in
    let here : q.number % 8 ≡ n % 8 = eqb-true (q.number % 8) (n % 8) t in
    let slot : r % 8 ≡ n % 8 = ap (λ (m : ℕ). m % 8) (sym mine) ∙ here in
    let at : find (in_slot_of n) slots ≡ Some q =
    ap (λ k. find (λ (z : Served). z.number % 8 == k) slots) (sym slot)
    ∙ slot-of-request r slots q a is in
    false-true (sym (idle q at) ∙ w)
out-of-slot n r slots q false t a is w idle = refl

took-kept : (going : Option Served) (slots : List Served) (h : MessageHeader) (body : List ℕ)
    (r : ℕ) (q : Served) → Apart slots → TakesOf going slots h → find (is_request r) slots ≡ Some q
    → q.working ≡ true → KeptSlot (took_packet h.request (Some h) body slots) r q
took-kept None slots h body r q a t is w =
    let none : list_any (is_request h.request) slots ≡ false = t.2 in
    let idle : (z : Served) → find (in_slot_of h.request) slots ≡ Some z → z.working ≡ false = λ z e. (t.3 z e).1 in
    let out : in_slot_of h.request q ≡ false = out-of-slot h.request r slots q _ refl a is w idle in
    rw none (record {
      now = q;
      is_there = find-add (is_request r) (without_first (in_slot_of h.request) slots)
          (first_packet h.request h body) q (find-without (in_slot_of h.request)
          (is_request r) slots q is out);
      working = w;
      sized = refl;
    })
took-kept (Some g) slots h body r q a t is w =
    let any : list_any (is_request h.request) slots ≡ true = any-find (is_request h.request) slots g t.0 in
    rw any (changed-kept slots h.request (next_packet body) r q (λ x. refl) (λ x. refl) (λ x k. k) is w)

-- in whatever session it stands
pub record Kept (xs : List Server) (t r : ℕ) (q : Served) : Type 0 where
  pub now : Served
  pub stands : Stands xs t r now
  pub working : now.working ≡ true
  pub sized : now.size ≡ q.size

kept-same : (xs : List Server) (t r : ℕ) (q : Served) → Stands xs t r q → q.working ≡ true → Kept xs t r q
kept-same xs t r q s w = record { now = q; stands = s; working = w; sized = refl }

kept-added : (xs : List Server) (y : Server) (t r : ℕ) (q : Served) → Stands xs t r q
    → q.working ≡ true → Kept (xs ++ y ∷ []) t r q
kept-added xs y t r q s w =
    record {
      now = q;
      stands = record {
        server = s.server;
        found = find-add (is_server t) xs y s.server s.found;
        is_there = s.is_there;
      };
      working = w;
      sized = refl;
    }

-- the slots of one session change
kept-by : (xs : List Server) (t r : ℕ) (n : ℕ) (change : List Served → List Served) (q : Served)
    → (s : Stands xs t r q) → q.working ≡ true
    → ((v : Server) → find (is_server n) xs ≡ Some v → v ≡ s.server → t ≡ n
    → KeptSlot (change v.slots) r q) → Kept (at_first (is_server n) (with_slots change) xs) t r q
kept-by xs t r n change q s w after =
    elim (server-after t n change xs s.server s.found) [
      | inl e ↦ record {
        now = q;
        stands = record {
          server = s.server;
          found = e;
          is_there = s.is_there;
        };
        working = w;
        sized = refl;
      }
      | inr c ↦ (let mine : t ≡ n = sym (eqb-true s.server.way.number t (find-passes (is_server t) xs s.server s.found)) ∙ eqb-true s.server.way.number n c.passes in
          let k = after s.server c.first refl mine in
          record {
            now = k.now;
            stands = record {
              server = with_slots change s.server;
              found = c.is;
              is_there = k.is_there;
            };
            working = k.working;
            sized = k.sized;
          })
    ]

-- the facts that answer a request are apart
abbrev pub answers : ℕ → ℕ → Event → Type 0
answers t r (Ran n p y) = (t ≡ n) × (r ≡ p)
answers t r _ = ⊥

kept-after : (hand : Option InFlight) (l : Lists) (e : Event) (first second : List ℕ) (t r : ℕ)
    (q : Served) → is_end e ≡ false → Sound l → May hand l e first second → (answers t r e → ⊥)
    → Stands l.servers t r q → q.working ≡ true
    → Kept (servers_after e second (front_header l.ring) (front_body l.ring) l.servers) t r q
kept-after hand l (PairedServer n peer s credits life) first second t r q live i m other h w = absurd m
kept-after hand l (Accepted n peer s credits life) first second t r q live i m other h w =
    kept-added l.servers (server_end n peer s credits life) t r q h w
kept-after hand l (Ended n) first second t r q live i m other h w = false-true (sym live)
kept-after hand l (Took (Ask s n) j) first second t r q live i m other h w =
    kept-same l.servers t r q h w
kept-after hand l (Took Control j) first second t r q live i m other h w =
    kept-same l.servers t r q h w
kept-after hand l (Took (Reply n p) j) first second t r q live i m other h w =
    kept-by l.servers t r n (took_packet p (front_header l.ring) (front_body l.ring)) q h w
    (λ v is same mine. let found = m.found in
    let this : m.server ≡ v = cc in
    let apart : Apart v.slots = all-found (λ v. Apart v.slots) (is_server n) l.servers v i is in
    let takes : TakesOf m.going v.slots m.header =
    subst (λ (z : Server). TakesOf m.going z.slots m.header) this m.takes in
    let at : find (is_request r) v.slots ≡ Some q =
    subst (λ (z : Server). find (is_request r) z.slots ≡ Some q) (sym same) h.is_there in
    rw (m.is_front.reads, m.of_request) (took-kept m.going v.slots m.header (front_body l.ring) r q apart takes at w))
kept-after hand l (Given n p) first second t r q live i m other h w =
    kept-by l.servers t r n (at_first (is_request p) given) q h w
    (λ v is same mine. let at : find (is_request r) v.slots ≡ Some q = subst (λ (z : Server). find (is_request r) z.slots ≡ Some q) (sym same) h.is_there in
    changed-kept v.slots p given r q (λ x. refl) (λ x. refl) (λ x k. refl) at w)
kept-after hand l (Ran n p y) first second t r q live i m other h w =
    kept-by l.servers t r n (at_first (is_request p) (answered second)) q h w
    (λ v is same mine. let at : find (is_request r) v.slots ≡ Some q = subst (λ (z : Server). find (is_request r) z.slots ≡ Some q) (sym same) h.is_there in
    answered-kept v.slots p second r q (λ x. other (mine, x)) at w)
kept-after hand l _ first second t r q live i m other h w = kept-same l.servers t r q h w

fits-after : (hand : Option InFlight) (l : Lists) (e : Event) (first second : List ℕ) (job : Job)
    → is_end e ≡ false → Sound l → May hand l e first second
    → (answers job.session job.request e → ⊥) → JobFits l.servers job
    → JobFits (servers_after e second (front_header l.ring) (front_body l.ring) l.servers) job
fits-after hand l e first second job live i m other h =
    let k = kept-after hand l e first second job.session job.request h.request live i m other
    h.stands h.working in
    record { request = k.now; stands = k.stands; working = k.working; sized = h.sized ∙ sym k.sized }

abbrev JobsNow : Lists → Event → List ℕ → Job → Type 0
JobsNow l e second job =
    JobRight (servers_after e second (front_header l.ring) (front_body l.ring) l.servers)
    (server_numbers_after e l.server_numbers) job

ended-fits : (n : ℕ) (b : Bool) (xs : List Server) (used : ℕ) (job : Job) → (n == job.session) ≡ b
    → Alone used xs → JobFits xs job → JobRight (without_first (is_server n) xs) used job
ended-fits n true xs used job e alone f =
    let same = eqb-true n job.session e in
    rw same (inl (over-ended job.session used xs f.stands.server alone f.stands.found))
ended-fits n false xs used job e alone f =
    inr (record {
      request = f.request;
      stands = record {
        server = f.stands.server;
        found = found-ended n job.session xs f.stands.server e f.stands.found;
        is_there = f.stands.is_there;
      };
      working = f.working;
      sized = f.sized;
    })

live-right : (hand : Option InFlight) (l : Lists) (e : Event) (first second : List ℕ) (job : Job)
    → Sound l → Alone l.server_numbers l.servers → May hand l e first second
    → (answers job.session job.request e → ⊥) → JobFits l.servers job → JobsNow l e second job
live-right hand l (Ended n) first second job i alone m other f =
    ended-fits n (n == job.session) l.servers l.server_numbers job refl alone f
live-right hand l e first second job i alone m other f =
    inr (fits-after hand l e first second job refl i m other f)

job-after : (hand : Option InFlight) (l : Lists) (e : Event) (first second : List ℕ) (job : Job)
    → Sound l → Alone l.server_numbers l.servers → May hand l e first second
    → (answers job.session job.request e → ⊥) → JobRight l.servers l.server_numbers job
    → JobsNow l e second job
job-after hand l e first second job i alone m other (inl o) =
    inl (over-after job.session hand l e first second (front_header l.ring) (front_body l.ring) m o)
job-after hand l e first second job i alone m other (inr f) =
    live-right hand l e first second job i alone m other f

-- a job of the request that no worker has isn't there
idle-by : (xs : List Server) (used t r : ℕ) (q : Served) (job : Job) (b : Bool) → is_job t r job ≡ b
    → Stands xs t r q → q.working ≡ false → JobRight xs used job → b ≡ false
idle-by xs used t r q job true e s idle (inl o) =
    let parts = and_parts (job.session == t) (job.request == r) e in
    let gone : find (is_server t) xs ≡ None =
    subst (λ (n : ℕ). find (is_server n) xs ≡ None) (eqb-true job.session t parts.0) o.gone in
    let found = s.found in
    cc
idle-by xs used t r q job true e s idle (inr h) =
    let parts = and_parts (job.session == t) (job.request == r) e in
    let mine : Stands xs t r h.request =
    rw (← eqb-true job.session t parts.0, ← eqb-true job.request r parts.1) h.stands in
    let same : h.request ≡ q = stands-same xs t r h.request mine s.server s.found q s.is_there in
    false-true (sym idle ∙ (ap (λ (z : Served). z.working) (sym same) ∙ h.working))
idle-by xs used t r q job false e s idle h = refl

all-idle : (xs : List Server) (used t r : ℕ) (q : Served) (jobs : List Job) → Stands xs t r q
    → q.working ≡ false → AllByRecursion (JobRight xs used) jobs
    → AllByRecursion (λ j. is_job t r j ≡ false) jobs
all-idle xs used t r q jobs s idle h =
    all-map (JobRight xs used) (λ j. is_job t r j ≡ false) jobs
    (λ j f. idle-by xs used t r q j _ refl s idle f) h

not-answered : (t r : ℕ) (job : Job) → is_job t r job ≡ false → (job.session ≡ t) × (job.request ≡ r) → ⊥
not-answered t r job e s =
    let yes : is_job t r job ≡ true = rw (eq-eqb job.session t s.0, eq-eqb job.request r s.1) refl in
    false-true (sym e ∙ yes)

-- each job stays right by a fact that answers none of them
all-fit : (hand : Option InFlight) (l : Lists) (e : Event) (first second : List ℕ) (jobs : List Job)
    → Sound l → Alone l.server_numbers l.servers → May hand l e first second
    → AllByRecursion (λ j. answers j.session j.request e → ⊥) jobs
    → AllByRecursion (JobRight l.servers l.server_numbers) jobs
    → AllByRecursion (JobsNow l e second) jobs
all-fit hand l e first second jobs i alone m other h =
    all-map (λ j. JobRight l.servers l.server_numbers j × (answers j.session j.request e → ⊥))
    (JobsNow l e second) jobs
    (λ j k. job-after hand l e first second j i alone m k.1 k.0)
    (all-both (JobRight l.servers l.server_numbers)
    (λ j. answers j.session j.request e → ⊥) jobs h other)

none-answer : (n : ℕ) (p y : ℕ) (jobs : List Job) → AllByRecursion (λ j. is_job n p j ≡ false) jobs
    → AllByRecursion (λ j. answers j.session j.request (Ran n p y) → ⊥) jobs
none-answer n p y jobs h = all-map _ _ jobs (λ j e. not-answered n p j e) h

-- all jobs, by a fact that answers none
fit-all : (hand : Option InFlight) (l : Lists) (e : Event) (first second : List ℕ) → Sound l
    → Alone l.server_numbers l.servers → May hand l e first second
    → ((t r : ℕ) → answers t r e → ⊥) → JobsRight l.servers l.server_numbers l.jobs
    → AllByRecursion (JobsNow l e second) l.jobs.out
fit-all hand l e first second i alone m other h =
    all-map _ _ l.jobs.out (λ j k. job-after hand l e first second j i alone m
    (other j.session j.request) k) h.out

-- a job is given
given-once : (t r : ℕ) (out : List Job) (new : Job) (b : Bool) → is_job t r new ≡ b
    → (b ≡ true → count_by (is_job t r) out ≡ 0) → count_by (is_job t r) out ≤ 1
    → count_by (is_job t r) (out ++ new ∷ []) ≤ 1
given-once t r out new true e none once =
    let n = none refl in
    let one : count_by (is_job t r) (new ∷ []) ≡ 1 = count-one (is_job t r) new true e in
    let sum = count-append (is_job t r) out (new ∷ []) in
    omega arith
given-once t r out new false e none once =
    let one : count_by (is_job t r) (new ∷ []) ≡ 0 = count-one (is_job t r) new false e in
    let sum = count-append (is_job t r) out (new ∷ []) in
    omega arith

pub new-is : (l : Lists) (t r : ℕ) → (m : IsWhole l t r) → new_job t r l.servers ≡ job_of t m.request ∷ []
new-is l t r m = rw (m.found, m.is_there) refl

-- a whole request has as many bytes as its size says
whole-size : (ask : List ℕ) (size taken : ℕ) → taken ≡ packet_count size
    → length ask ≡ min size (1024 * taken) → length ask ≡ size
whole-size ask size taken whole long =
    let room = packet_count_room size in omega (arith, whole, long, room)

given-jobs : (hand : Option InFlight) (l : Lists) (t r : ℕ) (first second : List ℕ) → RightNode l
    → May hand l (Given t r) first second
    → JobsRight (servers_after (Given t r) second (front_header l.ring)
    (front_body l.ring) l.servers) l.server_numbers (jobs_after (Given t r) l.servers l.jobs)
given-jobs hand l t r first second i m =
    let w = m.has in
    let q = w.request in
    let number : q.number ≡ r = eqb-true q.number r (find-passes (is_request r) w.server.slots q w.is_there) in
    let stands : Stands l.servers t r q = record { server = w.server; found = w.found; is_there = w.is_there } in
    let slots = at_first (is_request r) given in
    let now : Stands (at_first (is_server t) (with_slots slots) l.servers) t r (given q) = record {
      server = with_slots slots w.server;
      found = slots-found slots t l.servers w.server w.found;
      is_there = find-first (is_request r) given w.server.slots q w.is_there
          (find-passes (is_request r) w.server.slots q w.is_there);
    } in
    let right = stands-right l.servers t r q i.slots stands in
    let all_there : length q.ask ≡ q.size =
    whole-size q.ask q.size q.taken w.whole (right.whole w.unanswered w.idle) in
    let new : Job = job_of t q in
    let fits : JobFits (at_first (is_server t) (with_slots slots) l.servers) new = record {
      request = given q;
      stands = subst (λ (n : ℕ). Stands (at_first (is_server t) (with_slots slots) l.servers) t n
          (given q)) (sym number) now;
      working = refl;
      sized = all_there;
    } in
    let all = fit-all hand l (Given t r) first second i.sound i.alone m (λ a b x. x) i.jobs in
    let idle : count_by (is_job t r) l.jobs.out ≡ 0 =
    all-fail (is_job t r) l.jobs.out
    (all-idle l.servers l.server_numbers t r q l.jobs.out stands w.idle
    i.jobs.out) in
    let once : (a b : ℕ) → count_by (is_job a b) (l.jobs.out ++ new ∷ []) ≤ 1 =
    λ a b. given-once a b l.jobs.out new _ refl
    (λ e. let parts = and_parts (t == a) (q.number == b) e in
    let same : (t ≡ a) × (r ≡ b) = (eqb-true t a parts.0, sym number ∙ eqb-true q.number b parts.1) in
    rw (← same.0, ← same.1) idle) (i.jobs.once a b) in
    let right : JobsRight (at_first (is_server t) (with_slots slots) l.servers) l.server_numbers
    (record l.jobs { given = l.jobs.given + 1; out = l.jobs.out ++ new ∷ [] }) =
    record {
      out = all-add (JobRight (at_first (is_server t) (with_slots slots) l.servers)
          l.server_numbers)
          l.jobs.out new all (inr fits);
      once = once;
    } in
    rw (new-is l t r w) right

-- a handler runs: the job of that request is over
finish-by : (p : Job → Bool) (job : Job) (rest : List Job) (b : Bool) → p job ≡ b
    → count_by p (job ∷ rest) ≤ 1 → AllByRecursion (λ j. p j ≡ false) (without_first p rest)
    → AllByRecursion (λ j. p j ≡ false) (cond b rest (job ∷ without_first p rest))
finish-by p job rest true e once ih =
    let whole = count-append p (job ∷ []) rest in
    let one : count_by p (job ∷ []) ≡ 1 = count-one p job true e in
    count-none p rest (omega arith)
finish-by p job rest false e once ih = (e, ih)

-- where there was one at most
one-none : (p : Job → Bool) (out : List Job) → count_by p out ≤ 1
    → AllByRecursion (λ j. p j ≡ false) (without_first p out)
one-none p [] once = tt
one-none p (job ∷ rest) once =
    let whole = count-append p (job ∷ []) rest in
    let less : count_by p rest ≤ 1 = omega arith in
    finish-by p job rest (p job) refl once (one-none p rest less)

ran-jobs : (hand : Option InFlight) (l : Lists) (t r y : ℕ) (first second : List ℕ) → RightNode l
    → May hand l (Ran t r y) first second
    → JobsRight (servers_after (Ran t r y) second (front_header l.ring)
    (front_body l.ring) l.servers) l.server_numbers (jobs_after (Ran t r y) l.servers l.jobs)
ran-jobs hand l t r y first second i m =
    let rest = without_first (is_job t r) l.jobs.out in
    let none = one-none (is_job t r) l.jobs.out (i.jobs.once t r) in
    record {
      out = all-fit hand l (Ran t r y) first second rest i.sound i.alone m
          (none-answer t r y rest none)
          (all-without (JobRight l.servers l.server_numbers) (is_job t r) l.jobs.out i.jobs.out);
      once = λ a b. let out = count-out (is_job a b) (is_job t r) l.jobs.out in
          let once = i.jobs.once a b in
          omega arith;
    }

-- facts that neither give nor finish a job
other-jobs : (hand : Option InFlight) (l : Lists) (e : Event) (first second : List ℕ) → RightNode l
    → May hand l e first second → ((t r : ℕ) → answers t r e → ⊥)
    → JobsRight (servers_after e second (front_header l.ring) (front_body l.ring) l.servers)
    (server_numbers_after e l.server_numbers) l.jobs
other-jobs hand l e first second i m other =
    record {
      out = fit-all hand l e first second i.sound i.alone m other i.jobs;
      once = i.jobs.once;
    }

pub jobs-right : (hand : Option InFlight) (l : Lists) (e : Event) (first second : List ℕ)
    → RightNode l → May hand l e first second
    → JobsRight (servers_after e second (front_header l.ring) (front_body l.ring) l.servers)
    (server_numbers_after e l.server_numbers) (jobs_after e l.servers l.jobs)
jobs-right hand l (Given t r) first second i m = given-jobs hand l t r first second i m
jobs-right hand l (Ran t r y) first second i m = ran-jobs hand l t r y first second i m
jobs-right hand l e first second i m = other-jobs hand l e first second i m (λ t r x. x)

-- a session more
job-added : (n peer c credits life used : ℕ) (xs : List Server) (job : Job) → n ≡ used
    → JobRight xs used job → JobRight (xs ++ server_end n peer c credits life ∷ []) (used + 1) job
job-added n peer c credits life used xs job e (inl o) =
    inl (over-added job.session n peer c credits life used xs e o)
job-added n peer c credits life used xs job e (inr k) =
    inr (record {
      request = k.request;
      stands = record {
        server = k.stands.server;
        found = find-add (is_server job.session) xs (server_end n peer c credits life) k.stands.server
            k.stands.found;
        is_there =
            k.stands.is_there;
      };
      working = k.working;
      sized = k.sized;
    })

pub jobs-added : (n peer c credits life used : ℕ) (xs : List Server) (jobs : Jobs) → n ≡ used
    → JobsRight xs used jobs → JobsRight (xs ++ server_end n peer c credits life ∷ []) (used + 1) jobs
jobs-added n peer c credits life used xs jobs e h =
    record {
      out = all-map _ _ jobs.out (λ j. job-added n peer c credits life used xs j e) h.out;
      once = h.once;
    }
