-- What is always so of the requests in the slots of a node, and of its jobs, by the rules alone.
use Rattle.std.proofs.Common.{◌≡◌, ◌==◌, ◌<◌, ◌≤◌, ◌+◌, ◌-◌, ◌*◌, min, ◌⊎◌, inl, inr, ℕ, Bool, true}
use Rattle.std.proofs.Common.{false, List, [], ◌++◌, length, Option, Some, None, refl, ap, ◌∙◌}
use Rattle.std.proofs.Common.{subst, arith}
use Rattle.std.specs.Prelude.{count_by, option_map}
use Rattle.std.specs.List.{find, list_any, AllByRecursion}
use Rattle.std.proofs.lemmas.Bool.{eqb-true, and_parts}
use Rattle.std.proofs.lemmas.List.{length-append}
use Rattle.packet_header.specs.Parts.{packet_count, part_size}
use Rattle.packet_header.specs.declared.packet.Kind.{Kind}
use Rattle.packet_header.specs.declared.packet.Kind.TheVariants.{Request, Rfr, Cr, Response}
use Rattle.packet_header.specs.declared.packet.MessageHeader.{MessageHeader}
use Rattle.packet_header.proofs.Bodies.{request-body, rfr-body}
use Rattle.packet_header.proofs.PartsLemmas.{packet_count_above}
use Rattle.packet_header.proofs.Readings.{message_of-spells}
use Rattle.packet_header.proofs.Rows.{request-number}
use Rattle.rpc_base.specs.Tables.{without_first}
use Rattle.rpc_base.proofs.TakingLemmas.{find-passes}
use Rattle.rpc_laws.specs.declared.tables.Job.{Job}
use Rattle.rpc_laws.specs.declared.tables.Jobs.{Jobs}
use Rattle.rpc_laws.specs.declared.tables.Lists.{Lists}
use Rattle.rpc_laws.specs.declared.tables.Served.{Served}
use Rattle.rpc_laws.specs.declared.tables.Server.{Server}
use Rattle.rpc_laws.specs.Front.{front_header, front_body}
use Rattle.rpc_laws.specs.Jobs.{is_job}
use Rattle.rpc_laws.specs.Requests.{is_server, is_request, in_slot_of, first_packet, next_packet}
use Rattle.rpc_laws.specs.Requests.{took_packet, given, answered}
use Rattle.rpc_laws.specs.ServerTable.{is_past_end}
use Rattle.node_laws.proofs.Allowed.{GoesBy}
use Rattle.node_laws.proofs.TakenRights.{next-taken, TakenRight}
use Rattle.end_laws.proofs.Allowed.{GoesOn, TakesOf, IsWhole, MayServe, MayFinish}
use Rattle.end_laws.proofs.ListLemmas.{all-first, all-add, all-without, all-found}
use Rattle.end_laws.proofs.SessionLemmas.{Over}
use Rattle.end_laws.proofs.SlotLemmas.{any-find}

-- a request holds no more bytes than its packets have, and a worker has it only when it is whole, until it is
-- answered. Before that it holds as many bytes as its packets have
pub record SlotRight (q : Served) : Type 0 where
  pub taken : TakenRight q.taken q.size q.answer
  pub some : 1 ≤ q.taken
  pub long : length q.ask ≤ 1024 * q.taken
  pub working : q.working ≡ true → (packet_count q.size ≤ q.taken) × (q.answer ≡ None)
  pub whole : q.answer ≡ None → q.working ≡ false → length q.ask ≡ min q.size (1024 * q.taken)

abbrev pub SlotsRight : List Server → Type 0
SlotsRight xs = AllByRecursion (λ v. AllByRecursion SlotRight v.slots) xs

-- a request stands in its slot
pub record Stands (xs : List Server) (t r : ℕ) (q : Served) : Type 0 where
  pub server : Server
  pub found : find (is_server t) xs ≡ Some server
  pub is_there : find (is_request r) server.slots ≡ Some q

-- the request of a job stands in its slot, a worker has it, and the job has all its bytes
pub record JobFits (xs : List Server) (job : Job) : Type 0 where
  pub request : Served
  pub stands : Stands xs job.session job.request request
  pub working : request.working ≡ true
  pub sized : length job.ask ≡ request.size

-- or its session is over
abbrev pub JobRight : List Server → ℕ → Job → Type 0
JobRight xs used job = Over xs used job.session ⊎ JobFits xs job

-- so it is for all jobs, and no two jobs are of one request
pub record JobsRight (xs : List Server) (used : ℕ) (jobs : Jobs) : Type 0 where
  pub out : AllByRecursion (JobRight xs used) jobs.out
  pub once : (t r : ℕ) → count_by (is_job t r) jobs.out ≤ 1

-- what a packet that is read tells of its number and its body
pub record Readable (h : MessageHeader) (body : List ℕ) : Type 0 where
  pub low : h.kind ≡ Request → h.number < packet_count h.size
  pub short : h.kind ≡ Request → length body ≤ 1024
  pub none : h.kind ≡ Rfr → body ≡ []
  pub sized : h.kind ≡ Request → length body ≡ part_size h.size h.number

pub front-right : (l : Lists) (h : MessageHeader) → front_header l.ring ≡ Some h → Readable h (front_body l.ring)
front-right l h e = record {
  low = λ k. request-number h (message_of-spells h _ e).in_range k;
  short = λ k. let size = request-body h _ e k in omega arith;
  none = λ k. rfr-body h _ e k;
  sized = λ k. request-body h _ e k;
}

-- one packet more
goes-by : (k : Kind) (q : Served) (h : MessageHeader) → GoesOn k q h → GoesBy k q h
goes-by Request q h g = g.1
goes-by Rfr q h g = g.1
goes-by Cr q h g = g
goes-by Response q h g = g

next-short : (k : Kind) (q : Served) (h : MessageHeader) (body : List ℕ) → GoesOn k q h
    → (k ≡ Request → length body ≤ 1024) → (k ≡ Rfr → body ≡ []) → length body ≤ 1024
next-short Request q h body g short none = short refl
next-short Rfr q h body g short none = rw (none refl) (omega arith)
next-short Cr q h body g short none = absurd g
next-short Response q h body g short none = absurd g

-- one packet more has its part of the bytes
next-whole : (k : Kind) (q : Served) (h : MessageHeader) (body : List ℕ) → GoesOn k q h
    → h.number ≡ q.taken → (k ≡ Request → length body ≡ part_size h.size h.number) → SlotRight q
    → q.answer ≡ None → q.working ≡ false
    → length (q.ask ++ body) ≡ min q.size (1024 * (q.taken + 1))
next-whole Request q h body g n sized s none idle =
    let size = g.1 in
    let piece : length body ≡ min 1024 (h.size - 1024 * h.number) = sized refl in
    let was = s.whole none idle in
    let sum : length (q.ask ++ body) ≡ length q.ask + length body = length-append q.ask body in
    omega arith
next-whole Rfr q h body g n sized s none idle = let past : is_past_end q.size None h.number ≡ false = subst (λ (a : Option (List ℕ)). is_past_end q.size (option_map length a) h.number ≡ false) none g.1 in cc
next-whole Cr q h body g n sized s none idle = absurd g
next-whole Response q h body g n sized s none idle = absurd g

next-right : (q : Served) (h : MessageHeader) (body : List ℕ) → Readable h body → h.number ≡ q.taken
    → GoesOn h.kind q h → SlotRight q → SlotRight (next_packet body q)
next-right q h body f n g s =
    let short = next-short h.kind q h body g f.short f.none in
    let long = s.long in
    let sum : length (q.ask ++ body) ≡ length q.ask + length body = length-append q.ask body in
    record {
      taken = next-taken q.answer h.kind q h refl n f.low (goes-by h.kind q h g) s.taken;
      some = omega arith;
      long = omega arith;
      working = λ w. let k = s.working w in let le = k.0 in (omega arith, k.1);
      whole = next-whole h.kind q h body g n f.sized s;
    }

first-right : (h : MessageHeader) (body : List ℕ) → h.kind ≡ Request → h.number ≡ 0
    → Readable h body → SlotRight (first_packet h.request h body)
first-right h body k zero f =
    let above = packet_count_above h.size in
    let short = f.short k in
    let piece : length body ≡ min 1024 (h.size - 1024 * h.number) = f.sized k in
    record {
      taken = omega arith;
      some = omega arith;
      long = omega arith;
      working = λ w. absurd (cc);
      whole = λ none idle. omega arith;
    }

pub took-right : (going : Option Served) (slots : List Served) (h : MessageHeader) (body : List ℕ)
    → Readable h body → TakesOf going slots h → AllByRecursion SlotRight slots
    → AllByRecursion SlotRight (took_packet h.request (Some h) body slots)
took-right None slots h body f t a =
    let none : list_any (is_request h.request) slots ≡ false = t.2 in
    rw none (all-add SlotRight (without_first (in_slot_of h.request) slots)
    (first_packet h.request h body) (all-without SlotRight (in_slot_of h.request) slots a)
    (first-right h body t.0 t.1 f))
took-right (Some q) slots h body f t a =
    let any : list_any (is_request h.request) slots ≡ true = any-find (is_request h.request) slots q t.0 in
    rw any (all-first SlotRight SlotRight (is_request h.request) (next_packet body) slots (λ x k. k)
    (λ x is k. let found = t.0 in
    let same : q ≡ x = cc in next-right x h body f (t.1 ∙ ap (λ (z : Served). z.taken) same)
    (subst (λ (z : Served). GoesOn h.kind z h) same t.2) k) a)

open-by : (answer : Option (List ℕ)) (working : Bool) (q : Served) → q.answer ≡ answer
    → q.working ≡ working → q.taken < packet_count q.size → SlotRight q → (answer ≡ None)
    × (working ≡ false)
open-by (Some a) working q e f lt s =
    let t : TakenRight q.taken q.size (Some a) =
    subst (λ (o : Option (List ℕ)). TakenRight q.taken q.size o) e s.taken in
    let le = t.0 in
    absurd (omega arith)
open-by None true q e f lt s = let le = (s.working f).0 in absurd (omega arith)
open-by None false q e f lt s = (refl, refl)

-- a request of which packets are wanted has no answer, and no worker has it
pub asked-open : (q : Served) → q.taken < packet_count q.size → SlotRight q → (q.answer ≡ None) × (q.working ≡ false)
asked-open q lt s = open-by q.answer q.working q refl refl lt s

pub given-right : (q : Served) → q.taken ≡ packet_count q.size → q.answer ≡ None → SlotRight q → SlotRight (given q)
given-right q whole none s =
    record {
      taken = s.taken;
      some = s.some;
      long = omega arith;
      working = λ w. (omega arith, none);
      whole = λ a idle. absurd (cc);
    }

pub answered-right : (answer : List ℕ) (q : Served) → q.taken ≡ packet_count q.size → SlotRight q
    → SlotRight (answered answer q)
answered-right answer q whole s =
    let above = packet_count_above (length answer) in
    record {
      taken = (omega arith, omega arith);
      some = s.some;
      long = omega arith;
      working = λ w. absurd (cc);
      whole = λ a idle. absurd (cc);
    }

-- a request that runs stands whole in its slot, with no answer
pub record Ready (xs : List Server) (t r : ℕ) : Type 0 where
  pub request : Served
  pub stands : Stands xs t r request
  pub whole : request.taken ≡ packet_count request.size
  pub unanswered : request.answer ≡ None

-- what is right of a request that is found
pub stands-right : (xs : List Server) (t r : ℕ) (q : Served) → SlotsRight xs → Stands xs t r q → SlotRight q
stands-right xs t r q s h =
    all-found SlotRight (is_request r) h.server.slots q
    (all-found (λ v. AllByRecursion SlotRight v.slots) (is_server t) xs h.server s h.found)
    h.is_there

pub whole-ready : (l : Lists) (t r : ℕ) → IsWhole l t r → Ready l.servers t r
whole-ready l t r h =
    record {
      request = h.request;
      stands = record {
        server = h.server;
        found = h.found;
        is_there = h.is_there;
      };
      whole = h.whole;
      unanswered = h.unanswered;
    }

fits-whole : (q : Served) → SlotRight q → q.working ≡ true → q.taken ≡ packet_count q.size
fits-whole q s w =
    let k = s.working w in
    let high = k.0 in
    let low : q.taken ≤ packet_count q.size =
    subst (λ (o : Option (List ℕ)). TakenRight q.taken q.size o) k.1 s.taken in
    omega arith

pub job-ready : (xs : List Server) (job : Job) → SlotsRight xs → JobFits xs job → Ready xs job.session job.request
job-ready xs job s h =
    let right = stands-right xs job.session job.request h.request s h.stands in
    record {
      request = h.request;
      stands = h.stands;
      whole = fits-whole h.request right h.working;
      unanswered = (right.working h.working).1;
    }

-- the job that finishes
pub out-job : (l : Lists) (t r : ℕ) (job : Job) → JobsRight l.servers l.server_numbers l.jobs
    → find (is_job t r) l.jobs.out ≡ Some job → JobRight l.servers l.server_numbers job
out-job l t r job j is =
    all-found (JobRight l.servers l.server_numbers) (is_job t r) l.jobs.out job j.out is

-- a job that is found is of that request
pub job-number : (t r : ℕ) (jobs : List Job) (job : Job) → find (is_job t r) jobs ≡ Some job
    → (job.session ≡ t) × (job.request ≡ r)
job-number t r jobs job is =
    let parts = and_parts (job.session == t) (job.request == r) (find-passes (is_job t r) jobs job is) in
    (eqb-true job.session t parts.0, eqb-true job.request r parts.1)

pub run-ready : (l : Lists) (t r y : ℕ) (ask : List ℕ) → SlotsRight l.servers
    → JobsRight l.servers l.server_numbers l.jobs → MayServe l t r y ask ⊎ MayFinish l t r y ask
    → Over l.servers l.server_numbers t ⊎ Ready l.servers t r
run-ready l t r y ask s j (inl m) = inr (whole-ready l t r m.has)
run-ready l t r y ask s j (inr m) =
    let of = job-number t r l.jobs.out m.job m.is_out in
    elim (out-job l t r m.job j m.is_out) [
      | inl o ↦ inl (subst (λ (n : ℕ). Over l.servers l.server_numbers n) of.0 o)
      | inr f ↦ inr (rw (← of.0, ← of.1) (job-ready l.servers m.job s f))
    ]
