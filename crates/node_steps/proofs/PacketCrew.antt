-- A packet is handled, and the job that it makes is given to workers that have the node's jobs.
use Rattle.std.proofs.Common.{◌≡◌, ◌≢◌, ◌<◌, ◌+◌, ℕ, Bool, true, false, cond, Option, Some, None}
use Rattle.std.proofs.Common.{List, [], ◌∷◌, ◌++◌, length, drop, map, refl, sym, ap, ap₂, subst}
use Rattle.std.proofs.Common.{◌∙◌, append-nil, append_assoc, arith, IsPermutation, inl, inr}
use Rattle.std.specs.Prelude.{◌==◌, ◌&&◌, ◌↔◌, nat_le, IsErr, IsTrue, OnOk, Result, Ok, Err}
use Rattle.std.specs.Prelude.{count_by, option_map, sum_by}
use Rattle.std.specs.List.{AllByRecursion, filter, list_any}
use Rattle.std.proofs.lemmas.Bool.{eq-eqb, leb-false}
use Rattle.std.proofs.lemmas.List.{map-append}
use Rattle.std.proofs.lemmas.List.Sorted.{sum_by-IsPermutation}
use Rattle.std.proofs.lemmas.List.Sums.{sum_by-append, sum_by-cons}
use Rattle.rpc_outside.specs.Recording.{Log}
use Rattle.client_core.specs.Shown.{done_fact}
use Rattle.client_core.specs.declared.outcome.Done.{Done}
use Rattle.message_buffer.specs.Buffer.{bytes_of}
use Rattle.packet_header.specs.Parts.{IsMessage}
use Rattle.packet_rings.specs.Values.{DatagramValue}
use Rattle.rpc_base.specs.declared.limits.TheConstants.{MOST_GIVEN}
use Rattle.rpc_base.proofs.BasicLemmas.{or-false}
use Rattle.rpc_base.proofs.FirstLemmas.{all-both, all-push, counted-none}
use Rattle.rpc_laws.specs.declared.tables.Arrival.{Arrival}
use Rattle.rpc_laws.specs.declared.tables.Job.{Job}
use Rattle.rpc_laws.specs.declared.tables.Jobs.{Jobs}
use Rattle.rpc_laws.specs.declared.tables.Timed.{Timed}
use Rattle.rpc_laws.specs.Jobs.{are_full, is_job}
use Rattle.rpc_laws.specs.PollOrder.{Handles, HandlesAll, NoMoreToHandle}
use Rattle.rpc_laws.specs.Service.{Serving, rules_of, served_after_all}
use Rattle.rpc_laws.specs.Steps.{Rel, Chain, none, more}
use Rattle.rpc_laws.proofs.AnswerLemmas.{answers-append, served-append}
use Rattle.rpc_outside.specs.Served.{Served, StandsForSome}
use Rattle.rpc_outside.specs.declared.service.Mode.TheVariants.{Background}
use Rattle.memory_count.specs.Faults.{HasRisenBy}
use Rattle.memory_count.proofs.Risen.{both-risen, none-risen}
use Rattle.node_laws.specs.Kept.{Kept}
use Rattle.node_laws.specs.Valid.{jobs_of}
use Rattle.server_core.proofs.FlushLemmas.{grew-none, grew-then}
use Rattle.worker_board.specs.declared.Parcel.{Parcel}
use Rattle.worker_crew.specs.Jobs.{HasRoom, IsFull, Job as CrewJob, job_of}
use Rattle.worker_crew.specs.declared.workers.Workers as Workers
use Rattle.rpc_outside.specs.declared.service.Service as Service
use Rattle.node_steps.proofs.HandedBack.{gives-more}
use Rattle.node_steps.proofs.HandedGiven.{gave-none, gave-then}
use Rattle.node_steps.specs.Changes.{◌⟶◌, Change}
use Rattle.node_steps.specs.Jobs.{AreStaffed, CanFinish, Staff, asked_job}
use Rattle.node_steps.specs.Fronts.{HasFront, LeavesHandled}
use Rattle.node_steps.specs.Handed.{GivesBackTo, Holding, timed_of}
use Rattle.node_steps.specs.Lacks.{is_lack, lacks_in}
use Rattle.node_steps.specs.Packets.{HandlesWith, MakesAllHandled}
use Rattle.node_steps.specs.Packets.{WorksFor, with_all_given}
use Rattle.node_steps.specs.Notes.{is_end}
use Rattle.node_steps.specs.Seen.{Asks, arrival_of, asking, with_ask}
use Rattle.node_steps.specs.Requests.{AllServed, IsGiven, SparesShort, job_named, ring_left}
use Rattle.node_steps.specs.Requests.{service_change, with_given}
use Rattle.node_steps.proofs.ShortLemmas.{left-append, left-goes, spares-append}
use Rattle.node_steps.proofs.PacketSteps.{MakesHandled, asks-as, asks-of}
use Rattle.node_steps.proofs.NoteCounts.{many-append}
use Rattle.node_steps.specs.Requests.{serves_by}
use Rattle.node_steps.specs.Jobs.{staffed_by}
use Rattle.node_steps.proofs.NoteEnds.{ends-append, me-goes}

-- as many as a list has
pub ones : {A : Type 0} (xs : List A) → sum_by (λ x. 1) xs ≡ length xs
ones {A} [] = refl
ones {A} (x ∷ xs) = omega (arith, sum_by-cons (λ (y : A). 1) x xs, ones xs)

-- what the jobs ask, where that of a parcel asks its bytes
abbrev pub asks_too : Parcel → Asks → Asks
asks_too p asks = λ t r. cond (t == p.session && r == p.request) (bytes_of p.ask) (asks t r)

-- the jobs of other requests ask as before
module _ (p : Parcel) (asks : Asks) where
  abbrev is : Job → Bool
  is = is_job p.session p.request

  other-asks : (j : Job) → is j ≡ false
      → asks_too p asks j.session j.request ≡ asks j.session j.request
  other-asks j e = ap (λ (b : Bool). cond b (bytes_of p.ask) (asks j.session j.request)) e

  pub own-asks : asks_too p asks p.session p.request ≡ bytes_of p.ask
  own-asks = rw (eq-eqb p.session p.session refl, eq-eqb p.request p.request refl) refl

  others-ask : (js : List Job) → list_any is js ≡ false
      → map (with_ask (asks_too p asks)) js ≡ map (with_ask asks) js
  others-ask [] e = refl
  others-ask (j ∷ js) e =
      let parts = or-false (is j) (list_any is js) e in
      ap₂ (λ (k : Job) (ks : List Job). k ∷ ks)
      (ap (λ (bytes : List ℕ). record j { ask = bytes }) (other-asks j parts.0))
      (others-ask js parts.1)

  others-sum : (count : CrewJob → ℕ) (js : List Job) → list_any is js ≡ false
      → sum_by (λ job. count (asked_job (asks_too p asks) job)) js
      ≡ sum_by (λ job. count (asked_job asks job)) js
  others-sum count [] e = refl
  others-sum count (j ∷ js) e =
      let parts = or-false (is j) (list_any is js) e in
      let same : count (asked_job (asks_too p asks) j) ≡ count (asked_job asks j) =
      ap (λ (bytes : List ℕ). count (record {
        session = j.session;
        request = j.request;
        req_type = j.req_type;
        ask = bytes;
      })) (other-asks j parts.0) in
      omega (
        arith,
        sum_by-cons (λ (job : Job). count (asked_job (asks_too p asks) job)) j js,
        sum_by-cons (λ (job : Job). count (asked_job asks job)) j js,
        same,
        others-sum count js parts.1,
      )

  others-ready : (answer : ℕ → List ℕ → List ℕ) (js : List Job) → list_any is js ≡ false
      → AllByRecursion (CanFinish answer asks) js
      → AllByRecursion (CanFinish answer (asks_too p asks)) js
  others-ready answer [] e ready = tt
  others-ready answer (j ∷ js) e ready =
      let parts = or-false (is j) (list_any is js) e in (
        subst (λ (bytes : List ℕ). IsMessage (length (answer j.req_type bytes)))
            (sym (other-asks j parts.0)) ready.0,
        others-ready answer js parts.1 ready.1,
      )

-- a job that was given is the only one of its request
none-before : (p : Parcel) (s t : Timed) → Kept t.lists
    → t.lists.jobs ≡ with_given (Some p) s.lists.jobs
    → list_any (is_job p.session p.request) s.lists.jobs.out ≡ false
none-before p s t kept given =
    let is = is_job p.session p.request in
    let all : jobs_of p.session p.request t.lists.jobs.out
    ≡ count_by is (s.lists.jobs.out ++ job_named p ∷ []) =
    ap (λ (js : Jobs). count_by is js.out) given in
    let split : count_by is (s.lists.jobs.out ++ job_named p ∷ [])
    ≡ count_by is s.lists.jobs.out + count_by is (job_named p ∷ []) =
    sum_by-append (λ (j : Job). cond {A = ℕ} (is j) 1 0) s.lists.jobs.out (job_named p ∷ []) in
    let one : count_by is (job_named p ∷ []) ≡ 1 =
    rw (eq-eqb p.session p.session refl, eq-eqb p.request p.request refl) refl in
    counted-none is s.lists.jobs.out
    (omega (arith, kept.valid.runs p.session p.request, all, split, one))

-- a job is given to workers that have the node's jobs
module _ (answer : ℕ → List ℕ → List ℕ) (asks : Asks) (old new : Staff) (s t : Timed) (p : Parcel)
    (staffed : AreStaffed answer asks old s) (kept : Kept t.lists)
    (given : t.lists.jobs ≡ with_given (Some p) s.lists.jobs) where
  alone : list_any (is_job p.session p.request) s.lists.jobs.out ≡ false
  alone = none-before p s t kept given

  pub asks-before : asking (asks_too p asks) s ≡ asking asks s
  asks-before =
      ap (λ (js : List Job). record s {
        lists = record s.lists { jobs = record s.lists.jobs { out = js } };
      }) (others-ask p asks s.lists.jobs.out alone)

  crew-same : (count : CrewJob → ℕ) → IsPermutation (job_of p ∷ old.out) new.out
      → sum_by (λ job. count (asked_job (asks_too p asks) job)) t.lists.jobs.out
      ≡ sum_by count new.out
  crew-same count out =
      let grown : sum_by (λ job. count (asked_job (asks_too p asks) job)) t.lists.jobs.out
      ≡ sum_by (λ job. count (asked_job (asks_too p asks) job))
      (s.lists.jobs.out ++ job_named p ∷ []) =
      ap (λ (js : Jobs). sum_by (λ (job : Job). count (asked_job (asks_too p asks) job)) js.out)
      given in
      let split = sum_by-append (λ (job : Job). count (asked_job (asks_too p asks) job))
      s.lists.jobs.out (job_named p ∷ []) in
      let last = sum_by-cons (λ (job : Job). count (asked_job (asks_too p asks) job)) (job_named p)
      [] in
      let own : count (asked_job (asks_too p asks) (job_named p)) ≡ count (job_of p) =
      ap (λ (bytes : List ℕ). count (record {
        session = p.session;
        request = p.request;
        req_type = p.req_type;
        ask = bytes;
      })) (own-asks p asks) in
      omega (
        arith,
        grown,
        split,
        last,
        own,
        others-sum p asks count s.lists.jobs.out alone,
        staffed.agree.same count,
        sum_by-IsPermutation count (job_of p ∷ old.out) new.out out,
        sum_by-cons count (job_of p) old.out,
      )

  pub staffed-more : HasRoom answer p → IsMessage p.out.len
      → IsPermutation (job_of p ∷ old.out) new.out → new.given ≡ old.given + 1
      → new.limit ≡ old.limit → AreStaffed answer (asks_too p asks) new t
  staffed-more room most out one-more limit = record {
    agree = record {
      same = λ count. crew-same count out;
      ready = rw given (all-push (CanFinish answer (asks_too p asks)) s.lists.jobs.out
          (job_named p) (others-ready p asks answer s.lists.jobs.out alone staffed.agree.ready)
          (subst (λ (bytes : List ℕ). IsMessage (length (answer p.req_type bytes)))
          (sym (own-asks p asks)) (subst IsMessage (sym room) most)));
    };
    limit_is = limit ∙ staffed.limit_is ∙ ap (λ (js : Jobs). js.limit) (sym given);
    given_is = one-more ∙ ap (λ n. n + 1) staffed.given_is
        ∙ ap (λ (js : Jobs). js.given) (sym given);
  }

-- such workers are full only where the node's jobs are
pub not-full : (answer : ℕ → List ℕ → List ℕ) (asks : Asks) (staff : Staff) (s : Timed)
    → AreStaffed answer asks staff s → are_full s.lists.jobs ≡ false
    → IsFull staff.limit (length staff.out) staff.given → ⊥
not-full answer asks staff s staffed vacant full = by full
  where
    parts : (nat_le s.lists.jobs.limit (length s.lists.jobs.out) ≡ false)
        × (nat_le MOST_GIVEN s.lists.jobs.given ≡ false)
    parts = or-false (nat_le s.lists.jobs.limit (length s.lists.jobs.out))
        (nat_le MOST_GIVEN s.lists.jobs.given) vacant

    as-many : length s.lists.jobs.out ≡ length staff.out
    as-many = sym (ones s.lists.jobs.out) ∙ staffed.agree.same (λ x. 1) ∙ ones staff.out

    by : IsFull staff.limit (length staff.out) staff.given → ⊥
    by (inl most) =
        absurd (omega (
          arith,
          most,
          as-many,
          staffed.limit_is,
          leb-false s.lists.jobs.limit (length s.lists.jobs.out) parts.0,
        ))
    by (inr most) =
        absurd (omega (
          arith,
          most,
          staffed.given_is,
          leb-false MOST_GIVEN s.lists.jobs.given parts.1,
        ))

-- workers of whom nothing changed have the jobs of a node of whose jobs nothing changed
pub staffed-still : (answer : ℕ → List ℕ → List ℕ) (asks : Asks) (staff : Staff) (s t : Timed)
    → t.lists.jobs ≡ s.lists.jobs → AreStaffed answer asks staff s → AreStaffed answer asks staff t
staffed-still answer asks staff s t same staffed = record {
  agree = record {
    same = λ count.
        ap (λ (js : Jobs). sum_by (λ (job : Job). count (asked_job asks job)) js.out) same
        ∙ staffed.agree.same count;
    ready = rw same staffed.agree.ready;
  };
  limit_is = staffed.limit_is ∙ ap (λ (js : Jobs). js.limit) (sym same);
  given_is = staffed.given_is ∙ ap (λ (js : Jobs). js.given) (sym same);
}

-- a parcel of the service has room for the answer of workers that work for it
pub has-room : (answer : ℕ → List ℕ → List ℕ) (v : Serving) (stands : Served → Type 0) (p : Parcel)
    → IsGiven v stands p → StandsForSome stands → WorksFor answer v → HasRoom answer p
has-room answer v stands p given founded works =
    ap (λ (bytes : List ℕ). length bytes)
    (sym (works founded.0 p.req_type (bytes_of p.ask) given.background))
    ∙ given.room founded.0 founded.1

-- what waits, with what is given
waits-none : (o : Option (List Parcel)) → o ≡ option_map (λ ps. ps ++ []) o
waits-none None = refl
waits-none (Some ps) = ap Some (sym (append-nil ps))

waits-then : (o : Option (List Parcel)) (x y : List Parcel) → option_map (λ ps. ps ++ y)
    (option_map (λ ps. ps ++ x) o) ≡ option_map (λ ps. ps ++ (x ++ y)) o
waits-then None x y = refl
waits-then (Some ps) x y = ap Some (append_assoc ps x y)

given-append : (x y : List Parcel) (jobs : Jobs)
    → with_all_given (x ++ y) jobs ≡ with_all_given y (with_all_given x jobs)
given-append [] y jobs = refl
given-append (p ∷ x) y jobs = given-append x y (with_given (Some p) jobs)

-- where datagrams are, arrivals are
pub some-there : (ds : List DatagramValue) (empty : Bool) → (IsTrue empty ↔ (ds ≡ []))
    → empty ≡ false → map arrival_of ds ≡ [] → ⊥
some-there [] empty told e gone =
    let yes : empty ≡ true = told.1 refl in
    let clash : true ≡ false = sym yes ∙ e in cc
some-there (d ∷ ds) empty told e gone = cc

-- a packet that was in the ring is gone
pub ring-fewer : {A : Type 0} (xs ys : List A) → xs ≢ [] → ys ≡ drop 1 xs → length ys < length xs
ring-fewer {A} [] ys some is = absurd (some refl)
ring-fewer {A} (x ∷ xs) ys some is = rw is (omega arith)

-- what holds once a packet is handled
module _ {R K : Type 0} (log : R → Log)
    (given : K → List Done → Type 0) (v : Serving) where
  pub me-handled : (stands then_stands : Served → Type 0) (o : Option Parcel) (a b : Timed)
      (f g : R) (j k : K) (memory : Change ℕ)
      → MakesHandled log given (serves_by v stands then_stands) (Handles v.mode) o (a ⟶ b) (f ⟶ g)
      (j ⟶ k) memory
      → b.lists.me ≡ a.lists.me
  me-handled stands then_stands o a b f g j k memory h =
      let asks = asks-of o in
      me-goes (asking asks a) (asking asks b) h.serves.makes.noted
      (h.serves.makes.step asks (asks-as o)).goes

  left-handled : (stands then_stands : Served → Type 0) (o : Option Parcel) (a b : Timed)
      (f g : R) (j k : K) (memory : Change ℕ)
      (h : MakesHandled log given (serves_by v stands then_stands) (Handles v.mode) o (a ⟶ b)
      (f ⟶ g) (j ⟶ k) memory)
      → b.lists.ring ≡ ring_left a.lists.ring h.serves.makes.noted
  left-handled stands then_stands o a b f g j k memory h =
      let asks = asks-of o in
      left-goes (asking asks a) (asking asks b) h.serves.makes.noted
      (h.serves.makes.step asks (asks-as o)).goes

  pub still-founded : (stands then_stands : Served → Type 0) (o : Option Parcel) (a b : Timed)
      (f g : R) (j k : K) (memory : Change ℕ)
      → MakesHandled log given (serves_by v stands then_stands) (Handles v.mode) o (a ⟶ b) (f ⟶ g)
      (j ⟶ k) memory
      → StandsForSome stands → StandsForSome then_stands
  still-founded stands then_stands o a b f g j k memory h founded = (
    served_after_all v.mode founded.0 h.serves.makes.noted,
    (h.serves.answers founded.0 founded.1).1,
  )

module _ {R K W : Type 0} (log : R → Log)
    (given : K → List Done → Type 0) (staff : W → Staff) (v : Serving)
    (answer : ℕ → List ℕ → List ℕ) where
  -- a packet of which no job is made
  pub handled-none : (stands then_stands : Served → Type 0) (a b : Timed) (f g : R) (j k : K)
      (w : W) (memory : Change ℕ)
      → MakesHandled log given (serves_by v stands then_stands) (Handles v.mode) None (a ⟶ b)
      (f ⟶ g) (j ⟶ k) memory
      → MakesAllHandled log given (serves_by v stands then_stands)
      (staffed_by answer (staff w ⟶ staff w)) (Handles v.mode) (a ⟶ b) (f ⟶ g) (j ⟶ k) memory
  handled-none stands then_stands a b f g j k w memory h = record {
    noted = h.serves.makes.noted;
    grew = h.serves.makes.grew;
    answers = h.serves.answers;
    gave = [];
    background = tt;
    jobs = h.serves.jobs;
    step = λ asks staffed. record {
      then_asks = asks;
      staffed = staffed-still answer asks (staff w) a b h.serves.jobs staffed;
      waits = waits-none (staff w).waiting;
      handles = h.serves.makes.step asks tt;
    };
    dones = h.dones;
    ends = h.ends;
    told = h.gave;
    left = left-handled log given v stands then_stands None a b f g j k memory h;
    spared = h.serves.spared;
    wants = h.serves.wants;
  }

  -- a packet of which a job is made, that the workers take
  module _ (stands then_stands : Served → Type 0) (p : Parcel) (a b : Timed) (f g : R) (j k : K)
      (w x : W) (memory : Change ℕ)
      (h : MakesHandled log given (serves_by v stands then_stands) (Handles v.mode) (Some p) (a ⟶ b)
      (f ⟶ g) (j ⟶ k) memory)
      (kept : Kept b.lists) (room : HasRoom answer p) where
    taken-with : (asks : Asks) → AreStaffed answer asks (staff w) a
        → IsPermutation (job_of p ∷ (staff w).out) (staff x).out
        → (staff x).given ≡ (staff w).given + 1 → (staff x).limit ≡ (staff w).limit
        → (staff x).waiting ≡ option_map (λ ps. ps ++ p ∷ []) (staff w).waiting
        → HandlesWith (Handles v.mode) answer (p ∷ []) (staff w) (staff x) asks a
        h.serves.makes.noted b
    taken-with asks staffed out one-more limit waits = record {
      then_asks = asks_too p asks;
      staffed = staffed-more answer asks (staff w) (staff x) a b p staffed kept h.serves.jobs room
          h.serves.parcel.most out one-more limit;
      waits = waits;
      handles = subst (λ (z : Timed). Handles v.mode z h.serves.makes.noted
          (asking (asks_too p asks) b))
          (asks-before answer asks (staff w) (staff x) a b p staffed kept h.serves.jobs)
          (h.serves.makes.step (asks_too p asks) (own-asks p asks));
    }

    abbrev Gave : Result (Unit {0}) Parcel → Type 0
    Gave r =
        (IsErr r ↔ IsFull (staff w).limit (length (staff w).out) (staff w).given)
        × OnOk r (IsPermutation (job_of p ∷ (staff w).out) (staff x).out)
        × OnOk r ((staff x).given ≡ (staff w).given + 1)
        × OnOk r ((staff x).waiting ≡ option_map (λ ps. ps ++ p ∷ []) (staff w).waiting)
        × ((staff x).limit ≡ (staff w).limit)

    by-result : (r : Result (Unit {0}) Parcel) → Gave r → (asks : Asks)
        → AreStaffed answer asks (staff w) a
        → HandlesWith (Handles v.mode) answer (p ∷ []) (staff w) (staff x) asks a
        h.serves.makes.noted b
    by-result (Ok u) gave asks staffed = taken-with asks staffed gave.1 gave.2 gave.4 gave.3
    by-result (Err e) gave asks staffed =
        absurd (not-full answer asks (staff w) a staffed h.serves.vacant (gave.0.0 refl))

    pub handled-some : (r : Result (Unit {0}) Parcel) → Gave r
        → MakesAllHandled log given (serves_by v stands then_stands)
        (staffed_by answer (staff w ⟶ staff x)) (Handles v.mode) (a ⟶ b) (f ⟶ g) (j ⟶ k) memory
    handled-some r gave = record {
      noted = h.serves.makes.noted;
      grew = h.serves.makes.grew;
      answers = h.serves.answers;
      gave = p ∷ [];
      background = (h.serves.parcel.background, tt);
      jobs = h.serves.jobs;
      step = by-result r gave;
      dones = h.dones;
      ends = h.ends;
      told = h.gave;
      left = left-handled log given v stands then_stands (Some p) a b f g j k memory h;
      spared = h.serves.spared;
      wants = h.serves.wants;
    }

  -- turns, one after another
  pub all-handled-none : (stands : Served → Type 0) (P : Rel) (a : Timed) (f : R) (j : K) (w : W)
      (n : ℕ)
      → MakesAllHandled log given (serves_by v stands stands)
      (staffed_by answer (staff w ⟶ staff w)) (Chain P) (a ⟶ a) (f ⟶ f) (j ⟶ j) (n ⟶ n)
  all-handled-none stands P a f j w n = record {
    noted = [];
    grew = grew-none log f;
    answers = λ served before. (tt, before);
    gave = [];
    background = tt;
    jobs = refl;
    step = λ asks staffed. record {
      then_asks = asks;
      staffed = staffed;
      waits = waits-none (staff w).waiting;
      handles = none;
    };
    dones = [];
    ends = refl;
    told = gave-none given j;
    left = refl;
    spared = tt;
    wants = none-risen n;
  }

  pub all-handled-more : (one two three : Served → Type 0) (P : Rel) (a b c : Timed) (f g h : R)
      (j k l : K) (w x y : W) (m n o : ℕ) → b.lists.me ≡ a.lists.me
      → MakesAllHandled log given (serves_by v one two) (staffed_by answer (staff w ⟶ staff x))
      (Chain P) (a ⟶ b) (f ⟶ g) (j ⟶ k) (m ⟶ n)
      → MakesAllHandled log given (serves_by v two three) (staffed_by answer (staff x ⟶ staff y)) P
      (b ⟶ c) (g ⟶ h) (k ⟶ l) (n ⟶ o)
      → MakesAllHandled log given (serves_by v one three) (staffed_by answer (staff w ⟶ staff y))
      (Chain P) (a ⟶ c) (f ⟶ h) (j ⟶ l) (m ⟶ o)
  all-handled-more one two three P a b c f g h j k l w x y m n o me p q = record {
    noted = p.noted ++ q.noted;
    grew = grew-then log f g h p.noted q.noted p.grew q.grew;
    answers = λ served before.
        let first = p.answers served before in
        let second = q.answers (served_after_all v.mode served p.noted) first.1 in (
          answers-append v served p.noted q.noted first.0 second.0,
          subst three (sym (served-append v.mode served p.noted q.noted)) second.1,
        );
    gave = p.gave ++ q.gave;
    background = all-both (λ (n : Parcel). v.mode n.req_type ≡ Background) p.gave q.gave
        p.background q.background;
    jobs = q.jobs ∙ ap (with_all_given q.gave) p.jobs
        ∙ sym (given-append p.gave q.gave a.lists.jobs);
    step = λ asks staffed.
        let first = p.step asks staffed in
        let second = q.step first.then_asks first.staffed in
        record {
          then_asks = second.then_asks;
          staffed = second.staffed;
          waits = second.waits ∙ ap (option_map (λ ps. ps ++ q.gave)) first.waits
              ∙ waits-then (staff w).waiting p.gave q.gave;
          handles = more first.handles q.noted (asking second.then_asks c) second.handles;
        };
    dones = p.dones ++ q.dones;
    ends = ends-append p.noted q.noted ∙ ap (λ z. z ++ filter is_end q.noted) p.ends
        ∙ ap (λ z. map (done_fact a.lists.me) p.dones ++ z) q.ends
        ∙ ap (λ m. map (done_fact a.lists.me) p.dones ++ map (done_fact m) q.dones) me
        ∙ sym (map-append (done_fact a.lists.me) p.dones q.dones);
    told = gave-then given j k l p.dones q.dones p.told q.told;
    left = q.left ∙ ap (λ (ring : List Arrival). ring_left ring q.noted) p.left
        ∙ sym (left-append a.lists.ring p.noted q.noted);
    spared = spares-append v a.lists.ring p.noted q.noted p.spared
        (subst (λ (ring : List Arrival). SparesShort v ring q.noted) p.left q.spared);
    wants = subst (λ (k : ℕ). HasRisenBy k m o) (sym (many-append is_lack p.noted q.noted))
        (both-risen (lacks_in p.noted) (lacks_in q.noted) m n o p.wants q.wants);
  }

  -- until no more can be handled
  pub all-handled-over : (stands then_stands : Served → Type 0) (a b : Timed) (f g : R) (j k : K)
      (w x : W) (memory : Change ℕ) → NoMoreToHandle b
      → MakesAllHandled log given (serves_by v stands then_stands)
      (staffed_by answer (staff w ⟶ staff x)) (Chain (Handles v.mode)) (a ⟶ b) (f ⟶ g) (j ⟶ k)
      memory
      → MakesAllHandled log given (serves_by v stands then_stands)
      (staffed_by answer (staff w ⟶ staff x)) (HandlesAll v.mode) (a ⟶ b) (f ⟶ g) (j ⟶ k) memory
  all-handled-over stands then_stands a b f g j k w x memory over p = record {
    noted = p.noted;
    grew = p.grew;
    answers = p.answers;
    gave = p.gave;
    background = p.background;
    jobs = p.jobs;
    step = λ asks staffed.
        let done = p.step asks staffed in
        record {
          then_asks = done.then_asks;
          staffed = done.staffed;
          waits = done.waits;
          handles = record { steps = done.handles; over = over };
        };
    dones = p.dones;
    ends = p.ends;
    told = p.told;
    left = p.left;
    spared = p.spared;
    wants = p.wants;
  }

-- what a packet leaves, by what was made of it
pub leaves-handled : {V W K R : Type 0} (v : Service.Ghosts V) (w : Workers.Ghosts W)
    (given : K → List Done → Type 0) (log : R → Log) (o : Option Parcel) (a b : Holding) (f g : V)
    (x y : W) (p q : R) (j k : K) (memory : Change ℕ) → HasFront v f a
    → MakesHandled log given (service_change v (f ⟶ g)) (Handles v.mode_of) o
    (timed_of a ⟶ timed_of b) (p ⟶ q) (j ⟶ k) memory
    → AllServed v.mode_of b.lists.servers → GivesBackTo given a.handed b.handed j k
    → w.worked y ≡ w.worked x → w.looks y ≡ w.looks x → w.team y ≡ w.team x
    → LeavesHandled v w given (a ⟶ b) (f ⟶ g) (x ⟶ y) (j ⟶ k)
leaves-handled v w given log o a b f g x y p q j k memory front handles served handed worked looks
    team = record {
      served = served;
      founded = still-founded log given (rules_of v) (v.stands f) (v.stands g) o (timed_of a)
          (timed_of b) p q j k memory handles front.serving.founded;
      me = me-handled log given (rules_of v) (v.stands f) (v.stands g) o (timed_of a) (timed_of b)
          p q j k memory handles;
      worked = worked;
      looks = looks;
      team = team;
      handed = handed;
    }

-- what packets leave, one after another
pub leaves-handled-then : {V W K : Type 0} (v : Service.Ghosts V) (w : Workers.Ghosts W)
    (given : K → List Done → Type 0) (a b c : Holding) (f g h : V) (x y z : W) (i j k : K)
    → LeavesHandled v w given (a ⟶ b) (f ⟶ g) (x ⟶ y) (i ⟶ j)
    → LeavesHandled v w given (b ⟶ c) (g ⟶ h) (y ⟶ z) (j ⟶ k)
    → LeavesHandled v w given (a ⟶ c) (f ⟶ h) (x ⟶ z) (i ⟶ k)
leaves-handled-then v w given a b c f g h x y z i j k p q = record {
  served = q.served;
  founded = q.founded;
  me = q.me ∙ p.me;
  worked = q.worked ∙ p.worked;
  looks = q.looks ∙ p.looks;
  team = q.team ∙ p.team;
  handed = gives-more given a.handed b.handed c.handed i j k p.handed q.handed;
}
