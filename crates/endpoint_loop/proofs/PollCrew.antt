-- What the workers have of a node's jobs tells what these ask.
use Rattle.std.proofs.Common.{◌≡◌, ℕ, ◌+◌, ◌≤◌, Bool, true, false, cond, Option, Some, None, List, []}
use Rattle.std.proofs.Common.{◌∷◌, refl, sym, ap, ap₂, ◌∙◌, arith}
use Rattle.std.specs.Prelude.{count_by, map, sum_by}
use Rattle.std.specs.List.{AllByRecursion, find, list_any}
use Rattle.std.proofs.lemmas.Bool.{eq-eqb}
use Rattle.std.proofs.lemmas.List.Sums.{sum_by-cons}
use Rattle.rpc_base.specs.Tables.{without_first}
use Rattle.rpc_base.proofs.FirstLemmas.{counted-cons, counted-none, found-le, none-counted, sum-left}
use Rattle.rpc_base.proofs.TakingLemmas.{find-passes}
use Rattle.rpc_laws.specs.declared.tables.Job.{Job}
use Rattle.rpc_laws.specs.declared.tables.Timed.{Timed}
use Rattle.rpc_laws.specs.Jobs.{is_job}
use Rattle.worker_crew.specs.Jobs.{Job as CrewJob}
use Rattle.node_steps.specs.Jobs.{AreStaffed, asked_job, CanFinish, Staff}
use Rattle.endpoint_loop.specs.Endpoints.{asks_of, asked_in, is_job_of, IsStaffed, told}
use Rattle.node_steps.specs.Seen.{Asks, asking, with_ask}
use Rattle.node_steps.proofs.JobsCrew.{by-counts, none-any, none-sum}
use Rattle.node_steps.proofs.JobsSteps.{whose-job}

module _ (asks : Asks) (out : List CrewJob) (jobs : List Job)
    (same : (count : CrewJob → ℕ)
    → sum_by (λ job. count (asked_job asks job)) jobs ≡ sum_by count out)
    (alone : (t r : ℕ) → count_by (is_job t r) jobs ≤ 1) where
  -- the jobs of a request, counted at the workers
  at-workers : (t r : ℕ) (count : CrewJob → ℕ)
      → sum_by (λ job. cond (is_job t r job) (count (asked_job asks job)) 0) jobs
      ≡ sum_by (λ x. cond (is_job_of t r x) (count x) 0) out
  at-workers t r count = same (λ x. cond (is_job_of t r x) (count x) 0)

  module _ (t r : ℕ) (job : Job) (found : find (is_job t r) jobs ≡ Some job) where
    passes : is_job t r job ≡ true
    passes = find-passes (is_job t r) jobs job found

    -- there is no other
    only : (count : CrewJob → ℕ)
        → sum_by (λ k. cond (is_job t r k) (count (asked_job asks k)) 0) jobs
        ≡ count (asked_job asks job)
    only count =
        let less = sum-left (is_job t r) (λ (k : Job). cond (is_job t r k) 1 0) jobs job found in
        let one : cond {A = ℕ} (is_job t r job) 1 0 ≡ 1 = ap (λ (b : Bool). cond {A = ℕ} b 1 0)
        passes in
        let left : list_any (is_job t r) (without_first (is_job t r) jobs) ≡ false =
        counted-none (is_job t r) (without_first (is_job t r) jobs) (omega (
          arith,
          less,
          one,
          alone
              t r,
        )) in
        let all = sum-left (is_job t r) (λ (k : Job). cond (is_job t r k) (count (asked_job asks k))
        0) jobs job found in
        let rest = none-sum (is_job t r) (λ (k : Job). count (asked_job asks k))
        (without_first (is_job t r) jobs) left in
        let here : cond {A = ℕ} (is_job t r job) (count (asked_job asks job)) 0
        ≡ count (asked_job asks job) =
        ap (λ (b : Bool). cond {A = ℕ} b (count (asked_job asks job)) 0) passes in
        omega (arith, all, rest, here)

    told-found : asked_in (find (is_job_of t r) out) ≡ asks t r
    told-found = by (find (is_job_of t r) out) refl
      where
        by : (o : Option CrewJob) → find (is_job_of t r) out ≡ o → asked_in o ≡ asks t r
        by None e =
            let none = none-sum (is_job_of t r) (λ (x : CrewJob). 1) out (none-any (is_job_of t r)
            out e) in
            let one = only (λ x. 1) in
            let both = at-workers t r (λ x. 1) in
            absurd (omega (arith, none, one, both))
        by (Some x) e =
            let is : is_job_of t r x ≡ true = find-passes (is_job_of t r) out x e in
            let own = whose-job t r job passes in
            let equal : x ≡ asked_job asks job = by-counts x (asked_job asks job) (λ count.
            let some = found-le (is_job_of t r) (λ (y : CrewJob). cond (is_job_of t r y)
            (count y) 0) out x e in
            let here : cond {A = ℕ} (is_job_of t r x) (count x) 0 ≡ count x =
            ap (λ (b : Bool). cond {A = ℕ} b (count x) 0) is in
            omega (arith, some, here, only count, at-workers t r count)) in
            ap (λ (y : CrewJob). y.ask) equal ∙ ap₂ (λ (a b : ℕ). asks a b) own.0 own.1

  told-one : (t r : ℕ) → 1 ≤ count_by (is_job t r) jobs → asks_of out t r ≡ asks t r
  told-one t r some = by (find (is_job t r) jobs) refl
    where
      by : (o : Option Job) → find (is_job t r) jobs ≡ o → asks_of out t r ≡ asks t r
      by None e = absurd (omega (
        arith,
        some,
        none-counted (is_job t r) jobs (none-any (is_job t r)
            jobs e),
      ))
      by (Some job) e = told-found t r job e

  -- each job of the node asks what the workers have of it
  told-all : (js : List Job)
      → ((t r : ℕ) → count_by (is_job t r) js ≤ count_by (is_job t r) jobs)
      → AllByRecursion (λ j. asks_of out j.session j.request ≡ asks j.session j.request) js
  told-all [] few = tt
  told-all (j ∷ js) few =
      let own : is_job j.session j.request j ≡ true =
      rw (eq-eqb j.session j.session refl, eq-eqb j.request j.request refl) refl in
      let one = counted-cons (is_job j.session j.request) j js true own in (
        told-one j.session j.request (omega (arith, one, few j.session j.request)),
        told-all js (λ t r. let more = counted-cons (is_job t r) j js (is_job t r j) refl in
            omega (arith, more, few t r)),
      )

  each-told : AllByRecursion (λ j. asks_of out j.session j.request ≡ asks j.session j.request) jobs
  each-told = told-all jobs (λ t r. omega arith)

same-with : (a b : Asks) (jobs : List Job)
    → AllByRecursion (λ j. b j.session j.request ≡ a j.session j.request) jobs
    → map (with_ask a) jobs ≡ map (with_ask b) jobs
same-with a b [] all = refl
same-with a b (j ∷ jobs) all =
    ap₂ (λ (k : Job) (ks : List Job). k ∷ ks)
    (ap (λ (bytes : List ℕ). record j { ask = bytes }) (sym (all.0)))
    (same-with a b jobs all.1)

same-sum : (a b : Asks) (jobs : List Job) (count : CrewJob → ℕ)
    → AllByRecursion (λ j. b j.session j.request ≡ a j.session j.request) jobs
    → sum_by (λ job. count (asked_job b job)) jobs ≡ sum_by (λ job. count (asked_job a job)) jobs
same-sum a b [] count all = refl
same-sum a b (j ∷ jobs) count all =
    let one : count (asked_job b j) ≡ count (asked_job a j) =
    ap (λ (bytes : List ℕ). count (record {
      session = j.session;
      request = j.request;
      req_type = j.req_type;
      ask = bytes;
    })) (all.0) in
    sum_by-cons (λ (job : Job). count (asked_job b job)) j jobs
    ∙ ap₂ (λ (x y : ℕ). x + y) one (same-sum a b jobs count all.1)
    ∙ sym (sum_by-cons (λ (job : Job). count (asked_job a job)) j jobs)

same-ready : (answer : ℕ → List ℕ → List ℕ) (a b : Asks) (jobs : List Job)
    → AllByRecursion (λ j. b j.session j.request ≡ a j.session j.request) jobs
    → AllByRecursion (CanFinish answer a) jobs → AllByRecursion (CanFinish answer b) jobs
same-ready answer a b [] all ready = tt
same-ready answer a b (j ∷ jobs) all ready =
    (rw (all.0) ready.0, same-ready answer a b jobs all.1 ready.1)

module _ (answer : ℕ → List ℕ → List ℕ) (asks : Asks) (staff : Staff) (s : Timed)
    (staffed : AreStaffed answer asks staff s)
    (alone : (t r : ℕ) → count_by (is_job t r) s.lists.jobs.out ≤ 1) where
  known : AllByRecursion (λ j. asks_of staff.out j.session j.request ≡ asks j.session j.request)
      s.lists.jobs.out
  known = each-told asks staff.out s.lists.jobs.out staffed.agree.same alone

  pub same-told : asking asks s ≡ told staff.out s
  same-told =
      ap (λ (jobs : List Job). record s {
        lists = record s.lists { jobs = record s.lists.jobs { out = jobs } };
      }) (same-with asks (asks_of staff.out) s.lists.jobs.out known)

  pub staffed-told : IsStaffed answer staff s
  staffed-told = record {
    agree = record {
      same = λ count. same-sum asks (asks_of staff.out) s.lists.jobs.out count known
          ∙ staffed.agree.same count;
      ready = same-ready answer asks (asks_of staff.out) s.lists.jobs.out known
          staffed.agree.ready;
    };
    limit_is = staffed.limit_is;
    given_is = staffed.given_is;
  }
