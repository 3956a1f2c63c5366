-- Endpoints as scripts see them: what their jobs ask changes nothing of what always holds of their lists.
use Rattle.std.proofs.Common.{◌≡◌, ℕ, cond, List, [], ◌∷◌, ◌++◌}
use Rattle.std.proofs.Common.{map, refl, sym, ap, subst, ◌∙◌, arith}
use Rattle.std.specs.Prelude.{count_by, sum_by}
use Rattle.std.specs.List.{AllByRecursion}
use Rattle.std.proofs.lemmas.List.Sums.{sum_by-cons}
use Rattle.node_steps.specs.Jobs.{CanFinish, Staff, asked_job, staff_of}
use Rattle.endpoint_loop.specs.Endpoints.{IsStaffed, asks_of, is_job_of}
use Rattle.node_steps.specs.Seen.{Asks, asking, with_ask}
use Rattle.node_laws.specs.Kept.{Kept}
use Rattle.node_laws.specs.Valid.{Valid, jobs_of}
use Rattle.rpc_base.proofs.FirstLemmas.{counted-cons}
use Rattle.rpc_laws.specs.declared.tables.Job.{Job}
use Rattle.rpc_laws.specs.declared.tables.Jobs.{Jobs}
use Rattle.rpc_laws.specs.declared.tables.Timed.{Timed}
use Rattle.rpc_laws.specs.Jobs.{is_job}
use Rattle.rpc_outside.specs.PlainAnswer.{background_answer}
use Rattle.rpc_world.specs.Answered.{End, told_end}
use Rattle.rpc_world.specs.Before.{local_members}
use Rattle.work_laws.specs.Known.{HasJobs, is_of_request}
use Rattle.worker_board.specs.declared.Parcel.{Parcel}
use Rattle.worker_crew.specs.Jobs.{Job as CrewJob, job_of}
use Rattle.worker_crew.specs.Local.{out_of}

-- how many jobs a request has doesn't hang on what they ask
pub jobs-asked : (t r : ℕ) (asks : Asks) (out : List Job) → jobs_of t r (map (with_ask asks) out) ≡ jobs_of t r out
jobs-asked t r asks [] = refl
jobs-asked t r asks (job ∷ out) =
    let more = jobs-asked t r asks out in
    let one = counted-cons (is_job t r) job out (is_job t r job) refl in
    let two = counted-cons (is_job t r) (with_ask asks job) (map (with_ask asks) out) (is_job t r job) refl in
    omega (arith, more, one, two)

pub valid-asked : (asks : Asks) (s : Timed) → Valid s.lists → Valid (asking asks s).lists
valid-asked asks s v = record {
  numbered = v.numbered;
  alone = v.alone;
  once = v.once;
  sound = v.sound;
  idle = v.idle;
  served = v.served;
  runs = λ t r.
      let few = v.runs t r in
      let same = jobs-asked t r asks s.lists.jobs.out in
      omega arith;
  works = λ t r.
      let few = v.works t r in
      let same = jobs-asked t r asks s.lists.jobs.out in
      omega arith;
  shared = v.shared;
}

pub valid-told : (e : End) → Kept e.timed.lists → Valid (told_end e).lists
valid-told e k = valid-asked (asks_of (out_of e.workers)) e.timed k.valid

-- counting jobs, one by one
abbrev pub one_of : ℕ → ℕ → CrewJob → ℕ
one_of t r job = cond (is_job_of t r job) 1 0

pub sum-out : (t r : ℕ) (ps : List Parcel) → sum_by (one_of t r) (map job_of ps) ≡ count_by (is_of_request t r) ps
sum-out t r [] = refl
sum-out t r (p ∷ ps) =
    let more = sum-out t r ps in
    let one = counted-cons (is_of_request t r) p ps (is_of_request t r p) refl in
    let two = sum_by-cons (one_of t r) (job_of p) (map job_of ps) in
    omega (arith, more, one, two)

sum-jobs : (t r : ℕ) (asks : Asks) (out : List Job)
    → sum_by (λ job. one_of t r (asked_job asks job)) out ≡ jobs_of t r out
sum-jobs t r asks [] = refl
sum-jobs t r asks (job ∷ out) =
    let more = sum-jobs t r asks out in
    let one = counted-cons (is_job t r) job out (is_job t r job) refl in
    let two = sum_by-cons (λ j. one_of t r (asked_job asks j)) job out in
    omega (arith, more, one, two)

-- workers that have exactly the jobs of a node have no others
pub staffed-has : (e : End) → IsStaffed background_answer (staff_of local_members e.workers) e.timed
    → HasJobs (told_end e) e.workers
staffed-has e st t r =
    let asks = asks_of (out_of e.workers) in
    let out = e.timed.lists.jobs.out in
    let same = st.agree.same (one_of t r) in
    let crew = sum-out t r (e.workers.waiting ++ e.workers.worked) in
    let jobs = sum-jobs t r asks out in
    sym crew ∙ (sym same ∙ (jobs ∙ sym (jobs-asked t r asks out)))

-- only the jobs of a node matter to that
pub staffed-stays : (answer : ℕ → List ℕ → List ℕ) (staff : Staff) (s t : Timed)
    → t.lists.jobs ≡ s.lists.jobs → IsStaffed answer staff s → IsStaffed answer staff t
staffed-stays answer staff s t jobs st =
    let asks = asks_of staff.out in
    record {
      agree = record {
        same = λ count. ap (λ (j : Jobs). sum_by (λ job. count (asked_job asks job)) j.out) jobs
            ∙ st.agree.same count;
        ready = subst (λ (j : Jobs). AllByRecursion (CanFinish answer asks) j.out) (sym jobs) st.agree.ready;
      };
      limit_is = st.limit_is ∙ ap (λ (j : Jobs). j.limit) (sym jobs);
      given_is = st.given_is ∙ ap (λ (j : Jobs). j.given) (sym jobs);
    }
