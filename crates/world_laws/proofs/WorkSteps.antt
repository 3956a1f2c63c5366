-- The jobs that a script works are groups of a run: each is out, and wasn't worked.
use Rattle.std.proofs.Common.{◌≡◌, ◌+◌, ◌≤◌, ◌==◌, ◌&&◌, ◌||◌, ℕ, Bool, true, false, not, cond}
use Rattle.std.proofs.Common.{List, [], ◌∷◌, ◌++◌, map, Option, Some, None, slice_get, refl, ap}
use Rattle.std.proofs.Common.{◌∙◌, subst, arith, eq-eqb}
use Rattle.std.specs.List.{filter, list_any, AllByRecursion}
use Rattle.std.proofs.lemmas.List.Sums.{sum_by-cons}
use Rattle.node_laws.proofs.Allowed.{AllAllowed}
use Rattle.end_laws.specs.JointRun.{AloneGroup}
use Rattle.node_laws.specs.NodeRun.{Group, misses, works}
use Rattle.node_laws.specs.Valid.{jobs_of, Valid}
use Rattle.rpc_base.specs.declared.event.Event.TheVariants.{Worked}
use Rattle.rpc_base.specs.declared.fact.Fact.{Fact}
use Rattle.rpc_laws.proofs.PollLemmas.{chain-cons}
use Rattle.rpc_laws.specs.declared.tables.Job.{Job}
use Rattle.rpc_laws.specs.declared.tables.Lists.{Lists}
use Rattle.rpc_laws.specs.declared.tables.Timed.{Timed}
use Rattle.rpc_laws.specs.declared.tables.WorkedJob.{WorkedJob}
use Rattle.rpc_laws.specs.Facts.{plain}
use Rattle.rpc_laws.specs.Jobs.{is_job}
use Rattle.rpc_laws.specs.NodeLists.{after, after_all}
use Rattle.rpc_laws.specs.Steps.{none, Chain, Rel}
use Rattle.rpc_laws.specs.Working.{is_worked, waiting_of, work_of, worked_after_all, Works, WorksAll}
use Rattle.rpc_outside.specs.PlainAnswer.{plain_mode}
use Rattle.world_laws.proofs.RunLemmas.{Groups, Mine, mine-works}
use Rattle.world_laws.proofs.WorkLemmas.{AllMay, AllNode, any-same, times_worked, to_work, works-spend}
use Rattle.rpc_base.proofs.BasicLemmas.{not-true}
use Rattle.rpc_base.proofs.PlaceLemmas.{all-at}

-- a job that waits is out, and wasn't worked
pub record Waits (worked : List WorkedJob) (me : ℕ) (out : List Job) (job : Job) : Type 0 where
  pub unworked : list_any (is_worked me job.session job.request) worked ≡ false
  pub some : 1 ≤ jobs_of job.session job.request out

own-job : (job : Job) → is_job job.session job.request job ≡ true
own-job job = rw (eq-eqb job.session job.session refl, eq-eqb job.request job.request refl) refl

counted : (t r : ℕ) (job : Job) (jobs : List Job)
    → jobs_of t r (job ∷ jobs) ≡ cond (is_job t r job) 1 0 + jobs_of t r jobs
counted t r job jobs = sum_by-cons (λ (j : Job). cond (is_job t r j) 1 0) job jobs

one-more : (b : Bool) (n : ℕ) → n ≤ cond b 1 0 + n
one-more true n = omega arith
one-more false n = omega arith

-- a list whose jobs wait
waits-more : (worked : List WorkedJob) (me : ℕ) (out : List Job) (job j : Job)
    → Waits worked me out j → Waits worked me (job ∷ out) j
waits-more worked me out job j w =
    let c = counted j.session j.request job out in
    let more = one-more (is_job j.session j.request job) (jobs_of j.session j.request out) in
    let some = w.some in
    record { unworked = w.unworked; some = omega arith }

all-more : (worked : List WorkedJob) (me : ℕ) (out : List Job) (job : Job) (jobs : List Job)
    → AllByRecursion (Waits worked me out) jobs → AllByRecursion (Waits worked me (job ∷ out)) jobs
all-more worked me out job [] h = tt
all-more worked me out job (j ∷ jobs) h = (waits-more worked me out job j h.0, all-more worked me out job jobs h.1)

wait-by : (worked : List WorkedJob) (me : ℕ) (job : Job) (out : List Job) (b : Bool)
    → not (list_any (is_worked me job.session job.request) worked) ≡ b
    → AllByRecursion (Waits worked me out) (filter
    (λ (j : Job). not (list_any (is_worked me j.session j.request) worked)) out)
    → AllByRecursion (Waits worked me (job ∷ out))
    (cond b (job ∷ filter (λ (j : Job). not (list_any (is_worked me j.session j.request) worked))
    out) (filter (λ (j : Job). not (list_any (is_worked me j.session j.request) worked)) out))
wait-by worked me job out true e h =
    let c = counted job.session job.request job out in
    let one : cond {A = ℕ} (is_job job.session job.request job) 1 0 ≡ 1 =
    ap {B = ℕ} (λ (b : Bool). cond b 1 0) (own-job job) in (
      record {
        unworked = not-true (list_any (is_worked me job.session job.request) worked) e;
        some = omega arith;
      },
      all-more worked me out job _ h,
    )
wait-by worked me job out false e h = all-more worked me out job _ h

all-wait : (worked : List WorkedJob) (me : ℕ) (out : List Job)
    → AllByRecursion (Waits worked me out) (filter
    (λ (j : Job). not (list_any (is_worked me j.session j.request) worked)) out)
all-wait worked me [] = tt
all-wait worked me (job ∷ out) =
    wait-by worked me job out (not (list_any (is_worked me job.session job.request) worked)) refl
    (all-wait worked me out)

-- no request has more jobs that wait than jobs that are out
fewer-by : (t r : ℕ) (p : Job → Bool) (job : Job) (out : List Job) (b : Bool)
    → jobs_of t r (filter p out) ≤ jobs_of t r out
    → jobs_of t r (cond b (job ∷ filter p out) (filter p out)) ≤ jobs_of t r (job ∷ out)
fewer-by t r p job out true ih =
    let a = counted t r job (filter p out) in
    let c = counted t r job out in
    omega arith
fewer-by t r p job out false ih =
    let c = counted t r job out in
    let more = one-more (is_job t r job) (jobs_of t r out) in
    omega arith

fewer : (t r : ℕ) (p : Job → Bool) (out : List Job) → jobs_of t r (filter p out) ≤ jobs_of t r out
fewer t r p [] = omega arith
fewer t r p (job ∷ out) = fewer-by t r p job out (p job) (fewer t r p out)

-- one that is counted is there
some-by : (t r : ℕ) (job : Job) (out : List Job) (b : Bool) → is_job t r job ≡ b
    → 1 ≤ jobs_of t r (job ∷ out) → (1 ≤ jobs_of t r out → list_any (is_job t r) out ≡ true)
    → (is_job t r job || list_any (is_job t r) out) ≡ true
some-by t r job out true e h ih = rw e refl
some-by t r job out false e h ih =
    let c = counted t r job out in
    let zero : cond {A = ℕ} (is_job t r job) 1 0 ≡ 0 = ap {B = ℕ} (λ (b : Bool). cond b 1 0) e in
    rw e (ih (omega arith))

some-out : (t r : ℕ) (out : List Job) → 1 ≤ jobs_of t r out → list_any (is_job t r) out ≡ true
some-out t r [] h = absurd (omega arith)
some-out t r (job ∷ out) h = some-by t r job out (is_job t r job) refl h (some-out t r out)

-- one job is worked
work-by : (worked : List WorkedJob) (i : ℕ) (s : Timed) (o : Option Job) (x : List Fact) (t : Timed)
    → slice_get (waiting_of worked s.lists) i ≡ o → x ≡ plain s.lists.me (work_of i o) ∷ []
    → t ≡ record { lists = after_all s.clock s.lists x; clock = s.clock } → Group plain_mode s x t
work-by worked i s None x t is facts goes = misses i (record { facts = facts; goes = goes })
work-by worked i s (Some job) x t is facts goes =
    let w : Waits worked s.lists.me s.lists.jobs.out job =
    all-at (Waits worked s.lists.me s.lists.jobs.out)
    (waiting_of worked s.lists) i job (all-wait worked s.lists.me s.lists.jobs.out) is in
    works job.session job.request (some-out job.session job.request s.lists.jobs.out w.some)
    (record { facts = facts; goes = goes })

pub works-group : (worked : List WorkedJob) (i : ℕ) (s : Timed) (x : List Fact) (t : Timed)
    → Works worked i s x t → Group plain_mode s x t
works-group worked i s x t h = work-by worked i s (slice_get (waiting_of worked s.lists) i) x t refl h.facts h.goes

work-may : (worked : List WorkedJob) (i clock : ℕ) (l : Lists) (o : Option Job)
    → slice_get (waiting_of worked l) i ≡ o → AllMay worked clock l (plain l.me (work_of i o) ∷ [])
work-may worked i clock l None is = (tt, tt)
work-may worked i clock l (Some job) is =
    let w : Waits worked l.me l.jobs.out job =
    all-at (Waits worked l.me l.jobs.out)
    (waiting_of worked l) i job (all-wait worked l.me l.jobs.out) is in
    ((w.unworked, w.some), tt)

work-me : (clock i : ℕ) (l : Lists) (o : Option Job) → (after clock l (plain l.me (work_of i o))).me ≡ l.me
work-me clock i l o = refl

pub works-mine : (n : ℕ) (worked : List WorkedJob) (i : ℕ) (s : Timed) (x : List Fact) (t : Timed)
    → s.lists.me ≡ n → Valid s.lists → Works worked i s x t → Mine n worked s x t
works-mine n worked i s x t me v h =
    let o = slice_get (waiting_of worked s.lists) i in
    let kept : t.lists.me ≡ s.lists.me =
    ap (λ (u : Timed). u.lists.me) h.goes
    ∙ ap (λ (y : List Fact). (after_all s.clock s.lists y).me) h.facts in
    mine-works n worked s x t me v (works-group worked i s x t h)
    (rw h.facts (refl, tt)) kept (λ clock. rw h.facts (work-may worked i clock s.lists o refl))

-- all jobs that wait are worked, one after another: the lists stay
abbrev worked_facts : ℕ → List Job → List Fact
worked_facts me jobs = map (λ job. plain me (Worked job.session job.request)) jobs

lists-same : (clock : ℕ) (l : Lists) (jobs : List Job) → after_all clock l (worked_facts l.me jobs) ≡ l
lists-same clock l [] = refl
lists-same clock l (job ∷ jobs) = lists-same clock l jobs

jobs-groups : (s : Timed) (jobs : List Job)
    → AllByRecursion (λ (job : Job). 1 ≤ jobs_of job.session job.request s.lists.jobs.out) jobs
    → Groups s (worked_facts s.lists.me jobs) s
jobs-groups s [] h = none
jobs-groups s (job ∷ jobs) h =
    chain-cons (Group plain_mode) s (plain s.lists.me (Worked job.session job.request) ∷ []) s
    (works job.session job.request (some-out job.session job.request s.lists.jobs.out h.0)
    (record { facts = refl; goes = refl })) (jobs-groups s jobs h.1)

waits-some : (worked : List WorkedJob) (me : ℕ) (out jobs : List Job)
    → AllByRecursion (Waits worked me out) jobs
    → AllByRecursion (λ (job : Job). 1 ≤ jobs_of job.session job.request out) jobs
waits-some worked me out [] h = tt
waits-some worked me out (j ∷ jobs) h = (h.0.some, waits-some worked me out jobs h.1)

pub all-groups : (worked : List WorkedJob) (s : Timed) (x : List Fact) (t : Timed)
    → WorksAll worked s x t → Groups s x t
all-groups worked s x t h =
    let jobs = waiting_of worked s.lists in
    let facts : x ≡ worked_facts s.lists.me jobs = h.facts in
    let same : t ≡ s = h.goes ∙ (ap (λ (y : List Fact).
    record { lists = after_all s.clock s.lists y; clock = s.clock }) facts
    ∙ ap (λ (l : Lists). record { lists = l; clock = s.clock })
    (lists-same s.clock s.lists jobs)) in
    rw (facts, same) (jobs-groups s jobs (waits-some worked s.lists.me s.lists.jobs.out jobs
    (all-wait worked s.lists.me s.lists.jobs.out)))

-- each of them may be: no two are of one request
next-waits : (worked : List WorkedJob) (me : ℕ) (out : List Job) (job j : Job) (jobs : List Job)
    → ((t r : ℕ) → jobs_of t r (job ∷ jobs) ≤ 1) → 1 ≤ jobs_of j.session j.request jobs
    → Waits worked me out j
    → Waits (worked ++ record { node = me; session = job.session; request = job.request } ∷ []) me
    out j
next-waits worked me out job j jobs few some w = record {
  unworked = any-same (is_worked me j.session j.request) worked
      (record { node = me; session = job.session; request = job.request })
      (by (is_job j.session j.request job) refl) ∙ w.unworked;
  some = w.some;
}
  where
    by : (b : Bool) → is_job j.session j.request job ≡ b
        → ((me == me) && (job.session == j.session && job.request == j.request)) ≡ false
    by true e =
        let c = counted j.session j.request job jobs in
        let one : cond {A = ℕ} (is_job j.session j.request job) 1 0 ≡ 1 = ap {B = ℕ} (λ (b : Bool). cond b 1 0) e in
        let most = few j.session j.request in
        absurd (omega arith)
    by false e = rw (eq-eqb me me refl, e) refl

all-next : (worked : List WorkedJob) (me : ℕ) (out : List Job) (job : Job) (all jobs : List Job)
    → ((t r : ℕ) → jobs_of t r (job ∷ all) ≤ 1)
    → AllByRecursion (λ (j : Job). 1 ≤ jobs_of j.session j.request all) jobs
    → AllByRecursion (Waits worked me out) jobs
    → AllByRecursion (Waits (worked ++ record {
      node = me;
      session = job.session;
      request = job.request;
    } ∷ []) me out) jobs
all-next worked me out job all [] few some h = tt
all-next worked me out job all (j ∷ jobs) few some h =
    (next-waits worked me out job j all few some.0 h.0, all-next worked me out job all jobs few some.1 h.1)

-- each job of a list is counted there
own-counts : (jobs : List Job) → AllByRecursion (λ (j : Job). 1 ≤ jobs_of j.session j.request jobs) jobs
own-counts [] = tt
own-counts (job ∷ jobs) =
    let c = counted job.session job.request job jobs in
    let one : cond {A = ℕ} (is_job job.session job.request job) 1 0 ≡ 1 =
    ap {B = ℕ} (λ (b : Bool). cond b 1 0) (own-job job) in
    (omega arith, more jobs (own-counts jobs))
  where
    more : (js : List Job) → AllByRecursion (λ (j : Job). 1 ≤ jobs_of j.session j.request jobs) js
        → AllByRecursion (λ (j : Job). 1 ≤ jobs_of j.session j.request (job ∷ jobs)) js
    more [] h = tt
    more (j ∷ js) h =
        let c = counted j.session j.request job jobs in
        let le = one-more (is_job j.session j.request job) (jobs_of j.session j.request jobs) in
        let some = h.0 in
        (omega arith, more js h.1)

tail-few : (job : Job) (jobs : List Job) → ((t r : ℕ) → jobs_of t r (job ∷ jobs) ≤ 1) → (t r : ℕ)
    → jobs_of t r jobs ≤ 1
tail-few job jobs few t r =
    let c = counted t r job jobs in
    let le = one-more (is_job t r job) (jobs_of t r jobs) in
    let most = few t r in
    omega arith

jobs-may : (worked : List WorkedJob) (clock : ℕ) (l : Lists) (jobs : List Job)
    → ((t r : ℕ) → jobs_of t r jobs ≤ 1) → AllByRecursion (Waits worked l.me l.jobs.out) jobs
    → AllMay worked clock l (worked_facts l.me jobs)
jobs-may worked clock l [] few h = tt
jobs-may worked clock l (job ∷ jobs) few h = (
  (h.0.unworked, h.0.some),
  jobs-may (worked
      ++ record { node = l.me; session = job.session; request = job.request } ∷ []) clock l jobs
      (tail-few job jobs few) (all-next worked l.me l.jobs.out job jobs jobs few (own-counts jobs)
      h.1),
)

jobs-own : (me : ℕ) (jobs : List Job) → AllNode me (worked_facts me jobs)
jobs-own me [] = tt
jobs-own me (job ∷ jobs) = (refl, jobs-own me jobs)

jobs-allowed : (clock : ℕ) (l : Lists) (jobs : List Job) → AllAllowed clock l (worked_facts l.me jobs)
jobs-allowed clock l [] = tt
jobs-allowed clock l (job ∷ jobs) = (tt, jobs-allowed clock l jobs)

pub all-mine : (n : ℕ) (worked : List WorkedJob) (s : Timed) (x : List Fact) (t : Timed)
    → s.lists.me ≡ n → Valid s.lists → WorksAll worked s x t → Mine n worked s x t
all-mine n worked s x t me v h =
    let l = s.lists in
    let jobs = waiting_of worked l in
    let y : List Fact = worked_facts l.me jobs in
    let facts : x ≡ y = h.facts in
    let same : t ≡ s = h.goes ∙ (ap (λ (z : List Fact).
    record { lists = after_all s.clock l z; clock = s.clock }) facts
    ∙ ap (λ (k : Lists). record { lists = k; clock = s.clock })
    (lists-same s.clock l jobs)) in
    let waits = all-wait worked l.me l.jobs.out in
    let few : (i r : ℕ) → jobs_of i r jobs ≤ 1 = λ i r. let le = fewer i r (λ (j : Job). not (list_any (is_worked l.me j.session j.request) worked)) l.jobs.out in let runs = v.runs i r in omega arith in
    rw (facts, same) (record {
      at = subst (λ (k : ℕ). AllNode k y) me (jobs-own l.me jobs);
      life = refl;
      limits = refl;
      me = me;
      valid = v;
      few = λ i r. subst (λ (k : Lists). times_worked i r y
          + to_work (worked_after_all worked y) i r k ≤ to_work worked i r l)
          (lists-same s.clock l jobs) (works-spend worked i r s.clock l y v (jobs-own l.me jobs)
          (jobs-allowed s.clock l jobs) (jobs-may worked s.clock l jobs few waits));
    })

-- each of these groups is one that a node makes alone
abbrev pub Alone : Rel
Alone s x t = AloneGroup plain_mode s x t

alone-by : (worked : List WorkedJob) (i : ℕ) (s : Timed) (o : Option Job) (x : List Fact) (t : Timed)
    → slice_get (waiting_of worked s.lists) i ≡ o → x ≡ plain s.lists.me (work_of i o) ∷ []
    → t ≡ record { lists = after_all s.clock s.lists x; clock = s.clock } → Alone s x t
alone-by worked i s None x t is facts goes =
    record { group = misses i (record { facts = facts; goes = goes }); alone = tt }
alone-by worked i s (Some job) x t is facts goes =
    let w : Waits worked s.lists.me s.lists.jobs.out job =
    all-at (Waits worked s.lists.me s.lists.jobs.out)
    (waiting_of worked s.lists) i job (all-wait worked s.lists.me s.lists.jobs.out) is in
    record {
      group = works job.session job.request (some-out job.session job.request s.lists.jobs.out w.some)
          (record { facts = facts; goes = goes });
      alone = tt;
    }

pub works-alone : (worked : List WorkedJob) (i : ℕ) (s : Timed) (x : List Fact) (t : Timed)
    → Works worked i s x t → Alone s x t
works-alone worked i s x t h = alone-by worked i s (slice_get (waiting_of worked s.lists) i) x t refl h.facts h.goes

jobs-alone : (s : Timed) (jobs : List Job)
    → AllByRecursion (λ (job : Job). 1 ≤ jobs_of job.session job.request s.lists.jobs.out) jobs
    → Chain Alone s (worked_facts s.lists.me jobs) s
jobs-alone s [] h = none
jobs-alone s (job ∷ jobs) h =
    chain-cons Alone s (plain s.lists.me (Worked job.session job.request) ∷ []) s
    (record {
      group = works job.session job.request (some-out job.session job.request s.lists.jobs.out h.0)
          (record { facts = refl; goes = refl });
      alone = tt;
    }) (jobs-alone s jobs h.1)

pub all-alone : (worked : List WorkedJob) (s : Timed) (x : List Fact) (t : Timed)
    → WorksAll worked s x t → Chain Alone s x t
all-alone worked s x t h =
    let jobs = waiting_of worked s.lists in
    let facts : x ≡ worked_facts s.lists.me jobs = h.facts in
    let same : t ≡ s = h.goes ∙ (ap (λ (y : List Fact).
    record { lists = after_all s.clock s.lists y; clock = s.clock }) facts
    ∙ ap (λ (l : Lists). record { lists = l; clock = s.clock })
    (lists-same s.clock s.lists jobs)) in
    rw (facts, same) (jobs-alone s jobs (waits-some worked s.lists.me s.lists.jobs.out jobs
    (all-wait worked s.lists.me s.lists.jobs.out)))
