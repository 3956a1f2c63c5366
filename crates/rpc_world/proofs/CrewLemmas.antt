-- A waiting job of an endpoint's workers is worked: its jobs are the same, and ask the same.
use Rattle.std.proofs.Common.{◌≡◌, ℕ, zero, suc, ◌≤◌, Bool, true, false, cond, Option, Some, None}
use Rattle.std.proofs.Common.{List, [], ◌∷◌, ◌++◌, map, length, refl, sym, ap, ap₂, subst, ◌∙◌, arith, append_assoc}
use Rattle.std.specs.Prelude.{count_by, sum_by, slice_get}
use Rattle.std.specs.List.{AllByRecursion, find, remove}
use Rattle.std.proofs.lemmas.List.{map-append}
use Rattle.std.proofs.lemmas.List.Sums.{sum_by-append, sum_by-cons}
use Rattle.node_steps.specs.Jobs.{CanFinish, asked_job, staff_of}
use Rattle.endpoint_loop.specs.Endpoints.{IsStaffed, asked_in, asks_of, is_job_of, told}
use Rattle.node_steps.specs.Seen.{Asks, with_ask}
use Rattle.node_laws.specs.Kept.{Kept}
use Rattle.packet_header.specs.Parts.{IsMessage}
use Rattle.rpc_base.proofs.FirstLemmas.{counted-cons}
use Rattle.rpc_base.specs.declared.event.Event.TheVariants.{Worked}
use Rattle.rpc_laws.specs.declared.tables.Job.{Job}
use Rattle.rpc_laws.specs.declared.tables.Timed.{Timed}
use Rattle.rpc_laws.specs.declared.tables.WorkedJob.{WorkedJob}
use Rattle.rpc_laws.specs.Facts.{plain}
use Rattle.rpc_laws.specs.Working.{Works, worked_after_all}
use Rattle.rpc_outside.specs.PlainAnswer.{background_answer}
use Rattle.rpc_world.proofs.EndLemmas.{staffed-has, sum-out, valid-told}
use Rattle.rpc_world.specs.Answered.{End, told_end}
use Rattle.rpc_world.specs.Before.{IsPlaying, local_members}
use Rattle.work_laws.proofs.WorkLaws.{works-one}
use Rattle.work_laws.specs.Known.{KnowsWork}
use Rattle.work_laws.specs.Laws.{WorksOne}
use Rattle.worker_crew.specs.Jobs.{Job as CrewJob, job_of}
use Rattle.worker_crew.specs.Local.{Local, Works as LocalWorks, answered, out_of}

-- what stands before and behind a place
pub record Split {A : Type 0} (xs : List A) (i : ℕ) (x : A) : Type 0 where
  front : List A
  back : List A
  whole : xs ≡ front ++ (x ∷ back)
  left : remove xs i ≡ front ++ back

split-at : {A : Type 0} (xs : List A) (i : ℕ) (x : A) → slice_get xs i ≡ Some x → Split xs i x
split-at [] i x e = cc
split-at (y ∷ ys) zero x e =
    let same : y ≡ x = cc in
    record { front = []; back = ys; whole = ap (λ z. z ∷ ys) same; left = refl }
split-at (y ∷ ys) (suc i) x e =
    let s = split-at ys i x e in
    record {
      front = y ∷ s.front;
      back = s.back;
      whole = ap (λ zs. y ∷ zs) s.whole;
      left = ap (λ zs. y ∷ zs) s.left;
    }

-- one that stands elsewhere is found all the same, where there is no other
found-none : {A : Type 0} (q : A → Bool) (y : A) (ys : List A) (b : Bool) → q y ≡ b → count_by q (y ∷ ys) ≡ 0
    → (count_by q ys ≡ 0 → find q ys ≡ None) → cond b (Some y) (find q ys) ≡ None
found-none q y ys true t e more = let one = counted-cons q y ys true t in absurd (omega (arith, one, e))
found-none q y ys false t e more = let one = counted-cons q y ys false t in more (omega (arith, one, e))

find-none : {A : Type 0} (q : A → Bool) (xs : List A) → count_by q xs ≡ 0 → find q xs ≡ None
find-none q [] e = refl
find-none q (y ∷ ys) e = found-none q y ys (q y) refl e (λ less. find-none q ys less)

find-last : {A : Type 0} (q : A → Bool) (xs : List A) (x : A) → q x ≡ false → find q (xs ++ (x ∷ [])) ≡ find q xs
find-last q [] x t = rw t refl
find-last q (y ∷ ys) x t = ap (λ o. cond (q y) (Some y) o) (find-last q ys x t)

found-own : {A : Type 0} (b : Bool) (x y : A) (o p : Option A) → cond b (Some y) o ≡ None
    → (o ≡ None → p ≡ Some x) → cond b (Some y) p ≡ Some x
found-own true x y o p e more = cc
found-own false x y o p e more = more e

find-own : {A : Type 0} (q : A → Bool) (xs : List A) (x : A) → q x ≡ true → find q xs ≡ None
    → find q (xs ++ (x ∷ [])) ≡ Some x
find-own q [] x t none = rw t refl
find-own q (y ∷ ys) x t none =
    found-own (q y) x y (find q ys) (find q (ys ++ (x ∷ []))) none (λ rest. find-own q ys x t rest)

find-turned : {A : Type 0} (q : A → Bool) (xs : List A) (x : A) (b : Bool) → q x ≡ b
    → count_by q (x ∷ xs) ≤ 1 → find q (xs ++ (x ∷ [])) ≡ cond b (Some x) (find q xs)
find-turned q xs x true t few =
    let one = counted-cons q x xs true t in
    find-own q xs x t (find-none q xs (omega (arith, one, few)))
find-turned q xs x false t few = find-last q xs x t

pub find-moved : {A : Type 0} (q : A → Bool) (front xs : List A) (x : A)
    → count_by q (front ++ (x ∷ xs)) ≤ 1
    → find q (front ++ (xs ++ (x ∷ []))) ≡ find q (front ++ (x ∷ xs))
find-moved q [] xs x few = find-turned q xs x (q x) refl few
find-moved q (y ∷ front) xs x few =
    let one = counted-cons q y (front ++ (x ∷ xs)) (q y) refl in
    ap (λ o. cond (q y) (Some y) o) (find-moved q front xs x (omega (arith, one, few)))

pub sum-moved : {A : Type 0} (f : A → ℕ) (front xs : List A) (x : A)
    → sum_by f (front ++ (xs ++ (x ∷ []))) ≡ sum_by f (front ++ (x ∷ xs))
sum-moved f front xs x =
    let a = sum_by-append f front (xs ++ (x ∷ [])) in
    let b = sum_by-append f xs (x ∷ []) in
    let c = sum_by-append f front (x ∷ xs) in
    let d = sum_by-cons f x xs in
    let e = sum_by-cons f x [] in
    omega (arith, a, b, c, d, e)

asked-same : (f g : Asks) → ((t r : ℕ) → f t r ≡ g t r) → (out : List Job)
    → map (with_ask f) out ≡ map (with_ask g) out
asked-same f g same [] = refl
asked-same f g same (job ∷ out) =
    ap₂ (λ (a : List ℕ) (js : List Job). record job { ask = a } ∷ js)
    (same job.session job.request) (asked-same f g same out)

counts-same : (count : CrewJob → ℕ) (f g : Asks) → ((t r : ℕ) → f t r ≡ g t r) → (out : List Job)
    → sum_by (λ job. count (asked_job f job)) out ≡ sum_by (λ job. count (asked_job g job)) out
counts-same count f g same [] = refl
counts-same count f g same (job ∷ out) =
    let one : count (asked_job f job) ≡ count (asked_job g job) =
    ap (λ (a : List ℕ). count (record (asked_job f job) { ask = a })) (same job.session job.request) in
    let a = sum_by-cons (λ j. count (asked_job f j)) job out in
    let b = sum_by-cons (λ j. count (asked_job g j)) job out in
    let more = counts-same count f g same out in
    omega (arith, one, a, b, more)

ready-same : (answer : ℕ → List ℕ → List ℕ) (f g : Asks) → ((t r : ℕ) → f t r ≡ g t r) → (out : List Job)
    → AllByRecursion (CanFinish answer f) out → AllByRecursion (CanFinish answer g) out
ready-same answer f g same [] h = tt
ready-same answer f g same (job ∷ out) h = (
  subst (λ (a : List ℕ). IsMessage (length (answer job.req_type a))) (same job.session job.request) h.0,
  ready-same answer f g same out h.1,
)

module _ (j session request : ℕ) (e : End) (later : Local)
    (h : LocalWorks background_answer j session request e.workers later) where
  abbrev w : Local
  w = e.workers

  abbrev parts : Split w.waiting j h.job
  parts = split-at w.waiting j h.job h.is_job

  abbrev front : List CrewJob
  front = map job_of parts.front

  abbrev rest : List CrewJob
  rest = map job_of (parts.back ++ w.worked)

  out-was : out_of w ≡ front ++ (job_of h.job ∷ rest)
  out-was =
      ap (λ ps. map job_of (ps ++ w.worked)) parts.whole
      ∙ (ap (map job_of) (append_assoc parts.front (h.job ∷ parts.back) w.worked)
      ∙ map-append job_of parts.front (h.job ∷ (parts.back ++ w.worked)))

  out-now : out_of later ≡ front ++ (rest ++ (job_of h.job ∷ []))
  out-now =
      let back = answered background_answer h.job in
      ap (λ (u : Local). out_of u) h.left
      ∙ (ap (λ ps. map job_of (ps ++ (w.worked ++ (back ∷ [])))) parts.left
      ∙ (ap (map job_of) (append_assoc parts.front parts.back (w.worked ++ (back ∷ []))
      ∙ ap (λ ps. parts.front ++ ps) (sym (append_assoc parts.back w.worked (back ∷ []))))
      ∙ (map-append job_of parts.front ((parts.back ++ w.worked) ++ (back ∷ []))
      ∙ ap (λ js. front ++ js) (map-append job_of (parts.back ++ w.worked) (back ∷ [])))))

  module _ (k : Kept e.timed.lists) (staffed : IsStaffed background_answer (staff_of local_members w) e.timed) where
    few : (t r : ℕ) → count_by (is_job_of t r) (front ++ (job_of h.job ∷ rest)) ≤ 1
    few t r =
        let has = staffed-has e staffed t r in
        let runs = (valid-told e k).runs t r in
        let crew = sum-out t r (w.waiting ++ w.worked) in
        let same = ap (λ js. count_by (is_job_of t r) js) out-was in
        omega (arith, has, runs, crew, same)

    asks-same : (t r : ℕ) → asks_of (out_of later) t r ≡ asks_of (out_of w) t r
    asks-same t r =
        ap (λ js. asked_in (find (is_job_of t r) js)) out-now
        ∙ (ap asked_in (find-moved (is_job_of t r) front rest (job_of h.job) (few t r))
        ∙ ap (λ js. asked_in (find (is_job_of t r) js)) (sym out-was))

    pub told-same : told (out_of later) e.timed ≡ told (out_of w) e.timed
    told-same =
        ap (λ (out : List Job). record e.timed
        { lists = record e.timed.lists { jobs = record e.timed.lists.jobs { out = out } } })
        (asked-same (asks_of (out_of later)) (asks_of (out_of w)) asks-same e.timed.lists.jobs.out)

    pub staffed-worked : IsStaffed background_answer (staff_of local_members later) e.timed
    staffed-worked =
        let jobs = e.timed.lists.jobs.out in
        record {
          agree = record {
            same = λ count.
                counts-same count (asks_of (out_of later)) (asks_of (out_of w)) asks-same jobs
                ∙ (staffed.agree.same count
                ∙ (ap (sum_by count) out-was
                ∙ (sym (sum-moved count front rest (job_of h.job)) ∙ ap (sum_by count) (sym out-now))));
            ready = ready-same background_answer (asks_of (out_of w)) (asks_of (out_of later))
                (λ t r. sym (asks-same t r)) jobs staffed.agree.ready;
          };
          limit_is = ap (λ (u : Local). u.limit) h.left ∙ staffed.limit_is;
          given_is = ap (λ (u : Local). u.given) h.left ∙ staffed.given_is;
        }

  module _ (k : Kept e.timed.lists) (worked : List WorkedJob) (n : ℕ) (p : IsPlaying worked n e) where
    one : WorksOne worked j session request (told_end e) later
    one = works-one background_answer j session request worked (told_end e) w later (valid-told e k) p.knows
        (staffed-has e p.staffed) h

    -- it is the job that the world says
    pub job-works : Works worked j (told_end e) (plain n (Worked session request) ∷ [])
        (told_end (record e { workers = later }))
    job-works =
        subst (λ (m : ℕ). Works worked j (told_end e) (plain m (Worked session request) ∷ [])
        (told_end (record e { workers = later }))) p.me
        (subst (λ (t : Timed). Works worked j (told_end e) (plain e.timed.lists.me (Worked session request) ∷ []) t)
        (sym (told-same k p.staffed)) one.works)

    pub job-plays : IsPlaying (worked_after_all worked (plain n (Worked session request) ∷ [])) n
        (record e { workers = later })
    job-plays = record {
      me = p.me;
      staffed = staffed-worked k p.staffed;
      knows = subst (λ (t : Timed). KnowsWork (worked_after_all worked (plain n (Worked session request) ∷ [])) t later)
          (sym (told-same k p.staffed))
          (subst (λ (m : ℕ). KnowsWork (worked_after_all worked (plain m (Worked session request) ∷ [])) (told_end e)
          later) p.me one.knows);
    }
