-- A node's workers work one job, or all, and have what the world says they have.
use Rattle.std.proofs.Common.{◌≡◌, ℕ, ◌≤◌, ◌==◌, cond, List, []}
use Rattle.std.proofs.Common.{◌∷◌, ◌++◌, map, length, Option, Some, None, slice_get, refl, sym, ap, ap₂}
use Rattle.std.proofs.Common.{◌∙◌, subst, arith, append_assoc, eq-eqb}
use Rattle.std.specs.Prelude.{count_by, option_map}
use Rattle.std.specs.List.{filter, remove}
use Rattle.std.proofs.lemmas.List.{append-nil, length-map, map-append}
use Rattle.std.proofs.lemmas.List.Elements.{filter-append}
use Rattle.std.proofs.lemmas.Option.{slice_get-map, slice_get_past}
use Rattle.std.proofs.lemmas.Simd.{map-map}
use Rattle.end_laws.proofs.CountLemmas.{count-append}
use Rattle.node_laws.specs.Valid.{Valid}
use Rattle.rpc_base.proofs.FirstLemmas.{counted-cons}
use Rattle.rpc_base.specs.declared.event.Event.TheVariants.{Missed, Worked}
use Rattle.rpc_base.specs.declared.fact.Fact.{Fact}
use Rattle.rpc_laws.specs.Facts.{plain}
use Rattle.rpc_laws.specs.Working.{waiting_of, work_of, worked_after_all, worked_of, Works, WorksAll}
use Rattle.rpc_laws.specs.declared.tables.Job.{Job}
use Rattle.rpc_laws.specs.declared.tables.Lists.{Lists}
use Rattle.rpc_laws.specs.declared.tables.Timed.{Timed}
use Rattle.rpc_laws.specs.declared.tables.WorkedJob.{WorkedJob}
use Rattle.work_laws.proofs.FilterLemmas.{map-counted, map-removed, remove-counted}
use Rattle.work_laws.proofs.HistoryLemmas.{waiting-names, worked-append}
use Rattle.work_laws.proofs.NameLemmas.{AreApart, unworked, works-names}
use Rattle.work_laws.specs.Known.{HasJobs, is_name, is_of_request, job_name, KnowsWork, parcel_name}
use Rattle.work_laws.specs.Known.{worked_name}
use Rattle.work_laws.specs.Laws.{WorksOne}
use Rattle.worker_crew.specs.Local.{Local, Works as LocalWorks, answered}

-- no two jobs of a node have the same name
pub out-apart : (l : Lists) → Valid l → AreApart (map job_name l.jobs.out)
out-apart l v n =
    let count = map-counted job_name (is_name n) l.jobs.out in
    let few = v.runs n.0 n.1 in
    omega arith

work-named : (me i t r : ℕ) (o : Option Job) → option_map job_name o ≡ Some (t, r)
    → plain me (Worked t r) ≡ plain me (work_of i o)
work-named me i t r None e = cc
work-named me i t r (Some job) e =
    let same : job_name job ≡ (t, r) = cc in
    ap (λ (n : ℕ × ℕ). plain me (Worked n.0 n.1)) (sym same)

-- the list of worked jobs gets one
worked-one : (me t r : ℕ) (worked : List WorkedJob)
    → map worked_name (worked_of me (worked_after_all worked (plain me (Worked t r) ∷ [])))
    ≡ map worked_name (worked_of me worked) ++ (t, r) ∷ []
worked-one me t r worked =
    let new : WorkedJob = record { node = me; session = t; request = r } in
    let one : filter (λ (w : WorkedJob). w.node == me) (new ∷ []) ≡ new ∷ [] = rw (eq-eqb me me refl) refl in
    ap (map worked_name) (filter-append (λ (w : WorkedJob). w.node == me) worked (new ∷ [])
    ∙ ap (λ ws. worked_of me worked ++ ws) one)
    ∙ map-append worked_name (worked_of me worked) (new ∷ [])

module _ (answer : ℕ → List ℕ → List ℕ) (j session request : ℕ) (worked : List WorkedJob) (s : Timed)
    (w later : Local) (h : LocalWorks answer j session request w later) where
  named : parcel_name h.job ≡ (session, request)
  named = ap₂ (λ (t r : ℕ). (t, r)) (sym h.named.0) (sym h.named.1)

  at-name : slice_get (map parcel_name w.waiting) j ≡ Some (session, request)
  at-name = slice_get-map parcel_name w.waiting j ∙ (ap (option_map parcel_name) h.is_job ∙ ap Some named)

  one-works : KnowsWork worked s w → Works worked j s (plain s.lists.me (Worked session request) ∷ []) s
  one-works k =
      let at : option_map job_name (slice_get (waiting_of worked s.lists) j) ≡ Some (session, request) =
      sym (slice_get-map job_name (waiting_of worked s.lists) j)
      ∙ (ap (λ names. slice_get names j) (sym k.waits) ∙ at-name) in
      record {
        facts = ap (λ (f : Fact). f ∷ [])
            (work-named s.lists.me j session request (slice_get (waiting_of worked s.lists) j) at);
        goes = refl;
      }

  one-knows : Valid s.lists → KnowsWork worked s w
      → KnowsWork (worked_after_all worked (plain s.lists.me (Worked session request) ∷ [])) s later
  one-knows v k =
      let me = s.lists.me in
      let names = map job_name s.lists.jobs.out in
      let done = map worked_name (worked_of me worked) in
      let now = worked_after_all worked (plain me (Worked session request) ∷ []) in
      let old : map parcel_name w.waiting ≡ unworked done names = k.waits ∙ waiting-names worked s.lists in
      record {
        waits = ap (λ (u : Local). map parcel_name u.waiting) h.left
            ∙ (map-removed parcel_name w.waiting j
            ∙ (works-names names done (map parcel_name w.waiting) j (session, request)
            (out-apart s.lists v) old at-name
            ∙ (ap (λ d. unworked d names) (sym (worked-one me session request worked))
            ∙ sym (waiting-names now s.lists))));
        done = ap (λ (u : Local). map parcel_name u.worked) h.left
            ∙ (map-append parcel_name w.worked (answered answer h.job ∷ [])
            ∙ (ap₂ (λ (a : List (ℕ × ℕ)) (n : ℕ × ℕ). a ++ n ∷ []) k.done named
            ∙ sym (worked-one me session request worked)));
      }

  one-has : HasJobs s w → HasJobs s later
  one-has has t r =
      let q = is_of_request t r in
      let back = answered answer h.job in
      let all = ap (λ (u : Local). count_by q (u.waiting ++ u.worked)) h.left in
      let new = count-append q (remove w.waiting j) (w.worked ++ back ∷ []) in
      let end = count-append q w.worked (back ∷ []) in
      let one : count_by q (back ∷ []) ≡ cond {A = ℕ} (q h.job) 1 0 =
      omega (arith, counted-cons q back [] (q back) refl) in
      let old = count-append q w.waiting w.worked in
      let out = remove-counted q w.waiting j h.job h.is_job in
      let was = has t r in
      omega arith

-- one waiting job is worked
pub works-one : (answer : ℕ → List ℕ → List ℕ) (j session request : ℕ) (worked : List WorkedJob)
    (s : Timed) (w later : Local) → Valid s.lists → KnowsWork worked s w → HasJobs s w
    → LocalWorks answer j session request w later → WorksOne worked j session request s later
works-one answer j session request worked s w later v k has h = record {
  works = one-works answer j session request worked s w later h k;
  knows = one-knows answer j session request worked s w later h v k;
  has = one-has answer j session request worked s w later h has;
}

-- none is there
pub misses-one : (j : ℕ) (worked : List WorkedJob) (s : Timed) (w : Local) → KnowsWork worked s w
    → length w.waiting ≤ j → Works worked j s (plain s.lists.me (Missed j) ∷ []) s
misses-one j worked s w k past =
    let jobs = waiting_of worked s.lists in
    let same : length w.waiting ≡ length jobs =
    sym (length-map w.waiting parcel_name) ∙ (ap length k.waits ∙ length-map jobs job_name) in
    let none : slice_get jobs j ≡ None = slice_get_past jobs j (omega arith) in
    record {
      facts = ap (λ (o : Option Job). plain s.lists.me (work_of j o) ∷ []) (sym none);
      goes = refl;
    }

pub misses-none : (j me : ℕ) (worked : List WorkedJob)
    → worked_after_all worked (plain me (Missed j) ∷ []) ≡ worked
misses-none j me worked = refl

-- all are worked, one after another
empty-map : {A B : Type 0} (f : A → B) (xs : List A) → [] ≡ map f xs → xs ≡ []
empty-map f [] e = refl
empty-map f (x ∷ xs) e = cc

pub works-none : (worked : List WorkedJob) (s : Timed) (w : Local) → w.waiting ≡ []
    → KnowsWork worked s w → WorksAll worked s [] s
works-none worked s w none k =
    let no_jobs : waiting_of worked s.lists ≡ [] =
    empty-map job_name (waiting_of worked s.lists) (ap (map parcel_name) (sym none) ∙ k.waits) in
    record {
      facts = ap (map (λ (job : Job). plain s.lists.me (Worked job.session job.request))) (sym no_jobs);
      goes = refl;
    }

-- the facts of working jobs are told by their names
by-names : (me : ℕ) (jobs : List Job)
    → map (λ (job : Job). plain me (Worked job.session job.request)) jobs
    ≡ map (λ (n : ℕ × ℕ). plain me (Worked n.0 n.1)) (map job_name jobs)
by-names me jobs = sym (map-map (λ (n : ℕ × ℕ). plain me (Worked n.0 n.1)) job_name jobs)

first-rest : {A : Type 0} (xs : List A) (x : A) → slice_get xs 0 ≡ Some x → xs ≡ x ∷ remove xs 0
first-rest [] x e = cc
first-rest (y ∷ ys) x e = let same : y ≡ x = cc in ap (λ z. z ∷ ys) same

pub works-next : (answer : ℕ → List ℕ → List ℕ) (session request : ℕ) (worked : List WorkedJob)
    (s : Timed) (w later : Local) (x : List Fact) (t : Timed) → Valid s.lists → KnowsWork worked s w
    → LocalWorks answer 0 session request w later
    → WorksAll (worked_after_all worked (plain s.lists.me (Worked session request) ∷ [])) s x t
    → WorksAll worked s (plain s.lists.me (Worked session request) ∷ x) t
works-next answer session request worked s w later x t v k h all =
    let me = s.lists.me in
    let f : Fact = plain me (Worked session request) in
    let now = worked_after_all worked (f ∷ []) in
    let fact = λ (n : ℕ × ℕ). plain me (Worked n.0 n.1) in
    let after = one-knows answer 0 session request worked s w later h v k in
    let names : map job_name (waiting_of worked s.lists)
    ≡ (session, request) ∷ map job_name (waiting_of now s.lists) =
    sym k.waits ∙ (first-rest (map parcel_name w.waiting) (session, request)
    (at-name answer 0 session request worked s w later h)
    ∙ ap (λ ns. (session, request) ∷ ns) (sym (map-removed parcel_name w.waiting 0)
    ∙ (ap (λ (u : Local). map parcel_name u.waiting) (sym h.left) ∙ after.waits))) in
    record {
      facts = sym (by-names me (waiting_of worked s.lists) ∙ (ap (map fact) names
          ∙ ap (λ (y : List Fact). f ∷ y) (sym (all.facts ∙ by-names me (waiting_of now s.lists)))));
      goes = all.goes;
    }

-- those worked so far, and then all others, are all
abbrev pub WorksRest : List WorkedJob → Timed → List Fact → Type 0
WorksRest worked s x =
    (y : List Fact) (t : Timed) → WorksAll (worked_after_all worked x) s y t → WorksAll worked s (x ++ y) t

pub rest-start : (worked : List WorkedJob) (s : Timed) → WorksRest worked s []
rest-start worked s y t h = h

pub rest-next : (answer : ℕ → List ℕ → List ℕ) (session request : ℕ) (worked : List WorkedJob)
    (s : Timed) (x : List Fact) (w later : Local) → Valid s.lists
    → KnowsWork (worked_after_all worked x) s w → LocalWorks answer 0 session request w later
    → WorksRest worked s x
    → WorksRest worked s (x ++ plain s.lists.me (Worked session request) ∷ [])
rest-next answer session request worked s x w later v k h rest y t all =
    let f : Fact = plain s.lists.me (Worked session request) in
    let next : WorksAll (worked_after_all (worked_after_all worked x) (f ∷ [])) s y t =
    subst (λ (ws : List WorkedJob). WorksAll ws s y t) (worked-append worked x (f ∷ [])) all in
    subst (λ (z : List Fact). WorksAll worked s z t) (sym (append_assoc x (f ∷ []) y))
    (rest (f ∷ y) t (works-next answer session request (worked_after_all worked x) s w later y t v k h next))

pub rest-end : (worked : List WorkedJob) (s : Timed) (x : List Fact) (w : Local)
    → KnowsWork (worked_after_all worked x) s w → w.waiting ≡ [] → WorksRest worked s x
    → WorksAll worked s x s
rest-end worked s x w k none rest =
    subst (λ (y : List Fact). WorksAll worked s y s) (append-nil x)
    (rest [] s (works-none (worked_after_all worked x) s w none k))
