-- A poll of a node whose workers hold what the world says: those that come back are the first that were worked.
use Rattle.std.proofs.Common.{◌≡◌, ℕ, ◌+◌, ◌≤◌, Bool, true, false, ◌==◌, ◌&&◌, cond, List, [], ◌∷◌, ◌++◌}
use Rattle.std.proofs.Common.{map, ◌⊎◌, inl, inr, refl, sym, ap, ap₂, ◌∙◌, subst, arith, eq-eqb}
use Rattle.std.specs.Prelude.{count_by, Option, Some, None}
use Rattle.std.specs.List.{list_any}
use Rattle.std.proofs.lemmas.Bool.{and_parts, eqb-true}
use Rattle.std.proofs.lemmas.List.{map-append}
use Rattle.std.proofs.lemmas.Simd.{map-map}
use Rattle.end_laws.proofs.CountLemmas.{count-append}
use Rattle.end_laws.proofs.OwnFacts.{AllOwn, Owned, poll-own}
use Rattle.node_laws.proofs.Allowed.{AllAllowed, allowed-of}
use Rattle.node_laws.proofs.JobLemmas.{run-spends}
use Rattle.node_laws.proofs.LeadsLemmas.{LeadsAt, valid-at}
use Rattle.node_laws.proofs.RunLaws.{poll-lawful}
use Rattle.node_laws.proofs.ValidLemmas.{valid_after}
use Rattle.node_laws.specs.Valid.{to_run, Valid}
use Rattle.rpc_base.proofs.BasicLemmas.{false-true}
use Rattle.rpc_base.proofs.FirstLemmas.{counted-cons, counted-none}
use Rattle.rpc_base.proofs.TakingLemmas.{find-passes}
use Rattle.rpc_base.specs.Tables.{without_first}
use Rattle.rpc_base.specs.declared.event.Event.TheVariants.{Ran}
use Rattle.rpc_base.specs.declared.fact.Fact.{Fact}
use Rattle.rpc_laws.proofs.PollLemmas.{poll-within}
use Rattle.rpc_laws.proofs.RunLemmas.{me-after_all}
use Rattle.rpc_laws.specs.AtMostOnce.{runs_request}
use Rattle.rpc_laws.specs.Facts.{with_two}
use Rattle.rpc_laws.specs.Jobs.{is_job}
use Rattle.rpc_laws.specs.NodeLists.{after, after_all}
use Rattle.rpc_laws.specs.PollOrder.{answer_posted, awaited, Poll, PollBy, raised, SendsAll}
use Rattle.rpc_laws.specs.Working.{FinishesEach, FinishesWorked, is_worked, worked_after_all}
use Rattle.rpc_laws.specs.Working.{worked_of}
use Rattle.rpc_laws.specs.declared.tables.Job.{Job}
use Rattle.rpc_laws.specs.declared.tables.Lists.{Lists}
use Rattle.rpc_laws.specs.declared.tables.Timed.{Timed}
use Rattle.rpc_laws.specs.declared.tables.WorkedJob.{WorkedJob}
use Rattle.rpc_outside.specs.declared.service.Mode.{Mode}
use Rattle.work_laws.proofs.FilterLemmas.{filter-out, map-counted}
use Rattle.work_laws.proofs.HistoryLemmas.{any-worked, Unrun, unrun-all, waiting-names, worked-append}
use Rattle.work_laws.proofs.NameLemmas.{AreApart, gave-apart, left-counted, left-gone, polls-names, unworked}
use Rattle.work_laws.proofs.WorkLaws.{out-apart}
use Rattle.work_laws.specs.Known.{FinishesFirst, HasJobs, is_name, is_of_request, job_name, KnowsWork}
use Rattle.work_laws.specs.Known.{left_names, parcel_name, worked_as, worked_name}
use Rattle.work_laws.specs.Laws.{PollsKnown, PollsWith}
use Rattle.worker_board.specs.declared.Parcel.{Parcel}
use Rattle.worker_crew.specs.Local.{Local}

-- the worked jobs of a node, again from their names
abbrev named_as : ℕ → ℕ × ℕ → WorkedJob
named_as me n = record { node = me; session = n.0; request = n.1 }

own-by : (me : ℕ) (w : WorkedJob) (ws : List WorkedJob) (b : Bool) → (w.node == me) ≡ b
    → map (named_as me) (map worked_name ws) ≡ ws
    → map (named_as me) (map worked_name (cond b (w ∷ ws) ws)) ≡ cond b (w ∷ ws) ws
own-by me w ws true e ih =
    ap₂ (λ (n : ℕ) (us : List WorkedJob). record { node = n; session = w.session; request = w.request } ∷ us)
    (sym (eqb-true w.node me e)) ih
own-by me w ws false e ih = ih

named-again : (me : ℕ) (worked : List WorkedJob)
    → map (named_as me) (map worked_name (worked_of me worked)) ≡ worked_of me worked
named-again me [] = refl
named-again me (w ∷ ws) = own-by me w (worked_of me ws) (w.node == me) refl (named-again me ws)

names-of : (me : ℕ) (ps : List Parcel) → map worked_name (map (worked_as me) ps) ≡ map parcel_name ps
names-of me ps = map-map worked_name (worked_as me) ps

-- those that come back, and those that stay
parted : (me : ℕ) (worked : List WorkedJob) (all ps later : List Parcel)
    → map parcel_name all ≡ map worked_name (worked_of me worked) → all ≡ ps ++ later
    → worked_of me worked ≡ map (worked_as me) ps ++ map (worked_as me) later
parted me worked all ps later done split =
    sym (named-again me worked)
    ∙ (ap (map (named_as me)) (sym done)
    ∙ (map-map (named_as me) parcel_name all
    ∙ (ap (map (worked_as me)) split ∙ map-append (worked_as me) ps later)))

-- a job is finished
finished-one : (me : ℕ) (posted : Option ℕ) (job : Job) (answer : List ℕ) (worked : List WorkedJob)
    → worked_after_all worked (with_two me (Ran job.session job.request job.req_type) job.ask answer
    ∷ answer_posted me job posted)
    ≡ without_first (is_worked me job.session job.request) worked
finished-one me None job answer worked = refl
finished-one me (Some k) job answer worked = refl

-- the first of the worked jobs are finished
finishes-first : (me : ℕ) (ps : List Parcel) (rest worked : List WorkedJob) (s : Timed) (x : List Fact)
    (t : Timed) → s.lists.me ≡ me → worked_of me worked ≡ map (worked_as me) ps ++ rest
    → FinishesEach (map (worked_as me) ps) s x t → worked_of me (worked_after_all worked x) ≡ rest
finishes-first me [] rest worked s x t mine e h =
    ap (λ (y : List Fact). worked_of me (worked_after_all worked y)) h.0 ∙ e
finishes-first me (p ∷ ps) rest worked s x t mine e h =
    let f = h.first in
    let job = f.job in
    let parts = and_parts (job.session == p.session) (job.request == p.request)
    (find-passes (is_job p.session p.request) s.lists.jobs.out job f.is_out) in
    let session : job.session ≡ p.session = eqb-true job.session p.session parts.0 in
    let request : job.request ≡ p.request = eqb-true job.request p.request parts.1 in
    let test = is_worked me p.session p.request in
    let front : worked_after_all worked h.front ≡ without_first test worked =
    ap (worked_after_all worked) f.facts
    ∙ (finished-one s.lists.me (awaited job s.lists.servers) job f.answer worked
    ∙ (ap (λ (n : ℕ). without_first (is_worked n job.session job.request) worked) mine
    ∙ ap₂ (λ (t r : ℕ). without_first (is_worked me t r) worked) session request)) in
    let passes : test (worked_as me p) ≡ true =
    rw (eq-eqb me me refl, eq-eqb p.session p.session refl, eq-eqb p.request p.request refl) refl in
    let tail : List WorkedJob = map (worked_as me) ps ++ rest in
    let out : without_first test (worked_as me p ∷ tail) ≡ tail =
    ap (λ (b : Bool). cond b tail (worked_as me p ∷ without_first test tail)) passes in
    let next : worked_of me (worked_after_all worked h.front) ≡ tail =
    ap (worked_of me) front
    ∙ (filter-out (λ (w : WorkedJob). w.node == me) test
    (λ w k. (and_parts (w.node == me) (w.session == p.session && w.request == p.request) k).0) worked
    ∙ (ap (without_first test) e ∙ out)) in
    let kept : h.between.lists.me ≡ me =
    ap (λ (u : Timed). u.lists.me) f.goes ∙ (me-after_all s.clock s.lists h.front ∙ mine) in
    ap (λ (y : List Fact). worked_of me (worked_after_all worked y)) h.joined
    ∙ (ap (worked_of me) (worked-append worked h.front h.back)
    ∙ finishes-first me ps rest (worked_after_all worked h.front) h.between h.back t kept next h.second)

-- a handler runs once at most, and where a job is out at the end its handler didn't run
runs-spend : (t r clock : ℕ) (l : Lists) (x : List Fact) → Valid l → AllAllowed clock l x
    → count_by (λ (f : Fact). runs_request t r f.event) x + to_run t r (after_all clock l x) ≤ to_run t r l
runs-spend t r clock l [] v a = omega arith
runs-spend t r clock l (f ∷ x) v a =
    let allowed = allowed-of l f.event f.first f.second a.0 in
    omega (
      arith,
      run-spends t r l v clock f allowed,
      runs-spend t r clock (after clock l f) x (valid_after clock l f v allowed) a.1,
      counted-cons (λ (g : Fact). runs_request t r g.event) f x (runs_request t r f.event) refl,
    )

own-right : (me : ℕ) (x y : List Fact) → AllOwn false me (x ++ y) → AllOwn false me y
own-right me [] y h = h
own-right me (f ∷ x) y h = own-right me x y h.1

module _ (mode : ℕ → Mode) (now : ℕ) (worked : List WorkedJob) (w later : Local)
    (ps gave : List Parcel) (s : Timed) (x : List Fact) (t : Timed) (v : Valid s.lists)
    (k : KnowsWork worked s w) (split : w.worked ≡ ps ++ later.worked)
    (h : PollBy (FinishesFirst (map (worked_as s.lists.me) ps) (later.worked ≡ [])) SendsAll mode now s x t)
  where
    parts : worked_of s.lists.me worked
        ≡ map (worked_as s.lists.me) ps ++ map (worked_as s.lists.me) later.worked
    parts = parted s.lists.me worked w.worked ps later.worked k.done split

    over-as : (room : Type 0) → (later.worked ≡ []) ⊎ room → (map (worked_as s.lists.me) later.worked ≡ []) ⊎ room
    over-as room (inl e) = inl (ap (map (worked_as s.lists.me)) e)
    over-as room (inr o) = inr o

    -- it is a poll of the world
    pub polls-worked : PollBy (FinishesWorked worked) SendsAll mode now s x t
    polls-worked = record {
      between = h.between;
      front = h.front;
      back = h.back;
      joined = h.joined;
      first = record {
        done = map (worked_as s.lists.me) ps;
        left = map (worked_as s.lists.me) later.worked;
        parted = parts;
        finishes = h.first.finishes;
        over = over-as _ h.first.over;
      };
      second = h.second;
    }

    is-poll : Poll mode now s x t
    is-poll = poll-within worked mode now s x t polls-worked

    leads : LeadsAt (raised now s) x t
    leads = poll-lawful mode now s x t v is-poll

    end-valid : Valid t.lists
    end-valid = valid-at (raised now s) x t v leads

    owned : Owned false s x t
    owned = poll-own false mode now s x t (λ e. false-true e) is-poll

    spent : (n r : ℕ) → count_by (λ (f : Fact). runs_request n r f.event) x + to_run n r t.lists ≤ to_run n r s.lists
    spent n r =
        let all = runs-spend n r (raised now s).clock s.lists x v leads.all in
        let same = ap (to_run n r) leads.lists in
        omega arith

    -- those that are worked and don't come back are left
    later-left : HasJobs s w → (n : ℕ × ℕ) → count_by (is_name n) (map parcel_name later.worked)
        ≤ count_by (is_name n) (left_names ps (map job_name s.lists.jobs.out))
    later-left has n =
        let q = is_of_request n.0 n.1 in
        let all = has n.0 n.1 in
        let out = map-counted job_name (is_name n) s.lists.jobs.out in
        let waits = count-append q w.waiting w.worked in
        let same = ap (count_by q) split in
        let both = count-append q ps later.worked in
        let back = map-counted parcel_name (is_name n) ps in
        let stay = map-counted parcel_name (is_name n) later.worked in
        let left = left-counted n ps (map job_name s.lists.jobs.out) in
        omega arith

    module _ (has : HasJobs s w)
        (names : map job_name t.lists.jobs.out
        ≡ left_names ps (map job_name s.lists.jobs.out) ++ map parcel_name gave) where
      -- and no handler of theirs runs
      unrun : (n r : ℕ) → 1 ≤ count_by (λ (f : Fact). runs_request n r f.event) x
          → list_any (is_name (n, r)) (map parcel_name later.worked) ≡ false
      unrun n r some =
          let few = v.runs n r in
          let less = spent n r in
          let stay = later-left has (n, r) in
          let out = map-counted job_name (is_name (n, r)) t.lists.jobs.out in
          let same = ap (count_by (is_name (n, r))) names in
          let both = count-append (is_name (n, r)) (left_names ps (map job_name s.lists.jobs.out))
          (map parcel_name gave) in
          counted-none (is_name (n, r)) (map parcel_name later.worked) (omega arith)

      front-worked : worked_of s.lists.me (worked_after_all worked h.front) ≡ map (worked_as s.lists.me) later.worked
      front-worked =
          finishes-first s.lists.me ps (map (worked_as s.lists.me) later.worked) worked (raised now s)
          h.front h.between refl parts h.first.finishes

      back-unrun : Unrun s.lists.me (worked_after_all worked h.front) h.back
      back-unrun n r some =
          let joined = ap (count_by (λ (f : Fact). runs_request n r f.event)) h.joined in
          let both = count-append (λ (f : Fact). runs_request n r f.event) h.front h.back in
          any-worked s.lists.me n r (worked_after_all worked h.front)
          ∙ (ap (λ ws. list_any (is_name (n, r)) (map worked_name ws)) front-worked
          ∙ (ap (list_any (is_name (n, r))) (names-of s.lists.me later.worked) ∙ unrun n r (omega arith)))

      back-own : AllOwn false s.lists.me h.back
      back-own =
          own-right s.lists.me h.front h.back
          (subst (λ (y : List Fact). AllOwn false s.lists.me y) h.joined owned.facts)

      all-worked : map worked_name (worked_of s.lists.me (worked_after_all worked x)) ≡ map parcel_name later.worked
      all-worked =
          ap (λ (y : List Fact). map worked_name (worked_of s.lists.me (worked_after_all worked y))) h.joined
          ∙ (ap (λ ws. map worked_name (worked_of s.lists.me ws)) (worked-append worked h.front h.back
          ∙ unrun-all s.lists.me h.back (worked_after_all worked h.front) back-own back-unrun)
          ∙ (ap (map worked_name) front-worked ∙ names-of s.lists.me later.worked))

      end-worked : map worked_name (worked_of t.lists.me (worked_after_all worked x)) ≡ map parcel_name later.worked
      end-worked =
          ap (λ (n : ℕ). map worked_name (worked_of n (worked_after_all worked x))) owned.me ∙ all-worked

      was-waiting : map parcel_name w.waiting
          ≡ unworked (map parcel_name ps ++ map parcel_name later.worked) (map job_name s.lists.jobs.out)
      was-waiting =
          k.waits ∙ (waiting-names worked s.lists
          ∙ ap (λ d. unworked d (map job_name s.lists.jobs.out))
          (sym k.done ∙ (ap (map parcel_name) split ∙ map-append parcel_name ps later.worked)))

      end-apart : AreApart (left_names ps (map job_name s.lists.jobs.out) ++ map parcel_name gave)
      end-apart = subst (λ ns. AreApart ns) names (out-apart t.lists end-valid)

      pub polls-knows : later.waiting ≡ w.waiting ++ gave → KnowsWork (worked_after_all worked x) t later
      polls-knows given = record {
        waits = ap (map parcel_name) given
            ∙ (map-append parcel_name w.waiting gave
            ∙ (polls-names ps (map parcel_name later.worked) (map parcel_name gave)
            (map parcel_name w.waiting) (map job_name s.lists.jobs.out) (out-apart s.lists v) was-waiting
            (gave-apart (map parcel_name later.worked) (left_names ps (map job_name s.lists.jobs.out))
            (map parcel_name gave) (later-left has) end-apart)
            ∙ (ap₂ (λ (d o : List (ℕ × ℕ)). unworked d o) (sym end-worked) (sym names)
            ∙ sym (waiting-names (worked_after_all worked x) t.lists))));
        done = sym end-worked;
      }

      pub polls-has : later.waiting ≡ w.waiting ++ gave → HasJobs t later
      polls-has given n r =
          let q = is_of_request n r in
          let test = is_name (n, r) in
          let was = map job_name s.lists.jobs.out in
          let new = ap (λ ws. count_by q (ws ++ later.worked)) given in
          let all = count-append q (w.waiting ++ gave) later.worked in
          let waits = count-append q w.waiting gave in
          let out = map-counted job_name test t.lists.jobs.out in
          let same = ap (count_by test) names in
          let both = count-append test (left_names ps was) (map parcel_name gave) in
          let gives = map-counted parcel_name test gave in
          let old = has n r in
          let had = count-append q w.waiting w.worked in
          let worked_parts = ap (count_by q) split in
          let halves = count-append q ps later.worked in
          let back = map-counted parcel_name test ps in
          let before = map-counted job_name test s.lists.jobs.out in
          let most = left-counted (n, r) ps was in
          let least = left-gone (n, r) ps was (out-apart s.lists v) (omega arith) in
          omega arith

-- a poll, by all that it does to what the workers hold
pub polls-known : (mode : ℕ → Mode) (now : ℕ) (worked : List WorkedJob) (w later : Local)
    (parcels gave : List Parcel) (s : Timed) (x : List Fact) (t : Timed) → Valid s.lists
    → KnowsWork worked s w → HasJobs s w → PollsWith mode now parcels gave w later s x t
    → PollsKnown mode now worked later s x t
polls-known mode now worked w later parcels gave s x t v k has p = record {
  polls = polls-worked mode now worked w later parcels gave s x t v k p.back p.polls;
  knows = polls-knows mode now worked w later parcels gave s x t v k p.back p.polls has p.names p.given;
  has = polls-has mode now worked w later parcels gave s x t v k p.back p.polls has p.names p.given;
}
