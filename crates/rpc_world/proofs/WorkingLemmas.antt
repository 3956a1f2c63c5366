-- The working of an endpoint's jobs, as what a script did.
use Rattle.std.proofs.Common.{◌≡◌, ℕ, ◌≤◌, Option, Some, None, List, [], ◌∷◌, ◌++◌, map, length, false}
use Rattle.std.proofs.Common.{refl, sym, ap, subst, ◌∙◌, arith, append-nil}
use Rattle.std.specs.Prelude.{IfNone, IfSome, IsNone, ◌↔◌}
use Rattle.std.specs.List.{AllByRecursion}
use Rattle.std.proofs.lemmas.List.{nil_from_length}
use Rattle.rpc_world.specs.Logged.{log_of}
use Rattle.node_laws.specs.Kept.{Kept}
use Rattle.rpc_base.specs.declared.event.Event.TheVariants.{Missed, Worked}
use Rattle.rpc_base.specs.declared.fact.Fact.{Fact}
use Rattle.rpc_laws.specs.declared.tables.Job.{Job}
use Rattle.rpc_laws.specs.declared.tables.Timed.{Timed}
use Rattle.rpc_laws.specs.declared.tables.WorkedJob.{WorkedJob}
use Rattle.rpc_laws.specs.Facts.{plain}
use Rattle.rpc_laws.specs.Working.{Works, WorksAll, waiting_of, worked_after_all}
use Rattle.rpc_outside.specs.PlainAnswer.{background_answer}
use Rattle.rpc_outside.specs.Recording.{Grew}
use Rattle.rpc_outside.specs.declared.memory.recorder.MemRecorder.{MemRecorder}
use Rattle.rpc_world.specs.Answered.{End, Play, Quiet, Whole, told_end}
use Rattle.rpc_world.specs.Before.{IsPlaying}
use Rattle.rpc_world.specs.Performed.{Performed, work_event}
use Rattle.rpc_world.specs.Worked.{WorksAllAt}
use Rattle.rpc_world.proofs.CrewLemmas.{job-plays, job-works, told-same}
use Rattle.rpc_world.proofs.EndLemmas.{valid-told}
use Rattle.rpc_world.proofs.PlainLemmas.{AllOf, changes_served, kept-quiet}
use Rattle.rpc_world.proofs.StepLemmas.{NodeStep, grew-both, performed-as, quiet-plain}
use Rattle.sim_script.specs.FollowsScript.{AtNode, WorksNode}
use Rattle.work_laws.proofs.HistoryLemmas.{worked-append}
use Rattle.work_laws.proofs.WorkLaws.{WorksRest, misses-one, rest-end, rest-next, rest-start}
use Rattle.work_laws.specs.Known.{KnowsWork}
use Rattle.worker_crew.specs.Local.{Local, Works as LocalWorks}

-- one waiting job is worked, or there is none
pub one-worked : (n j : ℕ) (worked : List WorkedJob) (e : End) (later : Local) (o : Option (ℕ × ℕ))
    → Kept e.timed.lists → (IsNone o ↔ (length e.workers.waiting ≤ j))
    → IfNone o (later ≡ e.workers)
    → IfSome o (λ named. LocalWorks background_answer j named.0 named.1 e.workers later)
    → IsPlaying worked n e
    → NodeStep (Works worked j) n worked e (record e { workers = later }) (plain n (work_event j o) ∷ [])
one-worked n j worked e later None k none same h p =
    let still : e ≡ record e { workers = later } = ap (λ (w : Local). record e { workers = w }) (sym same) in
    subst (λ (z : End). NodeStep (Works worked j) n worked e z (plain n (Missed j) ∷ [])) still
    (record {
      step = subst (λ (m : ℕ). Works worked j (told_end e) (plain m (Missed j) ∷ []) (told_end e)) p.me
          (misses-one j worked (told_end e) e.workers p.knows (none.0 refl));
      own = (refl, tt);
      plain = quiet-plain n e e (plain n (Missed j) ∷ []) refl (refl, tt) (λ served. ((tt, tt), refl)) refl;
      plays = p;
    })
one-worked n j worked e later (Some named) k none same h p = record {
  step = job-works j named.0 named.1 e later h k worked n p;
  own = (refl, tt);
  plain = quiet-plain n e (record e { workers = later }) (plain n (Worked named.0 named.1) ∷ []) refl (refl, tt)
      (λ served. ((tt, tt), refl)) refl;
  plays = job-plays j named.0 named.1 e later h k worked n p;
}

-- some of the waiting jobs of an endpoint were worked, the oldest first
pub record WorksSome (old new : End) (before now : MemRecorder) : Type 0 where
  pub noted : List Fact
  pub grew : Grew (log_of before) (log_of now) noted
  pub timed : new.timed ≡ old.timed
  pub service : new.service ≡ old.service
  pub told : (worked : List WorkedJob) → IsPlaying worked old.timed.lists.me old → told_end new ≡ told_end old
  pub rest : (worked : List WorkedJob) → IsPlaying worked old.timed.lists.me old
      → WorksRest worked (told_end old) noted
  pub plays : (worked : List WorkedJob) → IsPlaying worked old.timed.lists.me old
      → IsPlaying (worked_after_all worked noted) old.timed.lists.me new

pub works-none-yet : (e : End) (r : MemRecorder) → WorksSome e e r r
works-none-yet e r = record {
  noted = [];
  grew = record { since = λ w. w; told = λ w. ap Some (sym (append-nil r.facts.items)) };
  timed = refl;
  service = refl;
  told = λ worked p. refl;
  rest = λ worked p. rest-start worked (told_end e);
  plays = λ worked p. p;
}

-- one more is worked
pub works-one-more : (old new : End) (later : Local) (session request : ℕ) (r q u : MemRecorder)
    → Kept old.timed.lists → WorksSome old new r q
    → LocalWorks background_answer 0 session request new.workers later
    → Grew (log_of q) (log_of u)
    (plain old.timed.lists.me (Worked session request) ∷ [])
    → WorksSome old (record new { workers = later }) r u
works-one-more old new later session request r q u k some h g =
    let me = old.timed.lists.me in
    let fact = plain me (Worked session request) in
    let kept : Kept new.timed.lists = subst (λ (t : Timed). Kept t.lists) (sym some.timed) k in
    record {
      noted = some.noted ++ fact ∷ [];
      grew = grew-both r q u some.noted (fact ∷ []) some.grew g;
      timed = some.timed;
      service = some.service;
      told = λ worked p.
          told-same 0 session request new later h kept (some.plays worked p).staffed ∙ some.told worked p;
      rest = λ worked p.
          let knows = subst (λ (t : Timed). KnowsWork (worked_after_all worked some.noted) t new.workers)
          (some.told worked p) (some.plays worked p).knows in
          rest-next background_answer session request worked (told_end old) some.noted new.workers later
          (valid-told old k) knows h (some.rest worked p);
      plays = λ worked p.
          subst (λ (ws : List WorkedJob). IsPlaying ws me (record new { workers = later }))
          (sym (worked-append worked some.noted (fact ∷ [])))
          (job-plays 0 session request new later h kept (worked_after_all worked some.noted) me
          (some.plays worked p));
    }

-- none is left
pub works-to-end : (old new : End) (r q : MemRecorder) → WorksSome old new r q
    → length new.workers.waiting ≤ 0 → WorksAllAt old new r q
works-to-end old new r q some none = record {
  noted = some.noted;
  grew = some.grew;
  service = some.service;
  works = λ worked p.
      let knows = subst (λ (t : Timed). KnowsWork (worked_after_all worked some.noted) t new.workers)
      (some.told worked p) (some.plays worked p).knows in
      subst (λ (t : Timed). WorksAll worked (told_end old) some.noted t) (sym (some.told worked p))
      (rest-end worked (told_end old) some.noted new.workers knows
      (nil_from_length new.workers.waiting (omega (arith, none))) (some.rest worked p));
  plays = some.plays;
}

-- the facts of working jobs
abbrev works_at : ℕ → List Job → List Fact
works_at me jobs = map (λ (job : Job). plain me (Worked job.session job.request)) jobs

works-own : (me : ℕ) (jobs : List Job) → AllOf me (works_at me jobs)
works-own me [] = tt
works-own me (job ∷ jobs) = (refl, works-own me jobs)

works-kept : (me : ℕ) (jobs : List Job) → AllByRecursion (λ f. changes_served f.event ≡ false) (works_at me jobs)
works-kept me [] = tt
works-kept me (job ∷ jobs) = (refl, works-kept me jobs)

works-whole : (me : ℕ) (jobs : List Job) → Whole (works_at me jobs)
works-whole me [] = refl
works-whole me (job ∷ jobs) = works-whole me jobs

-- all waiting jobs are worked
pub all-worked : (n : ℕ) (worked : List WorkedJob) (e new : End) (r q : MemRecorder)
    → (w : WorksAllAt e new r q) → IsPlaying worked n e → NodeStep (WorksAll worked) n worked e new w.noted
all-worked n worked e new r q w p =
    let own : IsPlaying worked e.timed.lists.me e =
    subst (λ (m : ℕ). IsPlaying worked m e) (sym p.me) p in
    let works = w.works worked own in
    let jobs = waiting_of worked (told_end e).lists in
    let mine : AllOf n w.noted =
    subst (λ (m : ℕ). AllOf m w.noted) p.me
    (subst (λ (x : List Fact). AllOf e.timed.lists.me x) (sym works.facts) (works-own e.timed.lists.me jobs)) in
    record {
      step = works;
      own = mine;
      plain = quiet-plain n e new w.noted w.service mine
          (subst (λ (x : List Fact). Quiet x) (sym works.facts)
          (kept-quiet (works_at e.timed.lists.me jobs) (works-kept e.timed.lists.me jobs)))
          (subst (λ (x : List Fact). Whole x) (sym works.facts) (works-whole e.timed.lists.me jobs));
      plays = subst (λ (m : ℕ). IsPlaying (worked_after_all worked w.noted) m new) p.me (w.plays worked own);
    }

pub works-left : (old new : End) (later : Local) (r q : MemRecorder) → later ≡ new.workers
    → WorksAllAt old new r q → WorksAllAt old (record new { workers = later }) r q
works-left old new later r q same w =
    subst (λ (u : Local). WorksAllAt old (record new { workers = u }) r q) (sym same) w

-- the jobs that the world asks for
pub at-works : (n : ℕ) (s t : Play) (f g : List Fact) → Performed (AtNode (WorksAll s.worked) n) s t f g
    → Performed (WorksNode n) s t f g
at-works n s t f g p = performed-as (AtNode (WorksAll s.worked) n) (WorksNode n) s t f g (λ x h. h) p
