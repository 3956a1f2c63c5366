-- An endpoint stands for its facts whatever its workers do that leaves which jobs are out.
use Rattle.std.proofs.Common.{◌≡◌, ℕ, ◌+◌, ◌≤◌, Bool, cond, List, [], ◌∷◌, ◌++◌, map, refl, sym, ap}
use Rattle.std.proofs.Common.{append_assoc, subst, ◌∙◌, arith, IsPermutation, Some}
use Rattle.std.specs.Prelude.{count_by}
use Rattle.std.specs.List.{AllByRecursion}
use Rattle.std.proofs.lemmas.List.Sorted.{IsPermutation-refl, IsPermutation-trans}
use Rattle.std.proofs.lemmas.List.Sorted.{sum_by-IsPermutation}
use Rattle.std.proofs.lemmas.List.Sums.{sum_by-cons}
use Rattle.rpc_base.specs.declared.fact.Fact.{Fact}
use Rattle.rpc_base.specs.declared.limits.Limits.{Limits}
use Rattle.rpc_laws.specs.declared.tables.Job.{Job}
use Rattle.rpc_laws.specs.declared.tables.Timed.{Timed}
use Rattle.rpc_laws.specs.Jobs.{is_job}
use Rattle.rpc_laws.specs.Service.{rules_of}
use Rattle.node_laws.specs.NodeRun.{LifeRun}
use Rattle.node_laws.proofs.RunLaws.{run_valid}
use Rattle.rpc_outside.specs.declared.service.Service as Service
use Rattle.worker_crew.specs.Jobs.{job_of}
use Rattle.worker_crew.specs.declared.workers.Workers as Workers
use Rattle.deferred_calls.specs.declared.job.Numbered.{Numbered}
use Rattle.deferred_calls.specs.Desks.{Jobs, out_of, parcel_of}
use Rattle.deferred_calls.specs.Moves.{HandsOut}
use Rattle.deferred_calls.specs.Law.{Call, Does, Runs, gives, hands, answers, takes}
use Rattle.deferred_calls.proofs.OutLemmas.{answered_out}
use Rattle.node_steps.specs.Jobs.{AreStaffed, staff_of}
use Rattle.endpoint_loop.specs.Endpoints.{Running, asks_of, told}
use Rattle.node_steps.specs.Seen.{Asks, with_ask}
use Rattle.endpoint_loop.specs.Stands.{StandsFor}
use Rattle.endpoint_loop.proofs.PollCrew.{same-told, staffed-told}
use Rattle.desk_laws.specs.Staying.{desk_members, IsOfHandles, StandsOn, with_desk}

-- which jobs are out, how many may be, and how many were given
pub record Keeps {W : Type 0} (workers : Workers.Ghosts W) (old new : W) : Type 0 where
  pub out : IsPermutation (workers.out old) (workers.out new)
  pub limit : workers.limit new ≡ workers.limit old
  pub given : workers.given new ≡ workers.given old

-- jobs are as many of a request whatever they ask
counts-asked : (asks : Asks) (t r : ℕ) (js : List Job)
    → count_by (is_job t r) (map (with_ask asks) js) ≡ count_by (is_job t r) js
counts-asked asks t r [] = refl
counts-asked asks t r (j ∷ js) = omega (
  arith,
  sum_by-cons (λ (k : Job). cond {A = ℕ} (is_job t r k) 1 0) (with_ask asks j) (map (with_ask asks) js),
  sum_by-cons (λ (k : Job). cond {A = ℕ} (is_job t r k) 1 0) j js,
  counts-asked asks t r js,
)

module _ {V W : Type 0} (service : Service.Ghosts V) (workers : Workers.Ghosts W) (limits : Limits)
    (g : List Fact) (e : Running V W) (w : W) (keeps : Keeps workers e.workers w)
    (s : StandsFor service workers limits g e) where
  abbrev asks : Asks
  asks = asks_of (workers.out e.workers)

  alone : (t r : ℕ) → count_by (is_job t r) e.timed.lists.jobs.out ≤ 1
  alone t r = omega (
    arith,
    counts-asked asks t r e.timed.lists.jobs.out,
    (run_valid s.run).runs t r,
  )

  staffed : AreStaffed workers.answer asks (staff_of workers w) e.timed
  staffed = record {
    agree = record {
      same = λ count. s.staffed.agree.same count
          ∙ sym (sum_by-IsPermutation count (workers.out e.workers) (workers.out w) keeps.out);
      ready = s.staffed.agree.ready;
    };
    limit_is = keeps.limit ∙ s.staffed.limit_is;
    given_is = keeps.given ∙ s.staffed.given_is;
  }

  pub stands-with : StandsFor service workers limits g (record e { workers = w })
  stands-with = record {
    run = subst (λ (t : Timed). LifeRun (rules_of service) e.timed.lists.me
        e.timed.lists.life limits g t)
        (same-told workers.answer asks (staff_of workers w) e.timed staffed alone) s.run;
    serves = s.serves;
    staffed = staffed-told workers.answer asks (staff_of workers w) e.timed staffed alone;
  }

-- a job that gets a handle stays out, at its place
handed-out : (n : Numbered) (old new : Jobs) → HandsOut (Some n) old new → out_of new ≡ out_of old
handed-out n old new does =
    ap out_of does.2
    ∙ ap (λ (ns : List Numbered). map job_of (map parcel_of ns ++ old.answered))
    (append_assoc old.handled (n ∷ []) does.0 ∙ ap (λ (w : List Numbered). old.handled ++ w)
    (sym does.1))

module _ (answer : ℕ → List ℕ → List ℕ) where
  keeps-call : (c : Call) (old new : Jobs) → IsOfHandles c → Does answer c old new
      → Keeps (desk_members answer) old new
  keeps-call (gives p) old new is does = absurd is
  keeps-call (hands n) old new is does = record {
    out = subst (λ (l : List _). IsPermutation (out_of old) l) (sym (handed-out n old new does))
        (IsPermutation-refl (out_of old));
    limit = ap (λ (d : Jobs). d.limit) does.2;
    given = ap (λ (d : Jobs). d.given) does.2;
  }
  keeps-call (answers n) old new is does = record {
    out = answered_out answer n old new does;
    limit = ap (λ (d : Jobs). d.limit) does.2;
    given = ap (λ (d : Jobs). d.given) does.2;
  }
  keeps-call (takes p) old new is does = absurd is

  keeps-runs : (calls : List Call) (old new : Jobs) → AllByRecursion IsOfHandles calls
      → Runs answer calls old new → Keeps (desk_members answer) old new
  keeps-runs [] old new all runs = rw (← runs) (record {
    out = IsPermutation-refl (out_of old);
    limit = refl;
    given = refl;
  })
  keeps-runs (c ∷ cs) old new all runs =
      let first = keeps-call c old runs.0 all.0 runs.1 in
      let rest = keeps-runs cs runs.0 new all.1 runs.2 in record {
        out = IsPermutation-trans (out_of old) (out_of runs.0) (out_of new) first.out rest.out;
        limit = rest.limit ∙ first.limit;
        given = rest.given ∙ first.given;
      }

pub stands-on : {V : Type 0} (service : Service.Ghosts V) (answer : ℕ → List ℕ → List ℕ)
    → StandsOn service answer
stands-on {V} service answer limits g e calls desk all runs s =
    stands-with service (desk_members answer) limits g e desk
    (keeps-runs answer calls e.workers desk all runs) s
