-- What an application does with the desk of its endpoint, and what it leaves.
use Rattle.std.specs.Prelude.{ℕ, List, Some}
use Rattle.std.specs.List.{AllByRecursion}
use Rattle.deferred_calls.specs.Desks.{Jobs, hands_of, open_of, out_of}
use Rattle.deferred_calls.specs.Law.{Call, Runs, gives, hands, answers, takes}
use Rattle.endpoint_loop.specs.Endpoints.{Running}
use Rattle.endpoint_loop.specs.Stands.{StandsFor}
use Rattle.rpc_base.specs.declared.fact.Fact.{Fact}
use Rattle.rpc_base.specs.declared.limits.Limits.{Limits}
use Rattle.rpc_outside.specs.declared.service.Service as Service
use Rattle.worker_crew.specs.declared.workers.Workers as Workers

-- a desk, by what contracts see of workers
abbrev pub desk_members : (ℕ → List ℕ → List ℕ) → Workers.Ghosts Jobs
desk_members answer = record {
  answer = answer;
  limit = λ d. d.limit;
  out = out_of;
  given = λ d. d.given;
  worked = λ d. Some d.answered;
  waiting = λ d. Some (open_of d);
  looks = λ d. 0;
  team = λ d. Some (hands_of d);
}

-- a call of the application: a handle is made, or a job is answered by its handle. The endpoint
-- alone gives jobs and takes them
abbrev pub IsOfHandles : Call → Type 0
IsOfHandles (gives p) = ⊥
IsOfHandles (hands n) = Unit {0}
IsOfHandles (answers n) = Unit {0}
IsOfHandles (takes p) = ⊥

-- the endpoint with this desk
abbrev pub with_desk : {V : Type 0} → Running V Jobs → Jobs → Running V Jobs
with_desk e desk = record e { workers = desk }

-- an endpoint stands for the same facts after such calls of its desk as before
abbrev pub StandsOn : {V : Type 0} → Service.Ghosts V → (ℕ → List ℕ → List ℕ) → Type 0
StandsOn {V} service answer =
    (limits : Limits) (g : List Fact) (e : Running V Jobs) (calls : List Call) (desk : Jobs)
    → AllByRecursion IsOfHandles calls → Runs answer calls e.workers desk
    → StandsFor service (desk_members answer) limits g e
    → StandsFor service (desk_members answer) limits g (with_desk e desk)
