-- An endpoint as contracts see it.
use Rattle.std.specs.Prelude.{◌≡◌, ℕ, ◌==◌, ◌&&◌, Bool, Option, Some, None, List, []}
use Rattle.std.specs.List.{find}
use Rattle.client_core.specs.Handing.{Handed}
use Rattle.rpc_laws.specs.declared.tables.Lists.{Lists}
use Rattle.rpc_laws.specs.declared.tables.Timed.{Timed}
use Rattle.rpc_laws.specs.Service.{Serving}
use Rattle.rpc_outside.specs.Served.{Served, StandsForSome}
use Rattle.worker_board.specs.declared.Parcel.{Parcel}
use Rattle.worker_crew.specs.Jobs.{Job as CrewJob}
use Rattle.node_steps.specs.Jobs.{AllBackground, AreStaffed, Staff, staff_of}
use Rattle.node_steps.specs.Packets.{WorksFor}
use Rattle.node_steps.specs.Seen.{Asks, asking}
use Rattle.node_steps.specs.Requests.{AllServed}
use Rattle.worker_crew.specs.declared.workers.Workers as Workers

-- its lists with its clock, what was handed in with the calls of each client session, its service
-- and its workers
pub record Running (V W : Type 0) : Type 0 where
  pub timed : Timed
  pub handed : List (List Handed)
  pub service : V
  pub workers : W

-- the service stands for some requests, the workers answer as it does, and the requests and the
-- jobs that are there are of types that are served, and that workers answer
pub record IsServing (v : Serving) (stands : Served → Type 0) (answer : ℕ → List ℕ → List ℕ)
    (s : Lists) : Type 0 where
  pub founded : StandsForSome stands
  pub works : WorksFor answer v
  pub served : AllServed v.mode s.servers
  pub background : AllBackground v.mode s.jobs.out

abbrev pub is_job_of : (t r : ℕ) → CrewJob → Bool
is_job_of t r job = job.session == t && job.request == r

abbrev pub asked_in : Option CrewJob → List ℕ
asked_in None = []
asked_in (Some job) = job.ask

-- what a job asks, by the jobs that the workers have
abbrev pub asks_of : List CrewJob → Asks
asks_of out t r = asked_in (find (is_job_of t r) out)

-- the lists of an endpoint, in which each job asks what its workers have of it
abbrev pub told : List CrewJob → Timed → Timed
told out s = asking (asks_of out) s

-- what the workers of an endpoint are: what there is to tell of them, which jobs are worked, where
-- that is told, and how often one was looked at and found unfinished
pub record Crew : Type 0 where
  pub staff : Staff
  pub worked : Option (List Parcel)
  pub looks : ℕ

abbrev pub crew_of : {W : Type 0} → Workers.Ghosts W → W → Crew
crew_of w workers =
    record { staff = staff_of w workers; worked = w.worked workers; looks = w.looks workers }

-- the workers have exactly the jobs of the node
abbrev pub IsStaffed : (ℕ → List ℕ → List ℕ) → Staff → Timed → Type 0
IsStaffed answer staff s = AreStaffed answer (asks_of staff.out) staff s

-- what a call of an application leaves: the service, the workers, and the jobs that are out
pub record Leaves {V W : Type 0} (old new : Running V W) : Type 0 where
  pub service : new.service ≡ old.service
  pub workers : new.workers ≡ old.workers
  pub jobs : new.timed.lists.jobs ≡ old.timed.lists.jobs
