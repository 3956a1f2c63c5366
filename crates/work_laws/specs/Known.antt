-- What a node's workers on the world's own thread hold, as the world's list of worked jobs says.
use Rattle.std.specs.Prelude.{ℕ, ◌≡◌, ◌≤◌, ◌⊎◌, ◌==◌, ◌&&◌, Bool, true, false, List, [], ◌∷◌, ◌++◌}
use Rattle.std.specs.Prelude.{map, count_by}
use Rattle.node_laws.specs.Valid.{jobs_of}
use Rattle.rpc_base.specs.Tables.{without_first}
use Rattle.rpc_base.specs.declared.event.Event.{Event}
use Rattle.rpc_base.specs.declared.event.Event.TheVariants.{Given, Ran, Restarted, Worked}
use Rattle.rpc_base.specs.declared.fact.Fact.{Fact}
use Rattle.rpc_laws.specs.declared.tables.Job.{Job}
use Rattle.rpc_laws.specs.declared.tables.Timed.{Timed}
use Rattle.rpc_laws.specs.declared.tables.WorkedJob.{WorkedJob}
use Rattle.rpc_laws.specs.Queues.{replies}
use Rattle.rpc_laws.specs.Working.{FinishesEach, waiting_of, worked_of}
use Rattle.worker_board.specs.declared.Parcel.{Parcel}
use Rattle.worker_crew.specs.Local.{Local}

-- whose a job is: its session and its request
abbrev pub job_name : Job → ℕ × ℕ
job_name job = (job.session, job.request)

abbrev pub worked_name : WorkedJob → ℕ × ℕ
worked_name w = (w.session, w.request)

abbrev pub parcel_name : Parcel → ℕ × ℕ
parcel_name p = (p.session, p.request)

abbrev pub is_of_request : ℕ → ℕ → Parcel → Bool
is_of_request t r p = p.session == t && p.request == r

-- the workers have the jobs of a node that wait to be worked, in the order of giving, and those
-- that were worked and aren't finished, in the order of working
pub record KnowsWork (worked : List WorkedJob) (s : Timed) (w : Local) : Type 0 where
  pub waits : map parcel_name w.waiting ≡ map job_name (waiting_of worked s.lists)
  pub done : map parcel_name w.worked ≡ map worked_name (worked_of s.lists.me worked)

-- they have all jobs of the node, and no others
abbrev pub HasJobs : Timed → Local → Type 0
HasJobs s w =
    (t r : ℕ) → count_by (is_of_request t r) (w.waiting ++ w.worked) ≡ jobs_of t r s.lists.jobs.out

-- a job that comes back, as the world knows it
abbrev pub worked_as : ℕ → Parcel → WorkedJob
worked_as me p = record { node = me; session = p.session; request = p.request }

-- names without those of some jobs, each of which is taken out where it first stands
abbrev pub is_name : ℕ × ℕ → ℕ × ℕ → Bool
is_name a b = b.0 == a.0 && b.1 == a.1

abbrev pub left_names : List Parcel → List (ℕ × ℕ) → List (ℕ × ℕ)
left_names [] names = names
left_names (p ∷ ps) names = left_names ps (without_first (is_name (parcel_name p)) names)

-- these worked jobs are finished, and then none is left or as many replies are queued as the ring
-- is long
pub record FinishesFirst (done : List WorkedJob) (none_left : Type 0) (s : Timed) (x : List Fact)
    (t : Timed) : Type 0 where
  pub finishes : FinishesEach done s x t
  pub over : none_left ⊎ (t.lists.room ≤ replies t.lists.queued)

-- whether an event works a job, runs a handler or restarts a node; no other one changes which jobs
-- were worked
abbrev pub changes_work : Event → Bool
changes_work (Worked session request) = true
changes_work (Ran session request y) = true
changes_work (Restarted life) = true
changes_work _ = false

-- whether it changes the jobs of a node, or which of them were worked
abbrev pub changes_jobs : Event → Bool
changes_jobs (Given session request) = true
changes_jobs e = changes_work e
