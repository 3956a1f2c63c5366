-- Working the background jobs of a node, in a world that says when: which job is worked, and in
-- which order worked jobs are finished.
use Rattle.std.specs.Prelude.{ℕ, ◌≡◌, ◌≤◌, ◌⊎◌, ◌==◌, ◌&&◌, not, Bool, Option, Some, None, List, []}
use Rattle.std.specs.Prelude.{◌∷◌, ◌++◌, map, slice_get}
use Rattle.std.specs.List.{filter, list_any}
use Rattle.rpc_base.specs.Tables.{without_first}
use Rattle.rpc_base.specs.declared.event.Event.{Event}
use Rattle.rpc_base.specs.declared.event.Event.TheVariants.{Worked, Ran, Restarted, Missed}
use Rattle.rpc_base.specs.declared.fact.Fact.{Fact}
use Rattle.rpc_base.specs.declared.fact.Who.{Who}
use Rattle.rpc_base.specs.declared.fact.Who.TheVariants.{Node, Net}
use Rattle.rpc_laws.specs.declared.tables.Job.{Job}
use Rattle.rpc_laws.specs.declared.tables.Lists.{Lists}
use Rattle.rpc_laws.specs.declared.tables.Timed.{Timed}
use Rattle.rpc_laws.specs.declared.tables.WorkedJob.{WorkedJob}
use Rattle.rpc_laws.specs.Facts.{plain}
use Rattle.rpc_laws.specs.PollOrder.{Finishes}
use Rattle.rpc_laws.specs.Queues.{replies}
use Rattle.rpc_laws.specs.Steps.{Rel, Goes, Then}

abbrev pub is_worked : (node session request : ℕ) → WorkedJob → Bool
is_worked n t r w = w.node == n && (w.session == t && w.request == r)

-- the jobs that were worked and aren't finished, of all nodes, in the order in which they were
-- worked
abbrev pub worked_after_node : ℕ → Event → List WorkedJob → List WorkedJob
worked_after_node n (Worked t r) worked =
    worked ++ record { node = n; session = t; request = r } ∷ []
worked_after_node n (Ran t r y) worked = without_first (is_worked n t r) worked
worked_after_node n (Restarted life) worked = filter (λ w. not (w.node == n)) worked
worked_after_node n _ worked = worked

abbrev pub worked_at : Who → Event → List WorkedJob → List WorkedJob
worked_at (Node n) e worked = worked_after_node n e worked
worked_at Net e worked = worked

abbrev pub worked_after : List WorkedJob → Fact → List WorkedJob
worked_after worked f = worked_at f.who f.event worked

abbrev pub worked_after_all : List WorkedJob → List Fact → List WorkedJob
worked_after_all worked [] = worked
worked_after_all worked (f ∷ fs) = worked_after_all (worked_after worked f) fs

-- those of one node
abbrev pub worked_of : ℕ → List WorkedJob → List WorkedJob
worked_of n worked = filter (λ w. w.node == n) worked

-- the jobs of a node that wait to be worked, in the order in which they were given
abbrev pub waiting_of : List WorkedJob → Lists → List Job
waiting_of worked s =
    filter (λ job. not (list_any (is_worked s.me job.session job.request) worked)) s.jobs.out

abbrev pub work_of : ℕ → Option Job → Event
work_of i None = Missed i
work_of i (Some job) = Worked job.session job.request

-- waiting job i is worked, in the order of giving from 0; Missed where it isn't there
pub record Works (worked : List WorkedJob) (i : ℕ) (s : Timed) (x : List Fact) (t : Timed)
    : Type 0 where
  pub facts : x ≡ plain s.lists.me (work_of i (slice_get (waiting_of worked s.lists) i)) ∷ []
  pub goes : Goes s x t

-- the waiting jobs are worked, the oldest first, until none waits
pub record WorksAll (worked : List WorkedJob) (s : Timed) (x : List Fact) (t : Timed) : Type 0 where
  pub facts : x ≡ map (λ job. plain s.lists.me (Worked job.session job.request))
      (waiting_of worked s.lists)
  pub goes : Goes s x t

-- these jobs are finished, one after another
abbrev pub FinishesEach : List WorkedJob → Rel
FinishesEach [] s x t = (x ≡ []) × (t ≡ s)
FinishesEach (w ∷ ws) s x t = Then (Finishes w.session w.request) (FinishesEach ws) s x t

-- the jobs of a node that were worked are finished in the order of working, until none is left or
-- as many replies are queued as its ring is long
pub record FinishesWorked (worked : List WorkedJob) (s : Timed) (x : List Fact) (t : Timed)
    : Type 0 where
  pub done : List WorkedJob
  pub left : List WorkedJob
  pub parted : worked_of s.lists.me worked ≡ done ++ left
  pub finishes : FinishesEach done s x t
  pub over : (left ≡ []) ⊎ (t.lists.room ≤ replies t.lists.queued)
