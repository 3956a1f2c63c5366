-- Workers on the world's own thread have what the world says that they have, at every step.
use Rattle.std.specs.Prelude.{ℕ, ◌≡◌, ◌+◌, ◌≤◌, true, false, List, [], ◌∷◌, ◌++◌, length, map}
use Rattle.std.specs.List.{AllByRecursion}
use Rattle.node_laws.specs.Valid.{Valid}
use Rattle.rpc_base.specs.declared.event.Event.TheVariants.{Missed, Restarted, Worked}
use Rattle.rpc_base.specs.declared.fact.Fact.{Fact}
use Rattle.rpc_base.specs.declared.fact.Who.TheVariants.{Net}
use Rattle.rpc_laws.specs.declared.tables.Timed.{Timed}
use Rattle.rpc_laws.specs.declared.tables.WorkedJob.{WorkedJob}
use Rattle.rpc_laws.specs.AtMostOnce.{is_at}
use Rattle.rpc_laws.specs.Facts.{plain}
use Rattle.rpc_laws.specs.NodeLists.{restarted}
use Rattle.rpc_laws.specs.PollOrder.{PollBy, SendsAll}
use Rattle.rpc_laws.specs.Working.{FinishesWorked, worked_after_all, Works, WorksAll}
use Rattle.rpc_outside.specs.declared.service.Mode.{Mode}
use Rattle.work_laws.specs.Known.{changes_work, FinishesFirst, HasJobs, job_name, KnowsWork}
use Rattle.work_laws.specs.Known.{left_names, parcel_name, worked_as}
use Rattle.worker_board.specs.declared.Parcel.{Parcel}
use Rattle.worker_crew.specs.Local.{Local, Works as LocalWorks}

-- facts of another node, and of the network, change nothing
abbrev pub StaysByOthers : Type 0
StaysByOthers =
    (n : ℕ) (x : List Fact) (worked : List WorkedJob) (s : Timed) (w : Local)
    → AllByRecursion (λ f. is_at n f.who ≡ true) x → (n ≡ s.lists.me → ⊥) → KnowsWork worked s w
    → KnowsWork (worked_after_all worked x) s w

abbrev pub StaysByNetwork : Type 0
StaysByNetwork =
    (x : List Fact) (worked : List WorkedJob) (s : Timed) (w : Local)
    → AllByRecursion (λ f. f.who ≡ Net) x → KnowsWork worked s w
    → KnowsWork (worked_after_all worked x) s w

-- nor do facts that work no job, run no handler and restart no node, where the node's jobs stay
abbrev pub StaysIdle : Type 0
StaysIdle =
    (x : List Fact) (worked : List WorkedJob) (s t : Timed) (w : Local)
    → AllByRecursion (λ f. changes_work f.event ≡ false) x → t.lists.jobs ≡ s.lists.jobs
    → t.lists.me ≡ s.lists.me → KnowsWork worked s w → KnowsWork (worked_after_all worked x) t w

-- a node that is restarted has no jobs, nor have its new workers
abbrev pub StartsAnew : Type 0
StartsAnew =
    (worked : List WorkedJob) (s : Timed) (w : Local) → w.waiting ≡ [] → w.worked ≡ []
    → KnowsWork
    (worked_after_all worked (plain s.lists.me (Restarted (s.lists.life + 1)) ∷ [])) (restarted s) w

-- a worked job is the one that the world says, and the workers have what it says then
pub record WorksOne (worked : List WorkedJob) (j session request : ℕ) (s : Timed) (later : Local)
    : Type 0 where
  pub works : Works worked j s (plain s.lists.me (Worked session request) ∷ []) s
  pub knows : KnowsWork
      (worked_after_all worked (plain s.lists.me (Worked session request) ∷ [])) s later
  pub has : HasJobs s later

abbrev pub WorksByOrder : Type 0
WorksByOrder =
    (answer : ℕ → List ℕ → List ℕ) (j session request : ℕ) (worked : List WorkedJob) (s : Timed)
    (w later : Local) → Valid s.lists → KnowsWork worked s w → HasJobs s w
    → LocalWorks answer j session request w later → WorksOne worked j session request s later

-- where the workers have no job at a place, the world has none
abbrev pub MissesByOrder : Type 0
MissesByOrder =
    (j : ℕ) (worked : List WorkedJob) (s : Timed) (w : Local) → KnowsWork worked s w
    → length w.waiting ≤ j → Works worked j s (plain s.lists.me (Missed j) ∷ []) s

-- all are worked where none waits; otherwise where the first is worked, and then all
abbrev pub WorksNone : Type 0
WorksNone =
    (worked : List WorkedJob) (s : Timed) (w : Local) → w.waiting ≡ [] → KnowsWork worked s w
    → WorksAll worked s [] s

abbrev pub WorksNext : Type 0
WorksNext =
    (answer : ℕ → List ℕ → List ℕ) (session request : ℕ) (worked : List WorkedJob) (s : Timed)
    (w later : Local) (x : List Fact) (t : Timed) → Valid s.lists → KnowsWork worked s w
    → LocalWorks answer 0 session request w later
    → WorksAll (worked_after_all worked (plain s.lists.me (Worked session request) ∷ [])) s x t
    → WorksAll worked s (plain s.lists.me (Worked session request) ∷ x) t

-- a poll of a node with these workers: the jobs that were worked first come back, until none is
-- left or as many replies are queued as the ring is long, and others are given. At the end the
-- node's jobs are those that didn't come back, and those that were given
pub record PollsWith (mode : ℕ → Mode) (now : ℕ) (parcels gave : List Parcel) (w later : Local)
    (s : Timed) (x : List Fact) (t : Timed) : Type 0 where
  pub back : w.worked ≡ parcels ++ later.worked
  pub given : later.waiting ≡ w.waiting ++ gave
  pub polls : PollBy (FinishesFirst (map (worked_as s.lists.me) parcels) (later.worked ≡ []))
      SendsAll mode now s x t
  pub names : map job_name t.lists.jobs.out
      ≡ left_names parcels (map job_name s.lists.jobs.out) ++ map parcel_name gave

-- it is the poll that the world asks for, and the workers have what the world says then
pub record PollsKnown (mode : ℕ → Mode) (now : ℕ) (worked : List WorkedJob) (later : Local)
    (s : Timed) (x : List Fact) (t : Timed) : Type 0 where
  pub polls : PollBy (FinishesWorked worked) SendsAll mode now s x t
  pub knows : KnowsWork (worked_after_all worked x) t later
  pub has : HasJobs t later

abbrev pub PollsByOrder : Type 0
PollsByOrder =
    (mode : ℕ → Mode) (now : ℕ) (worked : List WorkedJob) (w later : Local)
    (parcels gave : List Parcel) (s : Timed) (x : List Fact) (t : Timed) → Valid s.lists
    → KnowsWork worked s w → HasJobs s w → PollsWith mode now parcels gave w later s x t
    → PollsKnown mode now worked later s x t
