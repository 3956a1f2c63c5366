-- Jobs on one thread: those that wait, and those that are worked.
use Rattle.std.specs.Prelude.{◌≡◌, ℕ, ◌+◌, ◌≤◌, List, ◌∷◌, [], ◌++◌, length, map, Some, slice_get}
use Rattle.std.specs.List.{remove, AllByRecursion}
use Rattle.message_buffer.specs.Buffer.{bytes_of, written}
use Rattle.worker_board.specs.declared.Parcel.{Parcel}
use Rattle.worker_crew.specs.Jobs.{Job, job_of, HasRoom, IsAnswered}

pub record Local : Type 0 where
  pub limit : ℕ
  pub given : ℕ
  -- in order of giving
  pub waiting : List Parcel
  -- in order of working
  pub worked : List Parcel

-- the jobs given and not taken
abbrev pub out_of : Local → List Job
out_of s = map job_of (s.waiting ++ s.worked)

-- no more jobs are out than the limit; those that wait have room for their answers, those that are
-- worked have them
pub record IsSound (answer : ℕ → List ℕ → List ℕ) (s : Local) : Type 0 where
  pub few : length s.waiting + length s.worked ≤ s.limit
  pub room : AllByRecursion (HasRoom answer) s.waiting
  pub answered : AllByRecursion (IsAnswered answer) s.worked

-- the job with its answer in its buffer
abbrev pub answered : (ℕ → List ℕ → List ℕ) → Parcel → Parcel
answered answer p = record p { out = written 0 (answer p.req_type (bytes_of p.ask)) p.out }

-- waiting job j is worked, and comes behind those worked before
pub record Works (answer : ℕ → List ℕ → List ℕ) (j session request : ℕ) (old new : Local)
    : Type 0 where
  pub job : Parcel
  pub is_job : slice_get old.waiting j ≡ Some job
  pub named : (session ≡ job.session) × (request ≡ job.request)
  pub left : new ≡ record old {
    waiting = remove old.waiting j;
    worked = old.worked
        ++ answered answer job ∷ [];
  }

-- the job waits behind all others
abbrev pub given_to : Parcel → Local → Local
given_to job s = record s { given = s.given + 1; waiting = s.waiting ++ job ∷ [] }
