-- Workers that give the newest job back first.
use Rattle.std.specs.Prelude.{ℕ, List, map}
use Rattle.worker_board.specs.declared.Parcel.{Parcel}
use Rattle.worker_crew.specs.Jobs.{Job, job_of}

-- how many jobs may be out, how many were given, and those that are worked, the newest first
pub record Newest : Type 0 where
  pub limit : ℕ
  pub given : ℕ
  pub worked : List Parcel

-- each job that is out is worked
abbrev pub out_of : Newest → List Job
out_of w = map job_of w.worked
