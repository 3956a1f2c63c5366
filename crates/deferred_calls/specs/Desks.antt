-- A desk's jobs: those that wait for a handle, those whose handle is out, and those that are
-- answered.
use Rattle.std.specs.Prelude.{ℕ, suc, ◌+◌, ◌≤◌, List, [], ◌∷◌, ◌++◌, length, map}
use Rattle.std.specs.List.{AllByRecursion}
use Rattle.atomic_table.specs.Seated.{TableId}
use Rattle.worker_board.specs.declared.Parcel.{Parcel}
use Rattle.worker_crew.specs.Crews.{Team}
use Rattle.worker_crew.specs.Jobs.{Job, job_of, HasRoom, IsAnswered}
use Rattle.deferred_calls.specs.declared.job.Numbered.{Numbered}

pub record Jobs : Type 0 where
  pub limit : ℕ
  pub given : ℕ
  -- in order of giving
  pub waiting : List Numbered
  -- those whose handle is out, in order of giving
  pub handled : List Numbered
  -- in order of answering
  pub answered : List Parcel

abbrev pub parcel_of : Numbered → Parcel
parcel_of n = n.parcel

-- the jobs that are not answered, in order of giving
abbrev pub open_of : Jobs → List Parcel
open_of s = map parcel_of (s.handled ++ s.waiting)

-- the jobs given and not taken
abbrev pub out_of : Jobs → List Job
out_of s = map job_of (open_of s ++ s.answered)

-- the numbers of the jobs whose handles are out
abbrev pub number_of : Numbered → ℕ
number_of n = n.number

-- no board and no queue of tickets
abbrev pub no_table : TableId
no_table = record {
  words = 0;
  slots = 0;
  views_name = 0;
  atom = 0;
  block = 0;
  offset = 0;
  slot_names = [];
}

-- the hands that work for a desk are its handles that are out, each with its job's number. They
-- work at no board
abbrev pub hands_of : Jobs → Team
hands_of s = record {
  board = record { board = no_table; queue = no_table };
  out = map number_of s.handled;
  kept = [];
}

-- the numbers rise, from `low` on, and stay below `high`
abbrev pub Rises : ℕ → List Numbered → ℕ → Type 0
Rises low [] high = low ≤ high
Rises low (n ∷ ns) high = (low ≤ n.number) × Rises (suc n.number) ns high

-- the numbers of these jobs rise
abbrev pub HasNumbers : List Numbered → Type 0
HasNumbers ns = (high : ℕ) × Rises 0 ns high

abbrev pub HasRoomIn : (ℕ → List ℕ → List ℕ) → Numbered → Type 0
HasRoomIn answer n = HasRoom answer n.parcel

-- no more jobs are out than the limit; the numbers rise, first those of handles that are out;
-- those that wait have room for their answers, and those that are answered have them
pub record IsSound (answer : ℕ → List ℕ → List ℕ) (s : Jobs) : Type 0 where
  pub few : length s.waiting + length s.handled + length s.answered ≤ s.limit
  pub rises : Rises 0 (s.handled ++ s.waiting) s.given
  pub room : AllByRecursion (HasRoomIn answer) s.waiting
  pub room_out : AllByRecursion (HasRoomIn answer) s.handled
  pub answered : AllByRecursion (IsAnswered answer) s.answered
