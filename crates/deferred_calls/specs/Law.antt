-- The desk law: what holds of every list of calls.
use Rattle.std.specs.Prelude.{◌≡◌, ℕ, ◌+◌, ◌≤◌, ◌==◌, cond, List, [], ◌∷◌, ◌++◌, map, Some}
use Rattle.worker_board.specs.declared.Parcel.{Parcel}
use Rattle.worker_crew.specs.Local.{answered}
use Rattle.deferred_calls.specs.declared.job.Numbered.{Numbered}
use Rattle.deferred_calls.specs.Desks.{Jobs}
use Rattle.deferred_calls.specs.Moves.{given_to, HandsOut, Answers}

-- a call that changed something: a job was given, handed out, answered by its handle, or taken
pub data Call : Type 0 where
  gives : Parcel → Call
  hands : Numbered → Call
  answers : Numbered → Call
  takes : Parcel → Call

abbrev pub Does : (ℕ → List ℕ → List ℕ) → Call → Jobs → Jobs → Type 0
Does answer (gives p) old new = new ≡ given_to p old
Does answer (hands n) old new = HandsOut (Some n) old new
Does answer (answers n) old new = Answers answer n old new
Does answer (takes p) old new =
    (rest : List Parcel) × (old.answered ≡ p ∷ rest) × (new ≡ record old { answered = rest })

-- the calls lead from the one to the other
abbrev pub Runs : (ℕ → List ℕ → List ℕ) → List Call → Jobs → Jobs → Type 0
Runs answer [] s t = s ≡ t
Runs answer (c ∷ cs) s t = (u : Jobs) × Does answer c s u × Runs answer cs u t

-- the jobs that were handed out, in order
abbrev pub jobs_handed : List Call → List Numbered
jobs_handed [] = []
jobs_handed (gives p ∷ cs) = jobs_handed cs
jobs_handed (hands n ∷ cs) = n ∷ jobs_handed cs
jobs_handed (answers n ∷ cs) = jobs_handed cs
jobs_handed (takes p ∷ cs) = jobs_handed cs

-- the jobs that were answered, in order
abbrev pub jobs_answered : List Call → List Numbered
jobs_answered [] = []
jobs_answered (gives p ∷ cs) = jobs_answered cs
jobs_answered (hands n ∷ cs) = jobs_answered cs
jobs_answered (answers n ∷ cs) = n ∷ jobs_answered cs
jobs_answered (takes p ∷ cs) = jobs_answered cs

-- the parcels that were taken, in order
abbrev pub parcels_taken : List Call → List Parcel
parcels_taken [] = []
parcels_taken (gives p ∷ cs) = parcels_taken cs
parcels_taken (hands n ∷ cs) = parcels_taken cs
parcels_taken (answers n ∷ cs) = parcels_taken cs
parcels_taken (takes p ∷ cs) = p ∷ parcels_taken cs

abbrev pub is_number : ℕ → Numbered → ℕ
is_number m n = cond (n.number == m) 1 0

-- how often the job of this number is among these
abbrev pub times : ℕ → List Numbered → ℕ
times m [] = 0
times m (n ∷ ns) = is_number m n + times m ns

-- the parcel of a job, with the duty's answer in its buffer
abbrev pub finished : (ℕ → List ℕ → List ℕ) → Numbered → Parcel
finished answer n = answered answer n.parcel

-- a desk has no job that isn't taken
pub record IsEmpty (s : Jobs) : Type 0 where
  pub waiting : s.waiting ≡ []
  pub handled : s.handled ≡ []
  pub answered : s.answered ≡ []

-- the desk law of the job of this number, after calls of a desk that was empty: it was handed out
-- at most once, and answered no more often than it was handed out. The parcels that were taken are
-- those of the jobs that were answered first, in that order and with their answers; those of the
-- others are left
pub record KeepsLaw (answer : ℕ → List ℕ → List ℕ) (number : ℕ) (calls : List Call) (new : Jobs)
    : Type 0 where
  pub handed_once : times number (jobs_handed calls) ≤ 1
  pub answered_once : times number (jobs_answered calls) ≤ times number (jobs_handed calls)
  pub taken : List Numbered
  pub left : List Numbered
  pub in_order : jobs_answered calls ≡ taken ++ left
  pub taken_are : parcels_taken calls ≡ map (finished answer) taken
  pub left_are : new.answered ≡ map (finished answer) left
  pub taken_once : times number taken ≤ times number (jobs_answered calls)
