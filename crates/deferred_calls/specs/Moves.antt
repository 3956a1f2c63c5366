-- What each call does to a desk's jobs.
use Rattle.std.specs.Prelude.{◌≡◌, ◌≢◌, ℕ, ◌+◌, ◌<◌, ◌≤◌, List, [], ◌∷◌, ◌++◌, Option, Some, None}
use Rattle.std.specs.Prelude.{length}
use Rattle.std.specs.Prelude.{slice_get}
use Rattle.std.specs.List.{remove}
use Rattle.message_buffer.specs.Buffer.{written}
use Rattle.worker_board.specs.declared.Parcel.{Parcel}
use Rattle.worker_crew.specs.Local.{answered}
use Rattle.deferred_calls.specs.declared.job.Numbered.{Numbered}
use Rattle.deferred_calls.specs.Desks.{Jobs}

-- the job gets the next number, and waits behind all others
abbrev pub given_to : Parcel → Jobs → Jobs
given_to job s = record s {
  given = s.given + 1;
  waiting = s.waiting ++ record { number = s.given; parcel = job } ∷ [];
}

-- the oldest job that has no handle gets one; there is none exactly where each job has one
abbrev pub HandsOut : Option Numbered → Jobs → Jobs → Type 0
HandsOut None old new = (old.waiting ≡ []) × (new ≡ old)
HandsOut (Some n) old new =
    (rest : List Numbered) × (old.waiting ≡ n ∷ rest)
    × (new ≡ record old { waiting = rest; handled = old.handled ++ n ∷ [] })

-- the job of this handle is out, with its number and all its content
abbrev pub IsHandleOf : Jobs → Numbered → Type 0
IsHandleOf s n = (k : ℕ) × (slice_get s.handled k ≡ Some n)

-- the job with these bytes in its buffer
abbrev pub with_answer : List ℕ → Parcel → Parcel
with_answer bytes p = record p { out = written 0 bytes p.out }

-- the place of the first job of this number, or the length where there is none
pub record IsFirstOf (number : ℕ) (ns : List Numbered) (place : ℕ) : Type 0 where
  pub within : place ≤ length ns
  pub before : (j : ℕ) (n : Numbered) → j < place → slice_get ns j ≡ Some n → n.number ≢ number
  pub here : (n : Numbered) → slice_get ns place ≡ Some n → n.number ≡ number

-- the job stood once among these, and was taken out
abbrev pub TakesOut : Numbered → List Numbered → List Numbered → Type 0
TakesOut n old new = (k : ℕ) × (slice_get old k ≡ Some n) × (new ≡ remove old k)

-- the job of the handle is answered, behind those answered before, and its handle is out no more
abbrev pub Answers : (ℕ → List ℕ → List ℕ) → Numbered → Jobs → Jobs → Type 0
Answers answer n old new =
    (k : ℕ) × (slice_get old.handled k ≡ Some n)
    × (new ≡ record old {
      handled = remove old.handled k;
      answered = old.answered ++ answered answer n.parcel ∷ [];
    })
