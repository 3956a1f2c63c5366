-- Jobs of a desk that are asked of another server.
use Rattle.std.specs.Prelude.{◌≡◌, ◌⊎◌, ℕ, ◌+◌, List, ◌++◌, Some, length, slice_get}
use Rattle.client_core.specs.declared.outcome.Done.{Done}
use Rattle.client_core.specs.declared.outcome.Outcome.TheVariants.{Ok}
use Rattle.deferred_calls.specs.Desks.{Jobs, hands_of, open_of}
use Rattle.deferred_calls.specs.Moves.{Answers}
use Rattle.deferred_calls.specs.declared.job.Numbered.{Numbered}
use Rattle.message_buffer.specs.Buffer.{bytes_of}
use Rattle.worker_board.specs.declared.Parcel.{Parcel}

-- how many jobs may be out, the jobs that were asked of the other server, in order of giving, and
-- how many jobs were answered with its answers, and how many here
pub record Relaying : Type 0 where
  pub limit : ℕ
  pub asked : List Numbered
  pub relayed : ℕ
  pub here : ℕ

-- the handles of a desk that are out are of the jobs that were asked, and these; each job that was
-- given isn't answered, or is counted once
pub record Stands (desk : Jobs) (held : List Numbered) (r : Relaying) : Type 0 where
  pub limit : r.limit ≡ desk.limit
  pub handled : desk.handled ≡ r.asked ++ held
  pub counts : r.relayed + r.here + length (open_of desk) ≡ desk.given

-- the call of a job ended well, with the job's answer
abbrev pub HasAnswer : (ℕ → List ℕ → List ℕ) → Numbered → Done → Type 0
HasAnswer answer n d =
    (d.outcome ≡ Ok) × (bytes_of d.resp ≡ answer n.parcel.req_type (bytes_of n.parcel.ask))

-- one more job was answered with the other server's answer, or here
pub record CountsOne (relayed : Type 0) (old new : Relaying) : Type 0 where
  pub count : (relayed × (new.relayed ≡ old.relayed + 1) × (new.here ≡ old.here))
      ⊎ ((relayed → ⊥) × (new.relayed ≡ old.relayed) × (new.here ≡ old.here + 1))

-- the call of a job is over, and the job is answered: with the other server's answer exactly where
-- that is the job's, and here otherwise
pub record EndsJob (answer : ℕ → List ℕ → List ℕ) (d : Done) (desk then_desk : Jobs)
    (old new : Relaying) : Type 0 where
  pub job : Numbered
  pub named : job.number ≡ d.tag
  pub answers : Answers answer job desk then_desk
  pub counts : CountsOne (HasAnswer answer job d) old new

-- no job with this number was asked
abbrev pub IsNobodys : (tag : ℕ) → Relaying → Type 0
IsNobodys tag r = (k : ℕ) (n : Numbered) → slice_get r.asked k ≡ Some n → n.number ≡ tag → ⊥

-- what the end of a call does: nothing where no job with its tag was asked
abbrev pub Settles : (ℕ → List ℕ → List ℕ) → Done → (desk then_desk : Jobs) → (old new : Relaying)
    → Type 0
Settles answer d desk then_desk old new =
    EndsJob answer d desk then_desk old new
    ⊎ (IsNobodys d.tag old × (then_desk ≡ desk) × (new ≡ old))

-- a desk was given these jobs, and some that were answered were taken; its handles that are out
-- stay
pub record GoesOn (gave : List Parcel) (old new : Jobs) : Type 0 where
  pub left : open_of new ≡ open_of old ++ gave
  pub hands : hands_of new ≡ hands_of old
  pub given : new.given ≡ old.given + length gave
  pub limit : new.limit ≡ old.limit
