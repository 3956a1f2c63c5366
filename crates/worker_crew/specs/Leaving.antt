-- What is left of a crew that stopped.
use Rattle.std.specs.Prelude.{◌≡◌, ◌⊎◌, ℕ, true, false, List, ◌∷◌, map}
use Rattle.worker_board.specs.declared.view.End.TheVariants.{Collected, TakenBack}
use Rattle.worker_board.specs.declared.view.Offer.{Offer}
use Rattle.worker_board.specs.declared.view.View.{View}
use Rattle.worker_board.specs.Word.{offers_at}
use Rattle.worker_crew.specs.declared.workers.Finished.{Finished}
use Rattle.worker_crew.specs.Dispatching.{Dispatching}
use Rattle.worker_crew.specs.Jobs.{Job, job_of, IsAnswered}

pub record LeftState : Type 0 where
  -- the dispatcher, once the crew stopped
  pub dispatching : Dispatching
  pub jobs : List Finished

-- the jobs that come back
abbrev pub jobs_of : List Finished → List Job
jobs_of fs = map (λ (f : Finished). job_of f.parcel) fs

-- the job of an offer that was collected comes back with its answer, and that of one whose
-- take-back was won comes back as it was offered
abbrev pub ComesBack : (ℕ → List ℕ → List ℕ) → Offer → Finished → Type 0
ComesBack answer o f =
    ((f.worked ≡ true) × (o.end ≡ Collected) × (job_of f.parcel ≡ job_of o.parcel)
    × IsAnswered answer f.parcel)
    ⊎ ((f.worked ≡ false) × (o.end ≡ TakenBack) × (f.parcel ≡ o.parcel))

-- the job is that of the last offer of a place
pub record IsLeft (answer : ℕ → List ℕ → List ℕ) (v : View) (f : Finished) : Type 0 where
  pub place : ℕ
  pub offer : Offer
  pub older : List Offer
  pub last : offers_at v.ledger place ≡ offer ∷ older
  pub comes : ComesBack answer offer f
