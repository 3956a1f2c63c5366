-- The word of a place, and the dispatcher's list of the place's offers, newest first.
use Rattle.std.specs.Prelude.{◌≡◌, ◌≢◌, ℕ, ◌+◌, ◌*◌, ◌<◌, ◌⊎◌, List, [], ◌∷◌, length, ◌==◌, cond}
use Rattle.std.specs.Prelude.{slice_index_or}
use Rattle.message_buffer.specs.Buffer.{bytes_of}
use Rattle.worker_board.specs.declared.word.TheConstants.{PHASES, READY, CLAIMED, OVER}
use Rattle.worker_board.specs.declared.Parcel.{Parcel}
use Rattle.worker_board.specs.declared.view.Job.{Job}
use Rattle.worker_board.specs.declared.view.Offer.{Offer}
use Rattle.worker_board.specs.declared.view.Claim.{Claim}
use Rattle.worker_board.specs.declared.view.End.{End}
use Rattle.worker_board.specs.declared.view.End.TheVariants.{Open, Collected, TakenBack}

-- how far the newest offer of a place is; `closed` is a place with no open offer
pub data Phase : Type 0 where
  closed : Phase
  ready : Phase
  claimed : Phase
  done : Phase

abbrev pub digit : Phase → ℕ
digit closed = OVER
digit ready = READY
digit claimed = CLAIMED
digit done = OVER

-- the word of a generation in a phase
abbrev pub word_of : ℕ → ℕ → ℕ
word_of g phase = PHASES * g + phase

-- the job of the generation is not finished
abbrev pub IsUnfinished : ℕ → ℕ → Type 0
IsUnfinished g w = (w ≡ word_of g READY) ⊎ (w ≡ word_of g CLAIMED)

-- a word of a place that doesn't show this generation ready: it is that of a later phase or
-- generation, or 0 of a place that was never offered, or that of an earlier generation
pub data IsOtherWord (g w : ℕ) : Type 0 where
  later : word_of g READY < w → IsOtherWord g w
  unoffered : w ≡ 0 → IsOtherWord g w
  earlier : (e : ℕ) (phase : Phase) → e < g → w ≡ word_of e (digit phase) → IsOtherWord g w

-- the word of a place with these offers
abbrev pub word_at : List Offer → Phase → ℕ
word_at [] ph = 0
word_at (o ∷ older) ph = PHASES * length older + digit ph

-- the newest offer was neither collected nor taken back
abbrev pub IsOpen : List Offer → Type 0
IsOpen [] = ⊥
IsOpen (o ∷ older) = o.end ≡ Open

-- the newest offer was collected or taken back, or there is none
abbrev pub IsClosed : List Offer → Type 0
IsClosed [] = Unit {0}
IsClosed (o ∷ older) = o.end ≢ Open

-- what a worker may not change of a parcel: whose request it is, its type and the bytes asked
abbrev pub job_of : Parcel → Job
job_of x = record {
  session = x.session;
  request = x.request;
  req_type = x.req_type;
  ask = bytes_of x.ask;
}

-- the newest offer is of this job
abbrev pub IsOfferedJob : Job → List Offer → Type 0
IsOfferedJob j [] = ⊥
IsOfferedJob j (o ∷ older) = job_of o.parcel ≡ j

-- the newest offer is of this very parcel, with all its bytes
abbrev pub IsNewest : Parcel → List Offer → Type 0
IsNewest x [] = ⊥
IsNewest x (o ∷ older) = o.parcel ≡ x

-- the claim is of the newest offer
abbrev pub IsCurrent : Claim → List Offer → Type 0
IsCurrent c [] = ⊥
IsCurrent c (o ∷ older) = (c.ticket.generation ≡ length older) × (job_of o.parcel ≡ c.job)

abbrev pub offer_of : Parcel → End → Offer
offer_of x e = record { parcel = x; end = e }

-- the newest offer ends
abbrev pub ended : End → List Offer → List Offer
ended e [] = []
ended e (o ∷ older) = offer_of o.parcel e ∷ older

-- how often an offer was run
abbrev pub run_of : Phase → End → ℕ
run_of done Open = 1
run_of closed Open = 0
run_of ready Open = 0
run_of claimed Open = 0
run_of ph Collected = 1
run_of ph TakenBack = 0

-- how often the generation g was run
abbrev pub runs_of : ℕ → Phase → List Offer → ℕ
runs_of g ph [] = 0
runs_of g ph (o ∷ older) = cond (g == length older) (run_of ph o.end) (runs_of g closed older)

abbrev pub AllEnded : List Offer → Type 0
AllEnded [] = Unit {0}
AllEnded (o ∷ older) = (o.end ≢ Open) × AllEnded older

-- each offer but the newest has ended
abbrev pub OlderEnded : List Offer → Type 0
OlderEnded [] = Unit {0}
OlderEnded (o ∷ older) = AllEnded older

-- the newest generation of a place
abbrev pub newest : List Offer → ℕ
newest [] = 0
newest (o ∷ older) = length older

-- the offers of a place, where the list has those of each place
abbrev pub offers_at : List (List Offer) → ℕ → List Offer
offers_at l p = slice_index_or l p []
