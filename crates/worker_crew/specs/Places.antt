-- The places of a crew's board: those with a job, in the order of giving, and those that are free.
use Rattle.std.specs.Prelude.{◌≡◌, ℕ, ◌+◌, ◌<◌, ◌≤◌, Bool, true, false, List, [], ◌∷◌, ◌++◌, length}
use Rattle.std.specs.Prelude.{map}
use Rattle.std.specs.Prelude.{take, drop}
use Rattle.rpc_base.specs.Totals.{total}
use Rattle.worker_board.specs.declared.view.Offer.{Offer}
use Rattle.worker_board.specs.declared.view.End.{End}
use Rattle.worker_board.specs.declared.view.End.TheVariants.{Open, Collected, TakenBack}
use Rattle.worker_board.specs.Counts.{times}
use Rattle.worker_board.specs.declared.view.View.{View}
use Rattle.message_buffer.specs.Buffer.{bytes_of}
use Rattle.worker_board.specs.Word.{offers_at}
use Rattle.worker_crew.specs.Jobs.{Job, job_of}

abbrev pub is_open_end : End → Bool
is_open_end Open = true
is_open_end Collected = false
is_open_end TakenBack = false

-- whether the newest of a place's offers is neither collected nor taken back
abbrev pub is_open : List Offer → Bool
is_open [] = false
is_open (o ∷ older) = is_open_end o.end

-- the job that was offered last; no job for a place that was never offered
abbrev pub newest_job : List Offer → Job
newest_job [] = record { session = 0; request = 0; req_type = 0; ask = [] }
newest_job (o ∷ older) = job_of o.parcel

-- the jobs that were offered last at these places
abbrev pub jobs_at : List (List Offer) → List ℕ → List Job
jobs_at ledger places = map (λ p. newest_job (offers_at ledger p)) places

-- the length of the answer to the job that was offered last, and that of its buffer
abbrev pub answer_room : (ℕ → List ℕ → List ℕ) → List Offer → ℕ
answer_room answer [] = 0
answer_room answer (o ∷ older) = length (answer o.parcel.req_type (bytes_of o.parcel.ask))

abbrev pub buffer_room : List Offer → ℕ
buffer_room [] = 0
buffer_room (o ∷ older) = o.parcel.out.len

-- the buffer of the job that was offered last has the answer's length
abbrev pub HasRoomAt : (ℕ → List ℕ → List ℕ) → List Offer → Type 0
HasRoomAt answer l = answer_room answer l ≡ buffer_room l

-- how many of a place's offers were taken back
abbrev pub is_back : End → ℕ
is_back Open = 0
is_back Collected = 0
is_back TakenBack = 1

abbrev pub taken_back : List Offer → ℕ
taken_back l = total (λ (o : Offer). is_back o.end) l

-- the dispatcher won no take-back, and lost none
pub record TookNoneBack (v : View) : Type 0 where
  pub won : (p : ℕ) → taken_back (offers_at v.ledger p) ≡ 0
  pub lost : v.lost ≡ []

-- the list with one more, before the i-th
abbrev pub put_at : {A : Type 0} → ℕ → A → List A → List A
put_at i x xs = take i xs ++ x ∷ drop i xs

-- a busy place has an open offer and a free one has none; no place stands twice
pub record IsKept (places given : ℕ) (ledger : List (List Offer)) (free busy : List ℕ)
    : Type 0 where
  pub inside : (p : ℕ) → 0 < times p busy + times p free → p < places
  pub once : (p : ℕ) → times p busy + times p free ≤ 1
  pub opened : (p : ℕ) → 0 < times p busy → is_open (offers_at ledger p) ≡ true
  pub closed : (p : ℕ) → 0 < times p free → is_open (offers_at ledger p) ≡ false
  -- no place was offered more often than jobs were given
  pub few : (p : ℕ) → length (offers_at ledger p) ≤ given
  pub wide : length ledger ≡ places

-- all places of a board, each once
pub record AreFree (places : ℕ) (free : List ℕ) : Type 0 where
  pub count : length free ≡ places
  pub inside : (p : ℕ) → 0 < times p free → p < places
  pub once : (p : ℕ) → times p free ≤ 1
