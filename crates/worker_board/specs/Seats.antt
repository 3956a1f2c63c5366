-- The words of the clauses: what a seat is known to be, and what its view says of a place.
use Rattle.std.specs.Prelude.{◌≡◌, ◌≢◌, ℕ, List, [], ◌++◌, length}
use Rattle.atomic_table.specs.Seated.{TableId}
use Rattle.worker_board.specs.Tickets.{OfferNo}
use Rattle.worker_board.specs.declared.word.TheConstants.{READY}
use Rattle.worker_board.specs.declared.Parcel.{Parcel}
use Rattle.worker_board.specs.declared.board.Board.{Board}
use Rattle.worker_board.specs.declared.board.DispatchSeat.{DispatchSeat}
use Rattle.worker_board.specs.declared.board.HandSeat.{HandSeat}
use Rattle.worker_board.specs.declared.view.Note.{Note}
use Rattle.worker_board.specs.declared.view.View.{View}
use Rattle.worker_board.specs.Counts.{times}
use Rattle.worker_board.specs.Word.{word_of, IsOtherWord, IsUnfinished, IsOpen, IsClosed, job_of}
use Rattle.worker_board.specs.Word.{IsNewest, newest, offers_at}
use Rattle.worker_board.specs.Moves.{Has, claim, note, sent_out}

-- what a view says between two calls
abbrev pub known : View → View
known v = record v { turn = 0; notes = [] }

-- what the dispatcher's seat knows
abbrev pub view_of : DispatchSeat → View
view_of s = known s.seat.me.0

-- what a hand's seat knows
abbrev pub hand_view : HandSeat → View
hand_view s = known s.seat.me.0

-- the number of a hand
abbrev pub number_at : HandSeat → ℕ
number_at s = s.number

-- what tells the boards apart, of a seat and of a hand
abbrev pub seat_board : DispatchSeat → TableId
seat_board s = s.seat.table_id

abbrev pub hand_board : HandSeat → TableId
hand_board s = s.seat.table_id

module _ {D : Type 0} where
  -- the same of a board
  abbrev pub board_id : Board D → TableId
  board_id b = b.steps.table.shared.table_id

  -- how many places a board has
  abbrev pub places_of : Board D → ℕ
  places_of b = b.places

  -- the dispatcher's seat is this board's
  abbrev pub IsSeatOf : Board D → DispatchSeat → Type 0
  IsSeatOf b s = seat_board s ≡ board_id b

  -- the hand's seat is this board's
  abbrev pub IsHandOf : Board D → HandSeat → Type 0
  IsHandOf b s = hand_board s ≡ board_id b

-- what the steps of the dispatcher left words at, newest first
abbrev pub notes_of : DispatchSeat → List Note
notes_of s = s.seat.me.0.notes

-- what the steps of a hand left words at
abbrev pub hand_notes : HandSeat → List Note
hand_notes s = s.seat.me.0.notes

-- no note was forgotten
abbrev pub Grows : List Note → List Note → Type 0
Grows old new = (more : List Note) × (new ≡ more ++ old)

-- no note was forgotten, and one of those that were added says so of the place's word
abbrev pub Saw : ℕ → (ℕ → Type 0) → List Note → List Note → Type 0
Saw p says old new =
    (w : ℕ) × says w × ((more : List Note) × Has more (note p w) × (new ≡ more ++ old))

-- the place's word was left at this generation and phase
abbrev pub LeftAt : ℕ → ℕ → ℕ → List Note → List Note → Type 0
LeftAt p g phase old new = Saw p (λ w. w ≡ word_of g phase) old new

-- the place's word was another than that of this generation being ready
abbrev pub FoundOther : ℕ → ℕ → List Note → List Note → Type 0
FoundOther p g old new = Saw p (λ w. w ≢ word_of g READY) old new

-- and it was a later one, or 0, or that of an earlier generation
abbrev pub FoundOtherWord : ℕ → ℕ → List Note → List Note → Type 0
FoundOtherWord p g old new = Saw p (IsOtherWord g) old new

-- the place's word was that of this generation being ready or claimed
abbrev pub FoundUnfinished : ℕ → ℕ → List Note → List Note → Type 0
FoundUnfinished p g old new = Saw p (IsUnfinished g) old new

-- the place was never offered, or its last offer was collected or taken back
abbrev pub IsFree : View → ℕ → Type 0
IsFree v p = IsClosed (offers_at v.ledger p)

-- the place was offered, and its last offer was neither collected nor taken back
abbrev pub IsOffered : View → ℕ → Type 0
IsOffered v p = IsOpen (offers_at v.ledger p)

-- the generation of the place's last offer
abbrev pub generation : View → ℕ → ℕ
generation v p = newest (offers_at v.ledger p)

-- the generation of the place's next offer: how often it was offered
abbrev pub next_generation : View → ℕ → ℕ
next_generation v p = length (offers_at v.ledger p)

-- the parcel is the one that the place was last offered, with all its bytes
abbrev pub IsOfferOf : View → ℕ → Parcel → Type 0
IsOfferOf v p x = IsNewest x (offers_at v.ledger p)

-- the view holds the claim of this ticket, and it is of the parcel's job
abbrev pub HoldsClaim : View → OfferNo → Parcel → Type 0
HoldsClaim v t x = Has v.held (claim t.place t.generation (job_of x))

abbrev pub HoldsNone : View → Type 0
HoldsNone v = v.held ≡ []

-- no hand ever had the number
abbrev pub IsUnused : ℕ → View → Type 0
IsUnused n v = times n v.used ≡ 0

-- no hand is out
abbrev pub AllRetired : View → Type 0
AllRetired v = v.out ≡ []

-- the dispatcher's view once the hand of this number is out
abbrev pub with_hand : ℕ → View → View
with_hand n v = sent_out (record v { next = n })
