-- The board law: what holds of a board's words, its slots and what its seats know, between any two
-- steps.
use Rattle.std.specs.Prelude.{◌≡◌, ℕ, suc, ◌+◌, ◌*◌, ◌<◌, ◌≤◌, ◌⊎◌, List, [], length, Option, Some}
use Rattle.std.specs.Prelude.{None, slice_index, replicate}
use mathlib.Core.Option.{none, some}
use mathlib.Core.Option as maybe
use lib.ListN.{get_elem?}
use Rattle.rpc_base.specs.Totals.{total}
use Rattle.atomic_table.specs.Table.{State}
use Rattle.message_buffer.specs.Buffer.{bytes_of}
use Rattle.worker_board.specs.Tickets.{OfferNo}
use Rattle.worker_board.specs.declared.word.TheConstants.{PHASES, READY}
use Rattle.worker_board.specs.declared.Parcel.{Parcel}
use Rattle.worker_board.specs.declared.view.Note.{Note}
use Rattle.worker_board.specs.declared.view.Offer.{Offer}
use Rattle.worker_board.specs.declared.view.Claim.{Claim}
use Rattle.worker_board.specs.declared.view.View.{View}
use Rattle.worker_board.specs.declared.view.Role.{Role}
use Rattle.worker_board.specs.declared.view.Role.TheVariants.{Dispatcher, Hand, Spent}
use Rattle.worker_board.specs.Counts.{has_turn, holds, ran, times, is_hand}
use Rattle.worker_board.specs.Word.{Phase, closed, ready, claimed, done, word_at, IsOpen, IsClosed}
use Rattle.worker_board.specs.Word.{job_of, IsOfferedJob, IsNewest, IsCurrent, runs_of, OlderEnded}
use Rattle.worker_board.specs.Word.{offers_at}

-- a view with nothing in it but its role
abbrev pub fresh : Role → View
fresh who = record {
  role = who;
  turn = 0;
  notes = [];
  ledger = [];
  misses = [];
  lost = [];
  lost_claims = [];
  out = [];
  used = [];
  next = 0;
  held = [];
  runs = [];
}

-- the view of the first seat: no place was ever offered
abbrev pub first_view : ℕ → View
first_view places = record (fresh Dispatcher) { ledger = replicate places [] }

abbrev pub Answer : Type 0
Answer = ℕ → List ℕ → List ℕ

-- the slot of a place has the parcel where that is neither claimed nor with a caller
abbrev pub Slot : Type 0
Slot = Option Parcel

abbrev pub IsHand : Role → Type 0
IsHand (Hand n) = Unit {0}
IsHand Dispatcher = ⊥
IsHand Spent = ⊥

-- what `get_elem?` finds of a slot: `some none` is a slot that is out with a seat
abbrev pub Home : Type 0
Home = maybe.Option (maybe.Option Slot)

-- a slot that is empty, or out with one seat
abbrev pub IsEmptyOrOut : Home → ℕ → Type 0
IsEmptyOrOut h t = (t ≡ 0 → h ≡ some (some None)) × (t ≡ 1 → h ≡ some none) × (t ≤ 1)

-- a word shows that a generation is ready no more
abbrev pub IsPastReady : OfferNo → List ℕ → Type 0
IsPastReady t words = PHASES * t.generation + READY < slice_index words t.place

module _ (answer : Answer) where
  -- the buffer for the answer has the answer's length
  abbrev pub HasRoom : Parcel → Type 0
  HasRoom x = length (answer x.req_type (bytes_of x.ask)) ≡ x.out.len

  -- the buffer has the answer
  abbrev pub IsAnswered : Parcel → Type 0
  IsAnswered x = bytes_of x.out ≡ answer x.req_type (bytes_of x.ask)

  -- what the slot of a place holds in a phase, by the place's offers and by how many seats have it
  abbrev pub InPhase : List Offer → Home → ℕ → Phase → Type 0
  InPhase l h t closed = IsClosed l × IsEmptyOrOut h t
  InPhase l h t claimed = IsOpen l × IsEmptyOrOut h t
  InPhase l h t ready = IsOpen l × (t ≡ 0)
      × ((x : Parcel) × (h ≡ some (some (Some x))) × IsNewest x l × HasRoom x)
  InPhase l h t done = IsOpen l × (t ≡ 0)
      × ((x : Parcel) × (h ≡ some (some (Some x))) × IsOfferedJob (job_of x) l × IsAnswered x)

  -- how many claims the seats hold of a place
  abbrev pub held_of : Phase → ℕ
  held_of closed = 0
  held_of ready = 0
  held_of claimed = 1
  held_of done = 0

  -- of one place: its word, its slot, and what the seats and the dispatcher's list of its offers
  -- say of it
  pub record PlaceLaw (p w : ℕ) (h : Home) (views : List View) (l : List Offer) : Type 0 where
    pub phase : Phase
    pub word_is : w ≡ word_at l phase
    pub stands : InPhase l h (total (has_turn p) views) phase
    -- one claim where the place is claimed, and none elsewhere
    pub held : total (holds p) views ≡ held_of phase
    -- each generation was run as often as its offer says, which is at most once
    pub run : (g : ℕ) → total (ran p g) views ≡ runs_of g phase l
    pub past : OlderEnded l

  pub record BoardLaw (s : State Slot View) : Type 0 where
    -- the dispatcher's view is the first, and the only one of its kind
    pub dispatcher : View
    pub first : get_elem? s.views 0 ≡ some dispatcher
    pub dispatches : dispatcher.role ≡ Dispatcher
    pub one_dispatcher : (j : ℕ) (v : View) → get_elem? s.views j ≡ some v
        → v.role ≡ Dispatcher → j ≡ 0
    pub wide : length s.words ≡ length s.homes
    pub long : length dispatcher.ledger ≡ length s.homes
    pub places : (p : ℕ) → p < length s.homes
        → PlaceLaw p (slice_index s.words p) (get_elem? s.homes p) s.views
        (offers_at dispatcher.ledger p)
    -- no word is below what any step left it at
    pub seen : (j k : ℕ) (v : View) (x : Note) → get_elem? s.views j ≡ some v
        → get_elem? v.notes k ≡ some x → x.word ≤ slice_index s.words x.place
    -- each claim is a hand's, of the newest offer of its place
    pub claims : (j k : ℕ) (v : View) (c : Claim) → get_elem? s.views j ≡ some v
        → get_elem? v.held k ≡ some c
        → (c.ticket.place < length s.homes)
        × IsCurrent c (offers_at dispatcher.ledger c.ticket.place) × IsHand v.role
    -- who has a slot is the dispatcher at a place with no open offer, or has a claim there
    pub entitled : (j p : ℕ) (v : View) → get_elem? s.views j ≡ some v → v.turn ≡ suc p
        → ((j ≡ 0) × IsClosed (offers_at dispatcher.ledger p)) ⊎ (0 < holds p v)
    -- a place whose take-back was lost is ready no more
    pub lost : (k : ℕ) (t : OfferNo) → get_elem? dispatcher.lost k ≡ some t
        → IsPastReady t s.words
    -- the hands are those that are out
    pub hands : (n : ℕ) → total (is_hand n) s.views ≡ times n dispatcher.out
    -- no number serves twice
    pub once : (n : ℕ) → (times n dispatcher.out ≤ times n dispatcher.used)
        × (times n dispatcher.used ≤ 1)
