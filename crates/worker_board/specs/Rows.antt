-- The words of the tests: places that are offered one after another.
use Rattle.std.specs.Prelude.{◌≡◌, ℕ, ◌<◌, ◌≤◌, [], ◌∷◌, length}
use Rattle.worker_board.specs.Tickets.{OfferNo}
use Rattle.worker_board.specs.declared.Parcel.{Parcel}
use Rattle.worker_board.specs.declared.board.Board.{Board}
use Rattle.worker_board.specs.declared.board.HandSeat.{HandSeat}
use Rattle.worker_board.specs.declared.view.View.{View}
use Rattle.worker_board.specs.Word.{job_of, offers_at}
use Rattle.worker_board.specs.Moves.{claim}
use Rattle.worker_board.specs.Seats.{IsOffered, IsHandOf, hand_view, HoldsNone}

-- of this many places those below n were offered, and no other
pub record IsOfferedBelow (n places : ℕ) (v : View) : Type 0 where
  pub long : length v.ledger ≡ places
  pub below : (p : ℕ) → p < n → IsOffered v p
  pub others : (p : ℕ) → n ≤ p → p < places → offers_at v.ledger p ≡ []

-- of this many places those from n on are offered
pub record IsOfferedFrom (n places : ℕ) (v : View) : Type 0 where
  pub from : (p : ℕ) → n ≤ p → p < places → IsOffered v p

-- the view holds the claim of this ticket and no other
abbrev pub IsOnlyClaim : View → OfferNo → Parcel → Type 0
IsOnlyClaim v t x = v.held ≡ claim t.place t.generation (job_of x) ∷ []

-- the hand is this board's and holds no claim
pub record IsFreeHand {D : Type 0} (b : Board D) (h : HandSeat) : Type 0 where
  pub is_of : IsHandOf b h
  pub free : HoldsNone (hand_view h)
