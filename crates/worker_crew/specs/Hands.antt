-- The words on hands: what names one, and what one knows.
use Rattle.std.specs.Prelude.{◌≡◌, ◌⊎◌, ℕ, List, ◌∷◌}
use Rattle.place_queue.specs.declared.knows.Numbered.{Numbered}
use Rattle.place_queue.specs.Ends.{take_end, taken_by}
use Rattle.worker_board.specs.Tickets.{OfferNo}
use Rattle.worker_board.specs.declared.view.View.{View}
use Rattle.worker_board.specs.Seats.{hand_board, number_at, hand_view}
use Rattle.worker_crew.specs.declared.hand.Hand.{Hand}
use Rattle.worker_crew.specs.CrewIds.{CrewId}

-- a hand is named by its crew's board and queue, and by its number among the crew's hands
pub record HandName : Type 0 where
  pub board : CrewId
  pub number : ℕ

module _ {D : Type 0} where
  abbrev pub name_of : Hand D → HandName
  name_of h = record {
    board = record { board = hand_board h.seat; queue = take_end h.taker };
    number = number_at h.seat;
  }

  -- what the hand knows
  abbrev pub knows : Hand D → View
  knows h = hand_view h.seat

  -- the tickets that it took, with their numbers
  abbrev pub took : Hand D → List Numbered
  took h = taken_by h.taker

-- the ticket was claimed, and its job worked and finished
abbrev pub WorkedOne : View → View → Type 0
WorkedOne old new = (t : OfferNo) × (new ≡ record old { runs = t ∷ old.runs })

-- there was no ticket, or its claim was lost
abbrev pub WorkedNone : View → View → Type 0
WorkedNone old new = (new ≡ old) ⊎ ((t : OfferNo) × (new ≡ record old { lost = t ∷ old.lost }))
