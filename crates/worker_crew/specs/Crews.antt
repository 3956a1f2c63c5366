-- A crew: its dispatcher, and its hands.
use Rattle.std.specs.Prelude.{◌≡◌, ◌+◌, ◌≤◌, ℕ, Bool, true, false, List, [], ◌∷◌, ◌++◌, length, map}
use Rattle.std.specs.Prelude.{Option, None, Some}
use Rattle.rpc_base.specs.Totals.{only, total}
use Rattle.worker_board.specs.declared.Parcel.{Parcel}
use Rattle.worker_board.specs.Counts.{times}
use Rattle.worker_board.specs.Tickets.{OfferNo}
use Rattle.worker_crew.specs.CrewIds.{CrewId}
use Rattle.worker_crew.specs.Hands.{HandName, name_of}
use Rattle.worker_crew.specs.Places.{TookNoneBack}
use Rattle.worker_crew.specs.Dispatching.{Dispatching, newest_ticket}
use Rattle.worker_crew.specs.Waiting.{WaitsForRoom, WentOut}
use Rattle.worker_crew.specs.declared.hand.Hand.{Hand}
use Rattle.worker_crew.specs.declared.manner.Manner.{Manner}
use Rattle.worker_crew.specs.declared.manner.Manner.TheVariants.{Alone, ByHands}

pub record CrewState : Type 0 where
  pub dispatching : Dispatching
  -- whether hands were started
  pub by_hands : Bool
  -- the hands that were handed back and stay with the crew
  pub kept : List HandName
  -- the tickets that found the queue full and wait with the crew, oldest first
  pub later : List OfferNo

module _ {D : Type 0} where
  abbrev pub names : List (Hand D) → List HandName
  names hands = map (λ (h : Hand D). name_of h) hands

  abbrev pub has_hands : Manner D → Bool
  has_hands (Alone duty) = false
  has_hands (ByHands kept) = true

  abbrev pub kept_by : Manner D → List HandName
  kept_by (Alone duty) = []
  kept_by (ByHands kept) = names kept.items

-- the hands are all of this crew
abbrev pub AllOn : CrewId → List HandName → Type 0
AllOn board [] = Unit {0}
AllOn board (x ∷ xs) = (x.board ≡ board) × AllOn board xs

-- how many of the hands have the number
abbrev pub numbered : ℕ → List HandName → ℕ
numbered n hands = total (λ (x : HandName). only n x.number) hands

-- these are the hands of a crew that are out by its dispatcher's view, and no others
pub record AreOut (board : CrewId) (out : List ℕ) (hands : List HandName) : Type 0 where
  pub ours : AllOn board hands
  pub counts : (n : ℕ) → numbered n hands ≡ times n out

-- the hands of workers: the board that they work for, the numbers of those that are out by its
-- dispatcher, and those that stay with the workers
pub record Team : Type 0 where
  pub board : CrewId
  pub out : List ℕ
  pub kept : List HandName

abbrev pub team_of : CrewState → Option Team
team_of c = Some (record {
  board = c.dispatching.board;
  out = c.dispatching.view.out;
  kept = c.kept;
})

-- these are the hands of a crew that were started
abbrev pub AreStarted : CrewState → List HandName → Type 0
AreStarted c hands = AreOut c.dispatching.board c.dispatching.view.out (hands ++ c.kept)

-- what a crew keeps to: by itself it has no hand out; beside hands it takes no job back; no more
-- tickets are put or wait than jobs were given, and they wait only for room
pub record KeepsTo (c : CrewState) : Type 0 where
  pub alone : c.by_hands ≡ false → c.dispatching.view.out ≡ []
  pub beside : c.by_hands ≡ true → TookNoneBack c.dispatching.view
  pub few : length c.dispatching.put + length c.later ≤ c.dispatching.given
  pub behind : WaitsForRoom c.dispatching.places c.dispatching.put c.later

-- the ticket of the job given last was put, or waits
abbrev pub GaveTicket : CrewState → CrewState → Type 0
GaveTicket old new = WentOut old.dispatching.places (newest_ticket new.dispatching)
    old.dispatching.put old.later new.dispatching.put new.later

-- no ticket came or went
abbrev pub SameTickets : CrewState → CrewState → Type 0
SameTickets old new = (new.dispatching.put ≡ old.dispatching.put) × (new.later ≡ old.later)

-- a crew doesn't tell which of its jobs wait, nor which are worked
abbrev pub untold : CrewState → Option (List Parcel)
untold c = None

-- the same hands, of the same crew
pub record SameHands (old new : CrewState) : Type 0 where
  pub board : new.dispatching.board ≡ old.dispatching.board
  pub out : new.dispatching.view.out ≡ old.dispatching.view.out
  pub by_hands : new.by_hands ≡ old.by_hands
  pub kept : new.kept ≡ old.kept
