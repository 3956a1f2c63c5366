-- What a crew's dispatcher keeps: the jobs that are out, and what it knows.
use Rattle.std.specs.Prelude.{◌≡◌, ◌+◌, ◌-◌, ◌≤◌, ℕ, List, ◌++◌, length, map, take, reverse}
use Rattle.std.specs.Prelude.{slice_index}
use Rattle.place_queue.specs.declared.knows.Numbered.{Numbered}
use Rattle.place_queue.specs.declared.queue.PlaceQueue.{PlaceQueue}
use Rattle.place_queue.specs.declared.queue.Putter.{Putter}
use Rattle.place_queue.specs.Ends.{queue_of, room_of, put_end, ends_out}
use Rattle.rpc_base.specs.declared.limits.TheConstants.{MOST_GIVEN}
use Rattle.worker_board.specs.declared.view.View.{View}
use Rattle.worker_board.specs.Tickets.{OfferNo, offer_no}
use Rattle.worker_board.specs.Seats.{generation}
use Rattle.worker_board.specs.Word.{offers_at}
use Rattle.worker_crew.specs.CrewIds.{CrewId}
use Rattle.worker_crew.specs.Jobs.{Job}
use Rattle.worker_crew.specs.Places.{jobs_at, HasRoomAt, IsKept}

pub record Dispatching : Type 0 where
  -- the crew's board and queue
  pub board : CrewId
  pub places : ℕ
  -- how many jobs were given
  pub given : ℕ
  -- the places of the jobs that are out, in the order of giving
  pub busy : List ℕ
  -- what the dispatcher's seat knows
  pub view : View
  -- the tickets that it put into the queue, in order
  pub put : List OfferNo
  -- the tickets that the hands took that are back, with their numbers
  pub told : List Numbered

-- the jobs given and not taken, in the order of giving
abbrev pub jobs_in : Dispatching → List Job
jobs_in s = jobs_at s.view.ledger s.busy

-- the place of the job that stands at i in the order of giving
abbrev pub place_at : ℕ → Dispatching → ℕ
place_at i s = slice_index s.busy i

-- the ticket of a place's newest offer
abbrev pub ticket_at : View → ℕ → OfferNo
ticket_at v p = offer_no p (generation v p)

-- the tickets of the jobs given and not taken, in the order of giving
abbrev pub tickets_of : Dispatching → List OfferNo
tickets_of s = map (ticket_at s.view) s.busy

-- that of the job given last
abbrev pub newest_ticket : Dispatching → OfferNo
newest_ticket s = ticket_at s.view (place_at (length s.busy - 1) s)

-- how often a job was looked at and found unfinished
abbrev pub looks_in : Dispatching → ℕ
looks_in s = length s.view.misses

-- with the free places, and how many places the lists of free and busy ones have room for
pub record IsSound (answer : ℕ → List ℕ → List ℕ) (s : Dispatching) (free : List ℕ)
    (free_room busy_room : ℕ) : Type 0 where
  pub kept : IsKept s.places s.given s.view.ledger free s.busy
  pub fits : (p : ℕ) → HasRoomAt answer (offers_at s.view.ledger p)
  pub all : length free + length s.busy ≡ s.places
  pub rooms : (s.places ≤ free_room) × (s.places ≤ busy_room)
  pub few : s.given ≤ MOST_GIVEN

-- the dispatcher's end of the queue, which has room for a ticket of each place: a hand's end of it
-- is out for each hand that is out
pub record HoldsEnd (queue : PlaceQueue) (putter : Putter) (places : ℕ) (out : List ℕ)
    : Type 0 where
  pub ours : put_end putter ≡ queue_of queue
  pub room : room_of queue ≡ places
  pub ends : ends_out putter ≡ length out

-- the first so many jobs, in the order of giving, were looked at and found unfinished
pub record FoundUnfinishedJobs (count : ℕ) (old new : Dispatching) : Type 0 where
  pub board : new.board ≡ old.board
  pub places : new.places ≡ old.places
  pub given : new.given ≡ old.given
  pub busy : new.busy ≡ old.busy
  pub ledger : new.view.ledger ≡ old.view.ledger
  pub lost : new.view.lost ≡ old.view.lost
  pub out : new.view.out ≡ old.view.out
  pub looks : looks_in new ≡ looks_in old + count
  pub misses : new.view.misses
      ≡ reverse (map (ticket_at old.view) (take count old.busy)) ++ old.view.misses
  pub put : new.put ≡ old.put
  pub told : new.told ≡ old.told

-- each job was looked at, in the order of giving, and found unfinished
abbrev pub MissedEach : Dispatching → Dispatching → Type 0
MissedEach old new = new.view.misses ≡ reverse (tickets_of old) ++ old.view.misses

-- the same board and queue, with the same hands out, and as many jobs given and tickets put
pub record SameCrew (old new : Dispatching) : Type 0 where
  pub board : new.board ≡ old.board
  pub places : new.places ≡ old.places
  pub given : new.given ≡ old.given
  pub out : new.view.out ≡ old.view.out
  pub put : new.put ≡ old.put
  pub told : new.told ≡ old.told
