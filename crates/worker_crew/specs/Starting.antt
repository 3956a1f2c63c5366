-- How the hands of a crew go out and come back.
use Rattle.std.specs.Prelude.{◌≡◌, ◌+◌, ◌≤◌, ℕ, List, ◌++◌, length}
use Rattle.worker_board.specs.Counts.{times}
use Rattle.worker_crew.specs.CrewIds.{CrewId}
use Rattle.worker_crew.specs.Crews.{AreOut}
use Rattle.worker_crew.specs.Dispatching.{Dispatching}
use Rattle.worker_crew.specs.Hands.{HandName}

-- the same jobs on the same board, and the same tickets put
pub record SameJobs (old new : Dispatching) : Type 0 where
  pub board : new.board ≡ old.board
  pub places : new.places ≡ old.places
  pub given : new.given ≡ old.given
  pub busy : new.busy ≡ old.busy
  pub ledger : new.view.ledger ≡ old.view.ledger
  pub lost : new.view.lost ≡ old.view.lost
  pub put : new.put ≡ old.put

-- so many hands were made, with the numbers from 0 on, and these are all that are out
pub record HaveGoneOut (count : ℕ) (hands : List HandName) (old new : Dispatching) : Type 0 where
  pub jobs : SameJobs old new
  pub out : AreOut new.board new.view.out hands
  pub many : length hands ≡ count
  pub used : length new.view.used ≡ count
  pub free : (n : ℕ) → count ≤ n → times n new.view.used ≡ 0

-- of these hands some are out with a spawner, and the others were handed back
pub record Shared (made out kept : List HandName) : Type 0 where
  pub many : length out + length kept ≡ length made
  pub hands : (board : CrewId) (numbers : List ℕ) → AreOut board numbers made
      → AreOut board numbers (out ++ kept)
