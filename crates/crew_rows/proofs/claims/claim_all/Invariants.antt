-- between two tickets the hand holds no claim
use Rattle.worker_board.specs.Rows.{IsFreeHand}
use Rattle.crew_rows.proofs.claims.claim_all.Given as goal

abbrev pub invariant-loop-place : goal.invariant-loop-place
invariant-loop-place l = IsFreeHand l.fn.board l.seat
