-- the places from this one on are offered
use Rattle.worker_board.specs.Seats.{IsSeatOf, places_of, view_of}
use Rattle.worker_board.specs.Rows.{IsOfferedFrom}
use Rattle.crew_rows.proofs.claims.collect_all.Given as goal

abbrev pub invariant-loop-place : goal.invariant-loop-place
invariant-loop-place l = IsSeatOf l.fn.board l.seat × IsOfferedFrom l.place (places_of l.fn.board) (view_of l.seat)
