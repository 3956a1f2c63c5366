-- the places before this one are offered, and no other, and no memory was refused
use Rattle.std.proofs.Common.{◌≡◌}
use Rattle.worker_board.specs.Seats.{IsSeatOf, view_of}
use Rattle.worker_board.specs.Rows.{IsOfferedBelow}
use Rattle.crew_rows.proofs.claims.offer_all.Given as goal

abbrev pub invariant-loop-place : goal.invariant-loop-place
invariant-loop-place l = IsSeatOf l.fn.board l.seat × IsOfferedBelow l.place l.tickets (view_of l.seat)
    × (l.memory ≡ l.fn.memory)
