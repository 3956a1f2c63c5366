-- a take leaves the hands as they are
use Rattle.worker_crew.specs.Crews.{SameHands}
use Rattle.crew_rows.proofs.crews.take_one.Given as goal

abbrev pub invariant-loop : goal.invariant-loop
invariant-loop g l = SameHands l.fn.crew l.crew
