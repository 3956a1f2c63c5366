-- no call sends a hand out or takes one in
use Rattle.worker_crew.specs.Crews.{SameHands}
use Rattle.crew_rows.proofs.crews.call_all.Given as goal

abbrev pub invariant-loop-line : goal.invariant-loop-line
invariant-loop-line g l =
    (goal.iterator-loop-line g).can_next l.line-iterator
    × (goal.iterator-loop-line g).is_finite l.line-iterator
    × SameHands l.fn.crew l.crew
