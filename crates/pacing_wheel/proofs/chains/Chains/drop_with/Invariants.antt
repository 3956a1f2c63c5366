-- the entries looked at so far stand behind the rest again, but for the one that is dropped
use Rattle.pacing_wheel.specs.Wheel.{is_entry_of}
use Rattle.pacing_wheel.proofs.TurningLemmas.{Turned}
use Rattle.pacing_wheel.proofs.chains.Chains.drop_with.Given as goal

abbrev pub invariant-loop-left : goal.invariant-loop-left
invariant-loop-left l =
    Turned (is_entry_of l.owner l.number) l.place l.initial.self l.self l.left l.dropped

abbrev pub decreases-loop-left : goal.decreases-loop-left
decreases-loop-left l = l.left
