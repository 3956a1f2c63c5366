-- no call sends a hand out or takes one in, and the kept hand keeps its name
use Rattle.std.proofs.Common.{◌≡◌, map, option_to_list}
use Rattle.worker_crew.specs.Crews.{SameHands}
use Rattle.worker_crew.specs.Hands.{name_of}
use Rattle.crew_rows.proofs.kept.call_all.Given as goal

abbrev pub invariant-loop-line : goal.invariant-loop-line
invariant-loop-line g l =
    (goal.iterator-loop-line g).can_next l.line-iterator
    × (goal.iterator-loop-line g).is_finite l.line-iterator
    × SameHands l.fn.crew l.crew
    × (map (λ (h : _). name_of h) (option_to_list l.keeper.hand)
    ≡ map (λ (h : _). name_of h) (option_to_list l.fn.keeper.hand))
