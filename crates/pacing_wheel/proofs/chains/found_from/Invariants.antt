-- none was found yet, and the rest of the chain is still to be looked at
use Rattle.std.proofs.Common.{◌≡◌}
use Rattle.std.specs.List.{find}
use Rattle.pacing_wheel.specs.Wheel.{is_entry_of}
use Rattle.pacing_wheel.specs.Chains.{chain_at, chain_of, items_at}
use Rattle.pacing_wheel.proofs.chains.found_from.Given as goal

abbrev pub invariant-loop-left : goal.invariant-loop-left
invariant-loop-left l =
    find (is_entry_of l.owner l.number) (items_at l.links.items (chain_of l.links.items l.fn.ends))
    ≡ find (is_entry_of l.owner l.number) (items_at l.links.items (chain_at l.links.items l.left l.place))

abbrev pub decreases-loop-left : goal.decreases-loop-left
decreases-loop-left l = l.left
