-- the least so far and the least of the rest give the least of all
use Rattle.std.proofs.Common.{◌≡◌}
use Rattle.rpc_base.specs.Least.{least_number}
use Rattle.rpc_base.proofs.LeastLemmas.{lesser}
use Rattle.pacing_wheel.specs.Wheel.{is_of, number_of}
use Rattle.pacing_wheel.specs.Chains.{chain_at, chain_of, items_at}
use Rattle.pacing_wheel.proofs.chains.least_from.Given as goal

abbrev pub invariant-loop-left : goal.invariant-loop-left
invariant-loop-left l =
    least_number (is_of l.owner) number_of (items_at l.links.items (chain_of l.links.items l.fn.ends))
    ≡ lesser l.least (least_number (is_of l.owner) number_of
    (items_at l.links.items (chain_at l.links.items l.left l.place)))

abbrev pub decreases-loop-left : goal.decreases-loop-left
decreases-loop-left l = l.left
