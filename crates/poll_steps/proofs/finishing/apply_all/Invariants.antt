use Rattle.std.proofs.Common.{◌≡◌, ◌≤◌, ◌-◌, length, take}
use Rattle.rpc_laws.specs.NodeLists.{after_all}
use Rattle.poll_steps.proofs.finishing.apply_all.Given as goal

abbrev pub invariant-facts : goal.invariant-facts
invariant-facts l =
    (l.count ≤ length l.facts) × (l.lists ≡ after_all l.clock l.initial.lists (take l.count l.facts))
    × (l.memory ≡ l.initial.memory)

abbrev pub decreases-facts : goal.decreases-facts
decreases-facts l = length l.facts - l.count
