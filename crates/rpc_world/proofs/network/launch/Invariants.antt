use Rattle.std.proofs.Common.{◌≡◌, ◌≤◌, take}
use Rattle.rpc_laws.specs.InFlight.{flight_after_all}
use Rattle.rpc_world.proofs.network.launch.Given as goal

abbrev pub invariant-loop-fact : goal.invariant-loop-fact
invariant-loop-fact l =
    (l.flight ≡ flight_after_all l.initial.flight (take l.fact-index l.facts)) × (l.initial.memory ≤ l.memory)
