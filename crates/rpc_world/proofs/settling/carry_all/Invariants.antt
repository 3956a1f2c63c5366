use Rattle.std.proofs.Common.{◌≤◌}
use Rattle.sim_script.specs.FollowsScript.{Carries, Times}
use Rattle.rpc_world.specs.Performed.{Performed}
use Rattle.rpc_world.proofs.settling.carry_all.Given as goal

abbrev pub invariant-copies : goal.invariant-copies
invariant-copies l =
    Performed (Times (Carries 0) l.i) l.initial.stage l.stage l.initial.rec.facts.items l.rec.facts.items
    × (l.initial.memory ≤ l.memory)
