use Rattle.std.proofs.Common.{◌≤◌}
use Rattle.sim_script.specs.FollowsScript.{WorksFirst}
use Rattle.rpc_world.specs.Performed.{Performed}
use Rattle.rpc_world.proofs.settling.work_first.Given as goal

abbrev pub invariant-workers : goal.invariant-workers
invariant-workers l =
    Performed (WorksFirst l.i) l.initial.stage l.stage l.initial.rec.facts.items l.rec.facts.items
    × (l.initial.memory ≤ l.memory)
