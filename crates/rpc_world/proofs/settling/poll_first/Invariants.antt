use Rattle.std.proofs.Common.{◌≤◌}
use Rattle.sim_script.specs.FollowsScript.{PollsFirst}
use Rattle.rpc_world.specs.Performed.{Performed}
use Rattle.rpc_world.proofs.settling.poll_first.Given as goal

abbrev pub invariant-nodes : goal.invariant-nodes
invariant-nodes l =
    Performed (PollsFirst l.i) l.initial.stage l.stage l.initial.rec.facts.items l.rec.facts.items
    × (l.initial.memory ≤ l.memory)
