use Rattle.std.proofs.Common.{◌≤◌, take, []}
use Rattle.sim_script.specs.FollowsScript.{FollowsFrom, empty_stage}
use Rattle.rpc_world.specs.Answered.{Plainly, stage_of, totals_of}
use Rattle.rpc_world.proofs.LineLemmas.{Stands}
use Rattle.rpc_world.proofs.world.World.play.Given as goal

abbrev pub invariant-loop-line : goal.invariant-loop-line
invariant-loop-line l =
    FollowsFrom (take l.line-index l.line-items) empty_stage l.rec.facts.items (stage_of l.stage)
    × Plainly l.rec.facts.items [] (totals_of l.stage) × Stands l.line-items l.line-index l.stage
    × (l.initial.memory ≤ l.memory)
