-- What was done and answered from the start follows the script.
use Rattle.std.proofs.Common.{List, [], refl}
use Rattle.rpc_base.specs.declared.fact.Fact.{Fact}
use Rattle.script_grammar.specs.declared.line.Line.{Line}
use Rattle.sim_script.specs.FollowsScript.{Follows, FollowsFrom, empty_stage}
use Rattle.rpc_world.specs.Answered.{Plainly, Play, stage_of, totals_of}

pub follows-by : (script : List Line) (h : List Fact) (end : Play)
    → FollowsFrom script empty_stage h (stage_of end) → Plainly h [] (totals_of end) → Follows script h
follows-by script h end p q = (
  stage_of end,
  record { commands = p; answers = λ n. (q.serves n [] refl).0; whole = q.whole },
)
