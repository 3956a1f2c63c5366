-- The one history of a script, and the one stage that it leaves.
use Rattle.std.specs.Prelude.{◌≡◌, List}
use Rattle.network_model.specs.declared.stage.Stage.{Stage}
use Rattle.rpc_base.specs.declared.fact.Fact.{Fact}
use Rattle.script_grammar.specs.declared.line.Line.{Line}
use Rattle.sim_script.specs.FollowsScript.{Follows, FollowsTo}

-- two histories that follow one script are the same
abbrev pub HasOneHistory : List Line → Type 0
HasOneHistory script = (h g : List Fact) → Follows script h → Follows script g → h ≡ g

-- the script leads to this stage
abbrev pub Leaves : List Line → Stage → Type 0
Leaves script end = (h : List Fact) × FollowsTo script h end

-- two stages to which one script leads have the same nodes, copies, worked jobs and clock
abbrev pub LeavesOneStage : List Line → Type 0
LeavesOneStage script = (s t : Stage) → Leaves script s → Leaves script t → s ≡ t

-- the history follows some script
abbrev pub HasScript : List Fact → Type 0
HasScript h = (script : List Line) × Follows script h
