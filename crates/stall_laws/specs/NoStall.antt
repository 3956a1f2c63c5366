-- No silent stall: at each end of a command at which the history is settled, each call that isn't
-- over has its cause.
use Rattle.std.specs.Prelude.{◌≡◌, List, ◌++◌}
use Rattle.rpc_base.specs.declared.fact.Fact.{Fact}
use Rattle.script_grammar.specs.declared.line.Line.{Line}
use Rattle.sim_script.specs.FollowsScript.{Follows}
use Rattle.stall_laws.specs.Caused.{Caused}
use Rattle.stall_laws.specs.Settled.{IsSettled}

-- the facts of h by the end of the commands done, which have their causes where they are settled
pub record NoStallBy (done : List Line) (h : List Fact) : Type 0 where
  pub facts : List Fact
  pub later : List Fact
  pub parted : h ≡ facts ++ later
  pub follows : Follows done facts
  pub caused : IsSettled facts → Caused facts

-- so it is at the end of each command of the script
abbrev pub NoStall : List Line → List Fact → Type 0
NoStall script h = (done left : List Line) → script ≡ done ++ left → NoStallBy done h
