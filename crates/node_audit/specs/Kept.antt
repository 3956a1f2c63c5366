-- What is kept of the facts of a node.
use Rattle.std.specs.Prelude.{ℕ, ◌≡◌, List, []}
use Rattle.rpc_base.specs.declared.fact.Fact.{Fact}
use Rattle.node_audit.specs.declared.node.NodeAudit.{NodeAudit}
use Rattle.node_audit.specs.declared.node.State.{State}
use Rattle.node_audit.specs.declared.node.State.TheVariants.{Unmade, Goes, Broken}
use Rattle.node_audit.specs.Course.{IsBroken, KeepsCourse}

-- the node has no facts, or they are its Made and a run, maybe with the beginning of a poll, or no
-- run of it begins with them
abbrev pub StandsAt : State → (n : ℕ) → List Fact → Type 0
StandsAt Unmade n g = g ≡ []
StandsAt (Goes c) n g = KeepsCourse c n g
StandsAt Broken n g = IsBroken n g

-- these are the facts of node n so far
pub record Keeps (audit : NodeAudit) (n : ℕ) (g : List Fact) : Type 0 where
  pub node : audit.node ≡ n
  pub stands : StandsAt audit.state n g
