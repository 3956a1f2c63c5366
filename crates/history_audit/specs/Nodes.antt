-- What is kept of each node's own facts.
use Rattle.std.specs.Prelude.{ℕ, ◌≡◌, ◌≤◌, Some, List, [], slice_get}
use Rattle.history_audit.specs.declared.numbers.TheConstants.{NODES}
use Rattle.node_audit.specs.Kept.{Keeps}
use Rattle.node_audit.specs.declared.node.NodeAudit.{NodeAudit}
use Rattle.rpc_base.specs.declared.fact.Fact.{Fact}
use Rattle.world_laws.specs.NodeFacts.{facts_of}

-- each of these keeps the facts of the node of its number, and there are no others
pub record KeepsEach (nodes : List NodeAudit) (h : List Fact) : Type 0 where
  pub each : (n : ℕ) (a : NodeAudit) → slice_get nodes n ≡ Some a → Keeps a n (facts_of n h)
  pub others : (n : ℕ) → NODES ≤ n → facts_of n h ≡ []
