-- What the facts of each node are where nodes run together.
use Rattle.std.specs.Prelude.{ℕ, ◌≡◌, Option, Some, None, List, [], ◌∷◌, slice_get}
use Rattle.end_laws.specs.JointRun.{Party, Joint, JointRun, OfEveryJointRun, limits_of, usual_party}
use Rattle.end_laws.specs.TwoNodes.{PairsTwoNodes}
use Rattle.end_laws.specs.WireRun.{OfEveryWireRun}
use Rattle.network_model.specs.declared.stage.Stage.{Stage}
use Rattle.node_laws.specs.NodeRun.{NodeRun}
use Rattle.node_laws.specs.UsedOnce.{UsedOnce}
use Rattle.rpc_base.specs.declared.event.Event.TheVariants.{Made}
use Rattle.rpc_base.specs.declared.fact.Fact.{Fact}
use Rattle.rpc_laws.specs.declared.tables.Timed.{Timed}
use Rattle.rpc_laws.specs.AtMostOnce.{Once}
use Rattle.rpc_laws.specs.Endpoints.{EachLife}
use Rattle.rpc_laws.specs.Facts.{plain}
use Rattle.rpc_laws.specs.Lives.{first_life}
use Rattle.script_grammar.specs.declared.line.Line.{Line}
use Rattle.sim_script.specs.FollowsScript.{Follows}
use Rattle.world_laws.specs.CallOrder.{CallsInOrder}
use Rattle.world_laws.specs.FewCredits.{PairsFewCredits}
use Rattle.world_laws.specs.NeverRestarts.{NeverRestarts}
use Rattle.world_laws.specs.NodeFacts.{facts_of}
use Rattle.world_laws.specs.OneCall.{OneCall}

-- these facts are node n's Made, and then a run of a node with this number, the ring that it was
-- made with, and the party's limits and service. The run leaves the node as t
pub record IsPartyRun (p : Party) (n : ℕ) (facts : List Fact) (t : Timed) : Type 0 where
  pub ring : ℕ
  pub later : List Fact
  pub made : facts ≡ plain n (Made ring) ∷ later
  pub run : NodeRun p.serving n (limits_of p ring) first_life later t

abbrev pub PartyRunAt : Party → ℕ → List Fact → Option Timed → Type 0
PartyRunAt p n facts (Some t) = IsPartyRun p n facts t
PartyRunAt p n facts None = facts ≡ []

-- the facts of each number are such a run, which leaves the node as the joint run does; a number
-- that is no node's has none
abbrev pub JointRunsNodes : Type 0
JointRunsNodes =
    (parties : ℕ → Party) (h : List Fact) (t : Joint) → JointRun parties h t
    → (n : ℕ) → PartyRunAt (parties n) n (facts_of n h) (slice_get t.nodes n)

-- a node's call numbers, session numbers and the requests of a session are used once
abbrev pub JointNumbersAreUsedOnce : Type 0
JointNumbersAreUsedOnce = OfEveryJointRun (λ h t. EachLife UsedOnce h)

-- no request runs twice at a node, and no call begins or ends twice
abbrev pub JointHappensAtMostOnce : Type 0
JointHappensAtMostOnce = OfEveryJointRun (λ h t. EachLife Once h)

-- each run of a handler is for one call, and each call has one at most
abbrev pub JointCallsRunOnce : Type 0
JointCallsRunOnce = OfEveryJointRun (λ h t. OneCall h)

-- each call that ends with an answer, or for want of room for one, was asked, begun, run and ended
-- in this order
abbrev pub JointCallsAreInOrder : Type 0
JointCallsAreInOrder = OfEveryJointRun (λ h t. CallsInOrder h)

-- so it is over wires to which only what was sent comes
abbrev pub WireCallsRunOnce : Type 0
WireCallsRunOnce = OfEveryWireRun (λ g t. OneCall g)

abbrev pub WireCallsAreInOrder : Type 0
WireCallsAreInOrder = OfEveryWireRun (λ g t. CallsInOrder g)

-- a stage without its world: the nodes and the copies
abbrev pub joint_of : Stage → Joint
joint_of s = record { nodes = s.nodes; flight = s.flight }

-- a history that follows a script in which no node is restarted is a joint run of usual nodes
abbrev pub FollowsJointly : Type 0
FollowsJointly =
    (script : List Line) (h : List Fact) → PairsTwoNodes script → PairsFewCredits script
    → NeverRestarts script → (f : Follows script h) → JointRun (λ n. usual_party) h (joint_of f.0)
