-- The facts of one node in a history, and what each node's facts are where it follows a script.
use Rattle.std.specs.Prelude.{ℕ, ◌≡◌, Option, Some, None, List, [], ◌∷◌, slice_get}
use Rattle.std.specs.List.{filter}
use Rattle.network_model.specs.declared.stage.Stage.{Stage}
use Rattle.node_laws.specs.NodeRun.{NodeRun}
use Rattle.rpc_base.specs.declared.event.Event.{Event}
use Rattle.rpc_base.specs.declared.event.Event.TheVariants.{Made}
use Rattle.rpc_base.specs.declared.fact.Fact.{Fact}
use Rattle.rpc_laws.specs.declared.tables.Timed.{Timed}
use Rattle.rpc_laws.specs.AtMostOnce.{is_at}
use Rattle.rpc_laws.specs.Facts.{plain}
use Rattle.rpc_laws.specs.Lives.{first_life}
use Rattle.rpc_laws.specs.Service.{plain_serving}
use Rattle.rpc_laws.specs.UsualLimits.{with_ring}

-- the facts of node n, in their order
abbrev pub facts_of : ℕ → List Fact → List Fact
facts_of n h = filter (λ f. is_at n f.who) h

-- these facts are node n's Made, and then a run of a node with this number, the first life and the
-- ring that it was made with. The run leaves the node as t
pub record IsRun (n : ℕ) (facts : List Fact) (t : Timed) : Type 0 where
  pub ring : ℕ
  pub later : List Fact
  pub made : facts ≡ plain n (Made ring) ∷ later
  pub run : NodeRun plain_serving n (with_ring ring) first_life later t

-- node n has no facts, or its facts are its Made and then a run of the plain service's node with
-- that ring, which leaves it somehow
pub data Runs (n : ℕ) (facts : List Fact) : Type 0 where
  nowhere : facts ≡ [] → Runs n facts
  runs : (t : Timed) → IsRun n facts t → Runs n facts

-- so it is for each number
abbrev pub EachRuns : List Fact → Type 0
EachRuns h = (n : ℕ) → Runs n (facts_of n h)

-- a node that isn't there has no facts
abbrev pub RunAt : ℕ → List Fact → Option Timed → Type 0
RunAt n facts (Some t) = IsRun n facts t
RunAt n facts None = facts ≡ []

-- the facts of each number are a run that leaves the stage's node of that number, where it has one
abbrev pub RunsOf : List Fact → Stage → Type 0
RunsOf h end = (n : ℕ) → RunAt n (facts_of n h) (slice_get end.nodes n)

-- the ring that a Made tells of, 0 of any other event
abbrev pub made_ring : Event → ℕ
made_ring (Made ring) = ring
made_ring _ = 0

-- the ring that a node was made with, by its first fact; 0 where it has no facts
abbrev pub ring_of : List Fact → ℕ
ring_of [] = 0
ring_of (f ∷ facts) = made_ring f.event
