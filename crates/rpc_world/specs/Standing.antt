-- The endpoints that a script left: each stands for its node's facts of the present life.
use Rattle.std.specs.Prelude.{◌≡◌, ◌⊎◌, ℕ, Option, Some, None, List, [], ◌∷◌, ◌++◌, slice_get}
use Rattle.endpoint_loop.specs.PlainMembers.{plain_members}
use Rattle.endpoint_loop.specs.Stands.{StandsFor}
use Rattle.node_laws.specs.NodeRun.{NodeRun}
use Rattle.rpc_base.specs.declared.event.Event.TheVariants.{Made, Restarted}
use Rattle.rpc_base.specs.declared.fact.Fact.{Fact}
use Rattle.rpc_laws.specs.Facts.{plain}
use Rattle.rpc_laws.specs.Lives.{first_life}
use Rattle.rpc_laws.specs.Service.{plain_serving}
use Rattle.rpc_laws.specs.UsualLimits.{with_ring}
use Rattle.rpc_world.specs.Answered.{End, told_end}
use Rattle.rpc_world.specs.Before.{local_members}
use Rattle.world_laws.specs.NodeFacts.{facts_of}

-- facts of the lives of node n before this one, from the first on: there are none, or the last of
-- them is the Restarted by which this life begins
abbrev pub AreOver : (n first life : ℕ) → List Fact → Type 0
AreOver n first life older =
    ((older ≡ []) × (life ≡ first))
    ⊎ ((before : List Fact) × (older ≡ before ++ plain n (Restarted life) ∷ []))

-- the facts of node n in a history are its Made, those of its older lives, and then those for which
-- its endpoint stands, with the ring that it was made with. All but the Made are a run of the node
pub record StandsAt (n : ℕ) (h : List Fact) (e : End) : Type 0 where
  pub ring : ℕ
  pub older : List Fact
  pub last : List Fact
  pub made : facts_of n h ≡ plain n (Made ring) ∷ older ++ last
  pub over : AreOver n first_life e.timed.lists.life older
  pub run : NodeRun plain_serving n (with_ring ring) first_life (older ++ last) (told_end e)
  pub stands : StandsFor plain_members local_members (with_ring ring) last e

-- a node that isn't there has no facts
abbrev pub StandsIf : ℕ → List Fact → Option End → Type 0
StandsIf n h None = facts_of n h ≡ []
StandsIf n h (Some e) = StandsAt n h e

-- so it is of each number
abbrev pub AllStand : List Fact → List End → Type 0
AllStand h ends = (n : ℕ) → StandsIf n h (slice_get ends n)
