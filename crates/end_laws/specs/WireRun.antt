-- Runs of nodes over wires of which nothing is known but that each datagram that comes was sent
-- before, by its sender to its node: any number of times, late, and in any order.
use Rattle.std.specs.Prelude.{ℕ, ◌≡◌, ◌≤◌, Some, List, [], ◌++◌, slice_get, count_by}
use Rattle.std.specs.List.{slice_set}
use Rattle.rpc_base.specs.declared.fact.Fact.{Fact}
use Rattle.rpc_laws.specs.declared.tables.InFlight.{InFlight}
use Rattle.rpc_laws.specs.declared.tables.Timed.{Timed}
use Rattle.rpc_laws.specs.AtMostOnce.{works_request}
use Rattle.rpc_laws.specs.Deliveries.{Delivers}
use Rattle.rpc_laws.specs.Service.{Answers}
use Rattle.rpc_laws.specs.OwnAnswer.{OwnBy}
use Rattle.end_laws.specs.JointRun.{Party, Joint, nobody, at_node, MakesNode, Acts, PairsNodes}
use Rattle.end_laws.specs.JointRun.{JointRun, services}

-- a datagram that was sent before comes to its node. All that was sent stays on the wire
pub record HearsCopy (s : Joint) (x : List Fact) (t : Joint) : Type 0 where
  pub number : ℕ
  pub copy : InFlight
  pub is_copy : slice_get s.flight number ≡ Some copy
  pub before : Timed
  pub now : Timed
  pub is_node : slice_get s.nodes copy.to ≡ Some before
  pub delivers : Delivers copy.from copy.bytes before x now
  pub left : t ≡ record s { nodes = slice_set s.nodes copy.to now }

pub data WireStep (parties : ℕ → Party) (s : Joint) (x : List Fact) (t : Joint) : Type 0 where
  makes : MakesNode parties s x t → WireStep parties s x t
  acts : Acts parties s x t → WireStep parties s x t
  pairs : PairsNodes s x t → WireStep parties s x t
  hears : HearsCopy s x t → WireStep parties s x t

pub data WireSteps (parties : ℕ → Party) : List Fact → Joint → Type 0 where
  none : WireSteps parties [] nobody
  more : {x : List Fact} {t : Joint} → WireSteps parties x t → (y : List Fact) → (u : Joint)
      → WireStep parties t y u → WireSteps parties (x ++ y) u

-- g is what such nodes note, and t what they are then, with all that was sent so far. No fact of g
-- is a network's
pub record WireRun (parties : ℕ → Party) (g : List Fact) (t : Joint) : Type 0 where
  pub steps : WireSteps parties g t
  pub worked_once : (n session request : ℕ)
      → count_by (λ f. works_request session request f.event) (at_node n g) ≤ 1
  pub answers : (n : ℕ) → Answers (parties n).serving [] (at_node n g)

-- so each wire run has it, whatever the services
abbrev pub OfEveryWireRun : (List Fact → Joint → Type 0) → Type 0
OfEveryWireRun P =
    (parties : ℕ → Party) (g : List Fact) (t : Joint) → WireRun parties g t → P g t

-- each run of a handler is for a call, with the answer of its node's service, and each call ends
-- with its own run's answer
abbrev pub WireAnswersOwn : Type 0
WireAnswersOwn =
    (parties : ℕ → Party) (g : List Fact) (t : Joint) → WireRun parties g t
    → OwnBy (services parties) g

-- a joint run in which each node notes the same
pub record IsJoined (parties : ℕ → Party) (g : List Fact) (t : Joint) : Type 0 where
  pub history : List Fact
  pub run : JointRun parties history t
  pub same : (n : ℕ) → at_node n history ≡ at_node n g

-- over such wires nodes run as in a joint run, whose network repeats each copy before it carries it
abbrev pub WiresJoin : Type 0
WiresJoin =
    (parties : ℕ → Party) (g : List Fact) (t : Joint) → WireRun parties g t → IsJoined parties g t
