-- How a fact of a node is written: its event, with no bytes, one piece of bytes, or two.
use Rattle.std.specs.Prelude.{ℕ, List, []}
use Rattle.rpc_base.specs.declared.event.Event.{Event}
use Rattle.rpc_base.specs.declared.fact.Fact.{Fact}
use Rattle.rpc_base.specs.declared.fact.Who.TheVariants.{Node, Net}

abbrev pub plain : ℕ → Event → Fact
plain me e = record { who = Node me; event = e; first = []; second = [] }

abbrev pub with_bytes : ℕ → Event → List ℕ → Fact
with_bytes me e bytes = record { who = Node me; event = e; first = bytes; second = [] }

abbrev pub with_two : ℕ → Event → List ℕ → List ℕ → Fact
with_two me e first second = record { who = Node me; event = e; first = first; second = second }

-- a fact of the network
abbrev pub of_net : Event → Fact
of_net e = record { who = Net; event = e; first = []; second = [] }
