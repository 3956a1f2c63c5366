-- The copies in flight: what was sent and repeated, less what was carried and lost.
use Rattle.std.specs.Prelude.{ℕ, List, [], ◌∷◌, ◌++◌, option_to_list, slice_get}
use Rattle.std.specs.List.{remove}
use Rattle.rpc_base.specs.declared.event.Event.{Event}
use Rattle.rpc_base.specs.declared.event.Event.TheVariants.{Sent, Carried, Lost, Repeated}
use Rattle.rpc_base.specs.declared.fact.Fact.{Fact}
use Rattle.rpc_base.specs.declared.fact.Who.{Who}
use Rattle.rpc_base.specs.declared.fact.Who.TheVariants.{Node, Net}
use Rattle.rpc_laws.specs.declared.tables.InFlight.{InFlight}

-- a node's Sent appends a copy to the peer
abbrev pub flight_after_node : ℕ → Event → List ℕ → List ℕ → List InFlight → List InFlight
flight_after_node n (Sent peer owner k) head body copies =
    copies ++ record { from = n; to = peer; bytes = head ++ body } ∷ []
flight_after_node n _ head body copies = copies

-- Repeated appends one more copy, Carried and Lost take one out
abbrev pub flight_after_net : Event → List InFlight → List InFlight
flight_after_net (Repeated i) copies = copies ++ option_to_list (slice_get copies i)
flight_after_net (Carried i) copies = remove copies i
flight_after_net (Lost i) copies = remove copies i
flight_after_net _ copies = copies

abbrev pub flight_at : Who → Event → List ℕ → List ℕ → List InFlight → List InFlight
flight_at (Node n) e head body copies = flight_after_node n e head body copies
flight_at Net e head body copies = flight_after_net e copies

abbrev pub flight_after : List InFlight → Fact → List InFlight
flight_after copies f = flight_at f.who f.event f.first f.second copies

-- the copies after a list of facts
abbrev pub flight_after_all : List InFlight → List Fact → List InFlight
flight_after_all copies [] = copies
flight_after_all copies (f ∷ fs) = flight_after_all (flight_after copies f) fs
