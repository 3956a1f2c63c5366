-- What the facts of a history so far leave: the clock, the lists of all nodes, and the copies in
-- flight.
use Rattle.std.specs.Prelude.{ℕ, Option, Some, None, List, [], ◌∷◌, slice_get}
use Rattle.rpc_base.specs.declared.event.Event.{Event}
use Rattle.rpc_base.specs.declared.event.Event.TheVariants.{Carried, Heard}
use Rattle.rpc_base.specs.declared.fact.Fact.{Fact}
use Rattle.rpc_base.specs.declared.fact.Who.{Who}
use Rattle.rpc_base.specs.declared.fact.Who.TheVariants.{Node, Net}
use Rattle.rpc_laws.specs.declared.tables.Arrival.{Arrival}
use Rattle.rpc_laws.specs.declared.tables.InFlight.{InFlight}
use Rattle.rpc_laws.specs.declared.tables.Lists.{Lists}
use Rattle.rpc_laws.specs.BufferSafety.{clock_after, nodes_after}
use Rattle.rpc_laws.specs.Endpoints.{Lived, told}
use Rattle.rpc_laws.specs.InFlight.{flight_after}

-- the clock of the world, the lists of each node, the copies in flight, the datagram that was taken
-- last, out of flight to be delivered or out of an inbox to be handled, and the facts so far, the
-- newest first, each with the life that its node had
pub record Moment : Type 0 where
  pub clock : ℕ
  pub nodes : List Lists
  pub flight : List InFlight
  pub hand : Option InFlight
  pub past : List Lived

-- Carried takes the copy of its number
abbrev pub hand_of : Event → List InFlight → Option InFlight → Option InFlight
hand_of (Carried i) copies hand = slice_get copies i
hand_of _ copies hand = hand

-- the control packet at the front of a node's inbox
abbrev pub front_of : ℕ → List Arrival → Option InFlight
front_of n [] = None
front_of n (a ∷ inbox) = Some (record { from = a.peer; to = n; bytes = a.bytes })

abbrev pub inbox_of : Option Lists → List Arrival
inbox_of None = []
inbox_of (Some l) = l.inbox

-- Heard takes that one, and no other fact of a node takes one
abbrev pub hand_noted : ℕ → Event → List Arrival → Option InFlight → Option InFlight
hand_noted n Heard inbox hand = front_of n inbox
hand_noted n _ inbox hand = hand

abbrev pub hand_after : Who → Event → List Lists → List InFlight → Option InFlight → Option InFlight
hand_after (Node n) e nodes copies hand = hand_noted n e (inbox_of (slice_get nodes n)) hand
hand_after Net e nodes copies hand = hand_of e copies hand

-- the moment after one fact more
abbrev pub moved : Moment → Fact → Moment
moved w f = record {
  clock = clock_after f.who f.event w.clock;
  nodes = nodes_after w.clock w.nodes f;
  flight = flight_after w.flight f;
  hand = hand_after f.who f.event w.nodes w.flight w.hand;
  past = told w.past f ∷ w.past;
}

-- before the first fact
abbrev pub first_moment : Moment
first_moment = record { clock = 0; nodes = []; flight = []; hand = None; past = [] }

-- the world's clock and the nodes' lists that some facts leave, the newest first
abbrev pub clock_left : List Lived → ℕ
clock_left [] = 0
clock_left (f ∷ past) = clock_after f.fact.who f.fact.event (clock_left past)

abbrev pub nodes_left : List Lived → List Lists
nodes_left [] = []
nodes_left (f ∷ past) = nodes_after (clock_left past) (nodes_left past) f.fact

-- these facts, each with the life of its node, and then the others before them, the newest first
abbrev pub lived_first : List Lived → List Fact → List Lived
lived_first past [] = past
lived_first past (f ∷ h) = lived_first (told past f ∷ past) h

-- a claim at each moment of a history, before its first fact and after each
abbrev pub Always : (Moment → Type 0) → Moment → List Fact → Type 0
Always P w [] = P w
Always P w (f ∷ h) = P w × Always P (moved w f) h
