-- The receive ring and the inbox, as the facts leave them, are never longer than their room.
use Rattle.std.specs.Prelude.{ℕ, ◌≤◌, List, [], ◌∷◌, length}
use Rattle.rpc_base.specs.declared.fact.Fact.{Fact}
use Rattle.rpc_laws.specs.declared.tables.Arrival.{Arrival}
use Rattle.rpc_laws.specs.Deliveries.{inbox_room}
use Rattle.rpc_laws.specs.Queues.{ring_after, inbox_after}

-- at the first of these moments, and after each further fact
abbrev pub RingWithin : ℕ → List Arrival → List Fact → Type 0
RingWithin room ring [] = length ring ≤ room
RingWithin room ring (f ∷ g) =
    (length ring ≤ room) × RingWithin room (ring_after f.event f.first ring) g

-- the inbox has room for 64
abbrev pub InboxWithin : List Arrival → List Fact → Type 0
InboxWithin inbox [] = length inbox ≤ inbox_room
InboxWithin inbox (f ∷ g) =
    (length inbox ≤ inbox_room) × InboxWithin (inbox_after f.event f.first inbox) g
