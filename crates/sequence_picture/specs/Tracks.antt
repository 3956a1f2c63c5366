-- The copies in flight, by the facts that put them there: side by side with `flight_after` of
-- rpc_laws, which has the datagrams themselves.
use Rattle.std.specs.Prelude.{ℕ, ◌+◌, List, [], ◌∷◌, ◌++◌, map, option_to_list, slice_get}
use Rattle.std.specs.List.{remove}
use Rattle.rpc_base.specs.declared.event.Event.{Event}
use Rattle.rpc_base.specs.declared.event.Event.TheVariants.{Sent, Carried, Lost, Repeated}
use Rattle.rpc_base.specs.declared.fact.Fact.{Fact}
use Rattle.rpc_base.specs.declared.fact.Who.{Who}
use Rattle.rpc_base.specs.declared.fact.Who.TheVariants.{Node, Net}
use Rattle.sequence_picture.specs.declared.things.Track.{Track}

-- one more copy of the same datagram, put there by the fact at this place
abbrev pub repeated_at : ℕ → Track → Track
repeated_at place track = record { sent = track.sent; put = place }

-- a node's Sent puts a copy at the end
abbrev pub tracks_after_node : ℕ → Event → List Track → List Track
tracks_after_node place (Sent peer owner number) tracks =
    tracks ++ record { sent = place; put = place } ∷ []
tracks_after_node place _ tracks = tracks

-- Repeated puts one more copy at the end, Carried and Lost take one out
abbrev pub tracks_after_net : ℕ → Event → List Track → List Track
tracks_after_net place (Repeated c) tracks =
    tracks ++ map (repeated_at place) (option_to_list (slice_get tracks c))
tracks_after_net place (Carried c) tracks = remove tracks c
tracks_after_net place (Lost c) tracks = remove tracks c
tracks_after_net place _ tracks = tracks

abbrev pub tracks_by : ℕ → Who → Event → List Track → List Track
tracks_by place (Node n) event tracks = tracks_after_node place event tracks
tracks_by place Net event tracks = tracks_after_net place event tracks

-- the copies after the fact at this place
abbrev pub tracks_after : ℕ → Fact → List Track → List Track
tracks_after place fact tracks = tracks_by place fact.who fact.event tracks

-- the copies after a list of facts, of which the first has this place
abbrev pub tracks_after_all : ℕ → List Fact → List Track → List Track
tracks_after_all place [] tracks = tracks
tracks_after_all place (fact ∷ facts) tracks =
    tracks_after_all (place + 1) facts (tracks_after place fact tracks)

-- the copies after a history
abbrev pub tracks_of : List Fact → List Track
tracks_of history = tracks_after_all 0 history []
