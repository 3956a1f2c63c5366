-- What the picture of a history shows.
use Rattle.std.specs.Prelude.{ℕ, ◌+◌, Bool, true, false, if◌then◌else◌, List, [], ◌∷◌, ◌++◌, map}
use Rattle.std.specs.Prelude.{option_to_list, slice_get}
use Rattle.rpc_base.specs.declared.event.Event.{Event}
use Rattle.rpc_base.specs.declared.event.Event.TheVariants.{Made, PairedClient, PairedServer, Begun}
use Rattle.rpc_base.specs.declared.event.Event.TheVariants.{Posted, Flushed, Sent, Arrived, Heard}
use Rattle.rpc_base.specs.declared.event.Event.TheVariants.{Took, Polled, Missed, Carried, Lost}
use Rattle.rpc_base.specs.declared.event.Event.TheVariants.{Repeated, Ticked}
use Rattle.rpc_base.specs.declared.fact.Fact.{Fact}
use Rattle.rpc_base.specs.declared.fact.Who.{Who}
use Rattle.rpc_base.specs.declared.fact.Who.TheVariants.{Node, Net}
use Rattle.sequence_picture.specs.declared.things.Drawn.{Drawn}
use Rattle.sequence_picture.specs.declared.things.Drawn.TheVariants.{Copy, Mark}
use Rattle.sequence_picture.specs.declared.things.End.{End}
use Rattle.sequence_picture.specs.declared.things.End.TheVariants as ends
use Rattle.sequence_picture.specs.declared.things.Track.{Track}
use Rattle.sequence_picture.specs.Arrival.{arrives_at}
use Rattle.sequence_picture.specs.Tracks.{tracks_after}

-- an event of a node is drawn by itself, but where it only makes a node or a pair, moves packets
-- between its queues and rings, or is a datagram's, which is drawn as a line
abbrev pub is_marked : Event → Bool
is_marked (Made a) = false
is_marked (PairedClient a b c d e) = false
is_marked (PairedServer a b c d e) = false
is_marked (Begun a b) = false
is_marked (Posted a b) = false
is_marked (Flushed a b) = false
is_marked (Sent a b c) = false
is_marked (Arrived a) = false
is_marked Heard = false
is_marked (Took a b) = false
is_marked (Polled a) = false
is_marked (Missed a) = false
is_marked (Carried a) = false
is_marked (Lost a) = false
is_marked (Repeated a) = false
is_marked (Ticked a) = false
is_marked _ = true

-- how a copy of the datagram sent at `sent` ends where the fact at `place` carries it
abbrev pub carried_end : (history : List Fact) → (sent place : ℕ) → End
carried_end history sent place =
    if arrives_at history sent (place + 1) then ends.Came (place + 1) else ends.Untold place

-- a copy that ends so
abbrev pub carried : (history : List Fact) → (place : ℕ) → Track → Drawn
carried history place track = Copy track (carried_end history track.sent place)

abbrev pub lost : (place : ℕ) → Track → Drawn
lost place track = Copy track (ends.Lost place)

abbrev pub flying : Track → Drawn
flying track = Copy track ends.Flying

-- what a fact of the network shows: the copy that it takes out, or that the clock goes on
abbrev pub things_of_net : (history : List Fact) → (place : ℕ) → Event → List Track → List Drawn
things_of_net history place (Carried c) tracks =
    map (carried history place) (option_to_list (slice_get tracks c))
things_of_net history place (Lost c) tracks = map (lost place) (option_to_list (slice_get tracks c))
things_of_net history place (Ticked by) tracks = Mark place ∷ []
things_of_net history place _ tracks = []

abbrev pub things_of_node : (place : ℕ) → Event → List Drawn
things_of_node place event = if is_marked event then Mark place ∷ [] else []

abbrev pub things_by : (history : List Fact) → (place : ℕ) → Who → Event → List Track → List Drawn
things_by history place (Node n) event tracks = things_of_node place event
things_by history place Net event tracks = things_of_net history place event tracks

-- what the fact at this place shows, where these copies are in flight
abbrev pub things_at : (history : List Fact) → (place : ℕ) → Fact → List Track → List Drawn
things_at history place fact tracks = things_by history place fact.who fact.event tracks

-- what the facts from this place on show, and what is in flight after them
abbrev pub drawing_from : (history : List Fact) → (place : ℕ) → List Fact → List Track → List Drawn
drawing_from history place [] tracks = map flying tracks
drawing_from history place (fact ∷ facts) tracks =
    things_at history place fact tracks
    ++ drawing_from history (place + 1) facts (tracks_after place fact tracks)

abbrev pub drawing : List Fact → List Drawn
drawing history = drawing_from history 0 history []
