-- Which fact is the arrival of which datagram.
use Rattle.std.specs.Prelude.{ℕ, ◌==◌, ◌&&◌, Bool, false, List, ◌++◌, Option, Some, None, slice_get}
use Rattle.std.specs.Str.{bytes_eq}
use Rattle.rpc_base.specs.declared.event.Event.{Event}
use Rattle.rpc_base.specs.declared.event.Event.TheVariants.{Sent, Arrived, Overflowed, Bad}
use Rattle.rpc_base.specs.declared.fact.Fact.{Fact}
use Rattle.rpc_base.specs.declared.fact.Who.{Who}
use Rattle.rpc_base.specs.declared.fact.Who.TheVariants.{Node, Net}
use Rattle.sequence_picture.specs.declared.arrival.Way.{Way}

abbrev pub way_sent_by : Who → Event → Option Way
way_sent_by (Node n) (Sent peer owner number) = Some (record { from = n; to = peer })
way_sent_by _ _ = None

-- the way of the datagram that a fact sends
abbrev pub way_sent : Fact → Option Way
way_sent fact = way_sent_by fact.who fact.event

-- who sent the datagram that comes by an event: into the ring or the inbox, or it finds no room,
-- or it is no packet
abbrev pub sender : Event → Option ℕ
sender (Arrived peer) = Some peer
sender (Overflowed peer) = Some peer
sender (Bad peer) = Some peer
sender _ = None

abbrev pub way_from : ℕ → Option ℕ → Option Way
way_from n (Some peer) = Some (record { from = peer; to = n })
way_from n None = None

abbrev pub way_came_by : Who → Event → Option Way
way_came_by (Node n) event = way_from n (sender event)
way_came_by Net event = None

-- the way of the datagram that comes by a fact
abbrev pub way_came : Fact → Option Way
way_came fact = way_came_by fact.who fact.event

abbrev pub same_way : Option Way → Option Way → Bool
same_way (Some sent) (Some came) = (sent.from == came.from) && (sent.to == came.to)
same_way _ _ = false

-- the second fact is an arrival of the datagram that the first one sends: the same way, and all
-- its bytes
abbrev pub arrives : (sent came : Fact) → Bool
arrives sent came =
    same_way (way_sent sent) (way_came came)
    && bytes_eq came.first (sent.first ++ sent.second)

abbrev pub both_arrive : (sent came : Option Fact) → Bool
both_arrive (Some sent) (Some came) = arrives sent came
both_arrive _ _ = false

-- the same of the facts at two places
abbrev pub arrives_at : List Fact → (sent came : ℕ) → Bool
arrives_at history sent came = both_arrive (slice_get history sent) (slice_get history came)
