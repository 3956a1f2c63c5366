-- What a drawn line joins: the facts of one copy of one datagram.
use Rattle.std.specs.Prelude.{ℕ, ◌≡◌, ◌+◌, ◌⊎◌, List, [], ◌∷◌, Some, slice_get, take}
use Rattle.std.specs.List.{AllByRecursion}
use Rattle.rpc_base.specs.declared.event.Event.{Event}
use Rattle.rpc_base.specs.declared.event.Event.TheVariants as events
use Rattle.rpc_base.specs.declared.fact.Fact.{Fact}
use Rattle.rpc_base.specs.declared.fact.Who.TheVariants.{Node, Net}
use Rattle.rpc_laws.specs.declared.tables.InFlight.{InFlight}
use Rattle.rpc_laws.specs.InFlight.{flight_after, flight_after_all}
use Rattle.sequence_picture.specs.declared.things.Drawn.{Drawn}
use Rattle.sequence_picture.specs.declared.things.Drawn.TheVariants.{Copy, Mark}
use Rattle.sequence_picture.specs.declared.things.End.{End}
use Rattle.sequence_picture.specs.declared.things.End.TheVariants.{Came, Lost, Untold, Flying}
use Rattle.sequence_picture.specs.declared.things.Track.{Track}
use Rattle.sequence_picture.specs.Arrival.{sender}
use Rattle.sequence_picture.specs.Tracks.{tracks_of}

-- the fact at a place sends this datagram: alone, it puts just this copy into flight
pub record IsSending (history : List Fact) (place : ℕ) (copy : InFlight) : Type 0 where
  pub fact : Fact
  pub at : slice_get history place ≡ Some fact
  pub sends : flight_after [] fact ≡ copy ∷ []

-- the fact at a place puts one more copy of this datagram into flight, where one was
pub record IsRepeat (history : List Fact) (place : ℕ) (copy : InFlight) : Type 0 where
  pub fact : Fact
  pub number : ℕ
  pub at : slice_get history place ≡ Some fact
  pub who : fact.who ≡ Net
  pub event : fact.event ≡ events.Repeated number
  pub again : slice_get (flight_after_all [] (take place history)) number ≡ Some copy

-- the fact at a place is the arrival of this datagram at its node
pub record IsArrival (history : List Fact) (place : ℕ) (copy : InFlight) : Type 0 where
  pub fact : Fact
  pub at : slice_get history place ≡ Some fact
  pub who : fact.who ≡ Node copy.to
  pub peer : sender fact.event ≡ Some copy.from
  pub bytes : fact.first ≡ copy.bytes

-- copy number `number` of the flight after some facts is this one, which was put there by `track`
pub record StandsAt (past : List Fact) (number : ℕ) (track : Track) (copy : InFlight) : Type 0 where
  pub track_is : slice_get (tracks_of past) number ≡ Some track
  pub copy_is : slice_get (flight_after_all [] past) number ≡ Some copy

-- the fact at a place is this event of the network, and the copy that it names is this one
pub record Takes (history : List Fact) (place : ℕ) (event : ℕ → Event) (track : Track)
    (copy : InFlight) : Type 0 where
  pub fact : Fact
  pub number : ℕ
  pub at : slice_get history place ≡ Some fact
  pub who : fact.who ≡ Net
  pub names : fact.event ≡ event number
  pub stands : StandsAt (take place history) number track copy

-- a copy came by the fact at a place: the fact before carried it, and that one is its arrival
pub record IsDelivery (history : List Fact) (place : ℕ) (track : Track) (copy : InFlight)
    : Type 0 where
  pub before : ℕ
  pub next : place ≡ before + 1
  pub carried : Takes history before events.Carried track copy
  pub arrival : IsArrival history place copy

-- a copy is in flight when the history ends
pub record IsFlying (history : List Fact) (track : Track) (copy : InFlight) : Type 0 where
  pub number : ℕ
  pub stands : StandsAt history number track copy

abbrev pub Ends : List Fact → Track → InFlight → End → Type 0
Ends history track copy (Came place) = IsDelivery history place track copy
Ends history track copy (Lost place) = Takes history place events.Lost track copy
Ends history track copy (Untold place) = Takes history place events.Carried track copy
Ends history track copy Flying = IsFlying history track copy

-- a line joins the facts of one copy: of the fact that sends its datagram, of the one that puts the
-- copy into flight, which is the same or a repeat of that datagram, and of the one by which it ends
pub record JoinsOneCopy (history : List Fact) (track : Track) (end : End) : Type 0 where
  pub copy : InFlight
  pub sending : IsSending history track.sent copy
  pub put : (track.put ≡ track.sent) ⊎ IsRepeat history track.put copy
  pub ending : Ends history track copy end

abbrev pub Joins : List Fact → Drawn → Type 0
Joins history (Copy track end) = JoinsOneCopy history track end
Joins history (Mark place) = Unit {0}

-- each line that is drawn joins the facts of one copy
abbrev pub AllJoin : List Fact → List Drawn → Type 0
AllJoin history drawn = AllByRecursion (Joins history) drawn
