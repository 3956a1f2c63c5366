-- What the types of the numbers of a fact say: each is below 2 ^ 64.
use Rattle.std.specs.Prelude.{◌<◌, ◌^◌}
use Rattle.rpc_base.specs.declared.event.Event.{Event}
use Rattle.rpc_base.specs.declared.event.Event.TheVariants.{Made, Opened, PairedClient}
use Rattle.rpc_base.specs.declared.event.Event.TheVariants.{PairedServer, NconnectRing}
use Rattle.rpc_base.specs.declared.event.Event.TheVariants.{NconnectNumbers, Accepted, Declined}
use Rattle.rpc_base.specs.declared.event.Event.TheVariants.{Starved, Connected, FailedNoRoom}
use Rattle.rpc_base.specs.declared.event.Event.TheVariants.{FailedNoAnswer, Closing, NcloseState}
use Rattle.rpc_base.specs.declared.event.Event.TheVariants.{NcloseBusy, ClosedHeard, ClosedUnheard}
use Rattle.rpc_base.specs.declared.event.Event.TheVariants.{Ended, Broken, Rated, Nrate, Asked}
use Rattle.rpc_base.specs.declared.event.Event.TheVariants.{NcallTooLarge, NcallState, Begun}
use Rattle.rpc_base.specs.declared.event.Event.TheVariants.{Posted, Flushed, Sent, Unsent, Arrived}
use Rattle.rpc_base.specs.declared.event.Event.TheVariants.{Overflowed, Bad, Heard, Took, Again}
use Rattle.rpc_base.specs.declared.event.Event.TheVariants.{Dropped, Given, Worked, Ran, Rolled}
use Rattle.rpc_base.specs.declared.event.Event.TheVariants.{DoneOk, DoneTooSmall, DonePeerLost}
use Rattle.rpc_base.specs.declared.event.Event.TheVariants.{Polled, Missed, Carried, Lost, Repeated}
use Rattle.rpc_base.specs.declared.event.Event.TheVariants.{Ticked, Restarted}
use Rattle.rpc_base.specs.declared.fact.Fact.{Fact}
use Rattle.rpc_base.specs.declared.fact.Who.{Who}
use Rattle.rpc_base.specs.declared.fact.Who.TheVariants.{Node, Net}
use Rattle.rpc_base.specs.declared.owner.Owner.{Owner}
use Rattle.rpc_base.specs.declared.owner.Owner.TheVariants.{Ask, Reply, Control}

abbrev pub WhoFits : Who → Type 0
WhoFits (Node n) = n < 2 ^ 64
WhoFits Net = Unit {0}

abbrev pub OwnerFits : Owner → Type 0
OwnerFits (Ask session request) = (session < 2 ^ 64) × (request < 2 ^ 64)
OwnerFits (Reply session request) = (session < 2 ^ 64) × (request < 2 ^ 64)
OwnerFits Control = Unit {0}

abbrev pub EventFits : Event → Type 0
EventFits (Made ring) = ring < 2 ^ 64
EventFits (Restarted life) = life < 2 ^ 64
EventFits (Opened session peer credits) = (session < 2 ^ 64) × (peer < 2 ^ 64) × (credits < 2 ^ 64)
EventFits (PairedClient session peer server credits life) =
    (session < 2 ^ 64) × (peer < 2 ^ 64) × (server < 2 ^ 64) × (credits < 2 ^ 64)
    × (life < 2 ^ 64)
EventFits (PairedServer session peer client credits life) =
    (session < 2 ^ 64) × (peer < 2 ^ 64) × (client < 2 ^ 64) × (credits < 2 ^ 64)
    × (life < 2 ^ 64)
EventFits (NconnectRing shares credits ring) =
    (shares < 2 ^ 64) × (credits < 2 ^ 64) × (ring < 2 ^ 64)
EventFits NconnectNumbers = Unit {0}
EventFits (Accepted session peer client credits life) =
    (session < 2 ^ 64) × (peer < 2 ^ 64) × (client < 2 ^ 64) × (credits < 2 ^ 64)
    × (life < 2 ^ 64)
EventFits (Declined peer client credits) = (peer < 2 ^ 64) × (client < 2 ^ 64) × (credits < 2 ^ 64)
EventFits (Starved peer client credits) = (peer < 2 ^ 64) × (client < 2 ^ 64) × (credits < 2 ^ 64)
EventFits (Connected session server life) =
    (session < 2 ^ 64) × (server < 2 ^ 64) × (life < 2 ^ 64)
EventFits (FailedNoRoom session) = session < 2 ^ 64
EventFits (FailedNoAnswer session) = session < 2 ^ 64
EventFits (Closing session) = session < 2 ^ 64
EventFits (NcloseState session state) = session < 2 ^ 64
EventFits (NcloseBusy session calls) = (session < 2 ^ 64) × (calls < 2 ^ 64)
EventFits (ClosedHeard session) = session < 2 ^ 64
EventFits (ClosedUnheard session) = session < 2 ^ 64
EventFits (Ended session) = session < 2 ^ 64
EventFits (Broken session) = session < 2 ^ 64
EventFits (Rated session rate) = (session < 2 ^ 64) × (rate < 2 ^ 64)
EventFits (Nrate session state) = session < 2 ^ 64
EventFits (Asked call session req_type room) =
    (call < 2 ^ 64) × (session < 2 ^ 64) × (req_type < 2 ^ 64) × (room < 2 ^ 64)
EventFits (NcallTooLarge session len) = (session < 2 ^ 64) × (len < 2 ^ 64)
EventFits (NcallState session state) = session < 2 ^ 64
EventFits (Begun call request) = (call < 2 ^ 64) × (request < 2 ^ 64)
EventFits (Posted owner number) = OwnerFits owner × (number < 2 ^ 64)
EventFits (Flushed owner number) = OwnerFits owner × (number < 2 ^ 64)
EventFits (Sent peer owner number) = (peer < 2 ^ 64) × OwnerFits owner × (number < 2 ^ 64)
EventFits (Unsent peer) = peer < 2 ^ 64
EventFits (Arrived peer) = peer < 2 ^ 64
EventFits (Overflowed peer) = peer < 2 ^ 64
EventFits (Bad peer) = peer < 2 ^ 64
EventFits Heard = Unit {0}
EventFits (Took owner number) = OwnerFits owner × (number < 2 ^ 64)
EventFits (Again owner number) = OwnerFits owner × (number < 2 ^ 64)
EventFits (Dropped reason) = Unit {0}
EventFits (Given session request) = (session < 2 ^ 64) × (request < 2 ^ 64)
EventFits (Worked session request) = (session < 2 ^ 64) × (request < 2 ^ 64)
EventFits (Ran session request req_type) =
    (session < 2 ^ 64) × (request < 2 ^ 64) × (req_type < 2 ^ 64)
EventFits (Rolled call posted got) = (call < 2 ^ 64) × (posted < 2 ^ 64) × (got < 2 ^ 64)
EventFits (DoneOk call) = call < 2 ^ 64
EventFits (DoneTooSmall call size) = (call < 2 ^ 64) × (size < 2 ^ 64)
EventFits (DonePeerLost call) = call < 2 ^ 64
EventFits (Polled now) = now < 2 ^ 64
EventFits (Missed number) = number < 2 ^ 64
EventFits (Carried copy) = copy < 2 ^ 64
EventFits (Lost copy) = copy < 2 ^ 64
EventFits (Repeated copy) = copy < 2 ^ 64
EventFits (Ticked by) = by < 2 ^ 64

abbrev pub FactFits : Fact → Type 0
FactFits fact = WhoFits fact.who × EventFits fact.event
