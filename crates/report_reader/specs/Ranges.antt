-- What the types of the numbers of a fact say, and that its bytes are bytes: such facts are those
-- of the histories that reports have.
use Rattle.std.specs.Prelude.{ℕ, ◌≤◌, ◌<◌, List}
use Rattle.std.specs.List.{AllByRecursion}
use Rattle.rpc_base.specs.declared.event.Event.{Event}
use Rattle.rpc_base.specs.declared.event.Event.TheVariants.{Made, Opened, PairedClient}
use Rattle.rpc_base.specs.declared.event.Event.TheVariants.{PairedServer, NconnectRing}
use Rattle.rpc_base.specs.declared.event.Event.TheVariants.{NconnectNumbers, Accepted}
use Rattle.rpc_base.specs.declared.event.Event.TheVariants.{Declined, Starved, Connected}
use Rattle.rpc_base.specs.declared.event.Event.TheVariants.{FailedNoRoom, FailedNoAnswer}
use Rattle.rpc_base.specs.declared.event.Event.TheVariants.{Closing, NcloseState}
use Rattle.rpc_base.specs.declared.event.Event.TheVariants.{NcloseBusy, ClosedHeard}
use Rattle.rpc_base.specs.declared.event.Event.TheVariants.{ClosedUnheard, Ended, Broken}
use Rattle.rpc_base.specs.declared.event.Event.TheVariants.{Rated, Nrate, Asked}
use Rattle.rpc_base.specs.declared.event.Event.TheVariants.{NcallTooLarge, NcallState}
use Rattle.rpc_base.specs.declared.event.Event.TheVariants.{Begun, Posted, Flushed, Sent}
use Rattle.rpc_base.specs.declared.event.Event.TheVariants.{Unsent, Arrived, Overflowed}
use Rattle.rpc_base.specs.declared.event.Event.TheVariants.{Bad, Heard, Took, Again}
use Rattle.rpc_base.specs.declared.event.Event.TheVariants.{Dropped, Given, Worked, Ran}
use Rattle.rpc_base.specs.declared.event.Event.TheVariants.{Rolled, DoneOk, DoneTooSmall}
use Rattle.rpc_base.specs.declared.event.Event.TheVariants.{DonePeerLost, Polled, Missed}
use Rattle.rpc_base.specs.declared.event.Event.TheVariants.{Carried, Lost, Repeated, Ticked}
use Rattle.rpc_base.specs.declared.event.Event.TheVariants.{Restarted}
use Rattle.rpc_base.specs.declared.fact.Fact.{Fact}
use Rattle.rpc_base.specs.declared.fact.Who.{Who}
use Rattle.rpc_base.specs.declared.fact.Who.TheVariants.{Node, Net}
use Rattle.rpc_base.specs.declared.owner.Owner.{Owner}
use Rattle.rpc_base.specs.declared.owner.Owner.TheVariants.{Ask, Reply, Control}

abbrev pub WhoInRange : Who → Type 0
WhoInRange (Node n) = n ≤ 255
WhoInRange Net = Unit {0}

abbrev pub OwnerInRange : Owner → Type 0
OwnerInRange (Ask session request) = (session ≤ 65535) × (request ≤ 281474976710655)
OwnerInRange (Reply session request) = (session ≤ 65535) × (request ≤ 281474976710655)
OwnerInRange Control = Unit {0}

abbrev pub EventInRange : Event → Type 0
EventInRange (Made ring) = ring ≤ 4294967295
EventInRange (Restarted life) = life ≤ 4294967295
EventInRange (Opened session peer credits) = (session ≤ 65535) × (peer ≤ 255) × (credits ≤ 65535)
EventInRange (PairedClient session peer server credits life) =
    (session ≤ 65535) × (peer ≤ 255) × (server ≤ 65535) × (credits ≤ 65535) × (life ≤ 4294967295)
EventInRange (PairedServer session peer client credits life) =
    (session ≤ 65535) × (peer ≤ 255) × (client ≤ 65535) × (credits ≤ 65535) × (life ≤ 4294967295)
EventInRange (NconnectRing shares credits ring) =
    (shares ≤ 4294967295) × (credits ≤ 4294967295) × (ring ≤ 4294967295)
EventInRange NconnectNumbers = Unit {0}
EventInRange (Accepted session peer client credits life) =
    (session ≤ 65535) × (peer ≤ 255) × (client ≤ 65535) × (credits ≤ 65535) × (life ≤ 4294967295)
EventInRange (Declined peer client credits) = (peer ≤ 255) × (client ≤ 65535) × (credits ≤ 65535)
EventInRange (Starved peer client credits) = (peer ≤ 255) × (client ≤ 65535) × (credits ≤ 65535)
EventInRange (Connected session server life) =
    (session ≤ 65535) × (server ≤ 65535) × (life ≤ 4294967295)
EventInRange (FailedNoRoom session) = session ≤ 65535
EventInRange (FailedNoAnswer session) = session ≤ 65535
EventInRange (Closing session) = session ≤ 65535
EventInRange (NcloseState session state) = session ≤ 65535
EventInRange (NcloseBusy session calls) = (session ≤ 65535) × (calls ≤ 18446744073709551615)
EventInRange (ClosedHeard session) = session ≤ 65535
EventInRange (ClosedUnheard session) = session ≤ 65535
EventInRange (Ended session) = session ≤ 65535
EventInRange (Broken session) = session ≤ 65535
EventInRange (Rated session rate) = (session ≤ 65535) × (rate ≤ 4294967295)
EventInRange (Nrate session state) = session ≤ 65535
EventInRange (Asked call session req_type room) =
    (call ≤ 18446744073709551615) × (session ≤ 65535) × (req_type ≤ 255) × (room ≤ 4294967295)
EventInRange (NcallTooLarge session len) = (session ≤ 65535) × (len ≤ 4294967295)
EventInRange (NcallState session state) = session ≤ 65535
EventInRange (Begun call request) = (call ≤ 18446744073709551615) × (request ≤ 281474976710655)
EventInRange (Posted owner number) = (OwnerInRange owner) × (number ≤ 65535)
EventInRange (Flushed owner number) = (OwnerInRange owner) × (number ≤ 65535)
EventInRange (Sent peer owner number) = (peer ≤ 255) × (OwnerInRange owner) × (number ≤ 65535)
EventInRange (Unsent peer) = peer ≤ 255
EventInRange (Arrived peer) = peer ≤ 255
EventInRange (Overflowed peer) = peer ≤ 255
EventInRange (Bad peer) = peer ≤ 255
EventInRange Heard = Unit {0}
EventInRange (Took owner number) = (OwnerInRange owner) × (number ≤ 65535)
EventInRange (Again owner number) = (OwnerInRange owner) × (number ≤ 65535)
EventInRange (Dropped reason) = Unit {0}
EventInRange (Given session request) = (session ≤ 65535) × (request ≤ 281474976710655)
EventInRange (Worked session request) = (session ≤ 65535) × (request ≤ 281474976710655)
EventInRange (Ran session request req_type) =
    (session ≤ 65535) × (request ≤ 281474976710655) × (req_type ≤ 255)
EventInRange (Rolled call posted got) =
    (call ≤ 18446744073709551615) × (posted ≤ 65535) × (got ≤ 65535)
EventInRange (DoneOk call) = call ≤ 18446744073709551615
EventInRange (DoneTooSmall call size) = (call ≤ 18446744073709551615) × (size ≤ 4294967295)
EventInRange (DonePeerLost call) = call ≤ 18446744073709551615
EventInRange (Polled now) = now ≤ 18446744073709551615
EventInRange (Missed number) = number ≤ 4294967295
EventInRange (Carried copy) = copy ≤ 4294967295
EventInRange (Lost copy) = copy ≤ 4294967295
EventInRange (Repeated copy) = copy ≤ 4294967295
EventInRange (Ticked by) = by ≤ 4294967295

abbrev pub AreOctets : List ℕ → Type 0
AreOctets bytes = AllByRecursion (λ b. b < 256) bytes

pub record InRange (f : Fact) : Type 0 where
  pub who : WhoInRange f.who
  pub event : EventInRange f.event
  pub first : AreOctets f.first
  pub second : AreOctets f.second
