-- The text of a report: its first line, a line for each fact, and a last line with their number.
-- Every line ends with a line feed.
use Rattle.std.specs.Prelude.{ℕ, List, ◌++◌, length, codes, decimal, flat_map}
use Rattle.rpc_base.specs.declared.event.Event.{Event}
use Rattle.rpc_base.specs.declared.event.Event.TheVariants.{Made, Opened, PairedClient}
use Rattle.rpc_base.specs.declared.event.Event.TheVariants.{PairedServer, NconnectRing}
use Rattle.rpc_base.specs.declared.event.Event.TheVariants.{NconnectNumbers, Accepted, Declined}
use Rattle.rpc_base.specs.declared.event.Event.TheVariants.{Starved, Connected, FailedNoRoom}
use Rattle.rpc_base.specs.declared.event.Event.TheVariants.{FailedNoAnswer, Closing, NcloseState}
use Rattle.rpc_base.specs.declared.event.Event.TheVariants.{NcloseBusy, ClosedHeard, ClosedUnheard}
use Rattle.rpc_base.specs.declared.event.Event.TheVariants.{Ended, Broken, Rated, Nrate, Asked}
use Rattle.rpc_base.specs.declared.event.Event.TheVariants.{NcallTooLarge, NcallState, Begun}
use Rattle.rpc_base.specs.declared.event.Event.TheVariants.{Posted, Flushed, Sent, Unsent, Arrived}
use Rattle.rpc_base.specs.declared.event.Event.TheVariants.{Overflowed, Bad, Heard, Took, Again}
use Rattle.rpc_base.specs.declared.event.Event.TheVariants.{Dropped, Given, Worked, Ran, Rolled}
use Rattle.rpc_base.specs.declared.event.Event.TheVariants.{DoneOk, DoneTooSmall, DonePeerLost}
use Rattle.rpc_base.specs.declared.event.Event.TheVariants.{Polled, Missed, Carried, Lost, Repeated}
use Rattle.rpc_base.specs.declared.event.Event.TheVariants.{Ticked, Restarted}
use Rattle.rpc_base.specs.declared.fact.Fact.{Fact}
use Rattle.rpc_base.specs.declared.fact.Who.{Who}
use Rattle.rpc_base.specs.declared.fact.Who.TheVariants.{Node, Net}
use Rattle.report_text.specs.Names.{owner_text, state_text, reason_text, bytes_text}

-- a node is its number
abbrev pub who_text : Who → List ℕ
who_text (Node n) = decimal n
who_text Net = codes "net"

-- what happened, with the bytes of the fact where the event has any
unfoldable pub event_text : Event → List ℕ → List ℕ → List ℕ
event_text (Made ring) first second = codes "made ring " ++ decimal ring
event_text (Restarted life) first second = codes "restarted " ++ decimal life
event_text (Opened session peer credits) first second =
    codes "opened " ++ decimal session ++ codes " peer " ++ decimal peer ++ codes " credits "
    ++ decimal credits
event_text (PairedClient session peer server credits life) first second =
    codes "paired client " ++ decimal session ++ codes " peer " ++ decimal peer ++ codes " with "
    ++ decimal server ++ codes " credits " ++ decimal credits ++ codes " life " ++ decimal life
event_text (PairedServer session peer client credits life) first second =
    codes "paired server " ++ decimal session ++ codes " peer " ++ decimal peer ++ codes " with "
    ++ decimal client ++ codes " credits " ++ decimal credits ++ codes " life " ++ decimal life
event_text (NconnectRing shares credits ring) first second =
    codes "nconnect ring " ++ decimal shares ++ codes " " ++ decimal credits ++ codes " "
    ++ decimal ring
event_text NconnectNumbers first second = codes "nconnect numbers"
event_text (Accepted session peer client credits life) first second =
    codes "accepted " ++ decimal session ++ codes " peer " ++ decimal peer ++ codes " for "
    ++ decimal client ++ codes " credits " ++ decimal credits ++ codes " life " ++ decimal life
event_text (Declined peer client credits) first second =
    codes "declined peer " ++ decimal peer ++ codes " for " ++ decimal client ++ codes " credits "
    ++ decimal credits
event_text (Starved peer client credits) first second =
    codes "starved peer " ++ decimal peer ++ codes " for " ++ decimal client ++ codes " credits "
    ++ decimal credits
event_text (Connected session server life) first second =
    codes "connected " ++ decimal session ++ codes " with " ++ decimal server ++ codes " life "
    ++ decimal life
event_text (FailedNoRoom session) first second =
    codes "failed " ++ decimal session ++ codes " noroom"
event_text (FailedNoAnswer session) first second =
    codes "failed " ++ decimal session ++ codes " noanswer"
event_text (Closing session) first second = codes "closing " ++ decimal session
event_text (NcloseState session state) first second =
    codes "nclose " ++ decimal session ++ codes " " ++ state_text state
event_text (NcloseBusy session calls) first second =
    codes "nclose " ++ decimal session ++ codes " busy " ++ decimal calls
event_text (ClosedHeard session) first second = codes "closed " ++ decimal session ++ codes " heard"
event_text (ClosedUnheard session) first second =
    codes "closed " ++ decimal session ++ codes " unheard"
event_text (Ended session) first second = codes "ended " ++ decimal session
event_text (Broken session) first second = codes "broken " ++ decimal session
event_text (Rated session rate) first second =
    codes "rated " ++ decimal session ++ codes " " ++ decimal rate
event_text (Nrate session state) first second =
    codes "nrate " ++ decimal session ++ codes " " ++ state_text state
event_text (Asked call session req_type room) first second =
    codes "asked " ++ decimal call ++ codes " on " ++ decimal session ++ codes " type "
    ++ decimal req_type ++ codes " room " ++ decimal room ++ codes " " ++ bytes_text first
event_text (NcallTooLarge session len) first second =
    codes "ncall " ++ decimal session ++ codes " toolarge " ++ decimal len
event_text (NcallState session state) first second =
    codes "ncall " ++ decimal session ++ codes " " ++ state_text state
event_text (Begun call request) first second =
    codes "begun " ++ decimal call ++ codes " as " ++ decimal request
event_text (Posted owner number) first second =
    codes "posted " ++ owner_text owner ++ codes " " ++ decimal number
event_text (Flushed owner number) first second =
    codes "flushed " ++ owner_text owner ++ codes " " ++ decimal number
event_text (Sent peer owner number) first second =
    codes "sent " ++ decimal peer ++ codes " " ++ owner_text owner ++ codes " " ++ decimal number
    ++ codes " " ++ bytes_text first ++ codes " " ++ bytes_text second
event_text (Unsent peer) first second =
    codes "unsent " ++ decimal peer ++ codes " " ++ bytes_text first
event_text (Arrived peer) first second =
    codes "arrived " ++ decimal peer ++ codes " " ++ bytes_text first
event_text (Overflowed peer) first second =
    codes "overflowed " ++ decimal peer ++ codes " " ++ bytes_text first
event_text (Bad peer) first second = codes "bad " ++ decimal peer ++ codes " " ++ bytes_text first
event_text Heard first second = codes "heard"
event_text (Took owner number) first second =
    codes "took " ++ owner_text owner ++ codes " " ++ decimal number
event_text (Again owner number) first second =
    codes "again " ++ owner_text owner ++ codes " " ++ decimal number
event_text (Dropped reason) first second = codes "dropped " ++ reason_text reason
event_text (Given session request) first second =
    codes "given " ++ decimal session ++ codes " " ++ decimal request
event_text (Worked session request) first second =
    codes "worked " ++ decimal session ++ codes " " ++ decimal request
event_text (Ran session request req_type) first second =
    codes "ran " ++ decimal session ++ codes " " ++ decimal request ++ codes " type "
    ++ decimal req_type ++ codes " " ++ bytes_text first ++ codes " " ++ bytes_text second
event_text (Rolled call posted got) first second =
    codes "rolled " ++ decimal call ++ codes " " ++ decimal posted ++ codes " " ++ decimal got
event_text (DoneOk call) first second =
    codes "done " ++ decimal call ++ codes " ok" ++ codes " " ++ bytes_text first
event_text (DoneTooSmall call size) first second =
    codes "done " ++ decimal call ++ codes " toosmall " ++ decimal size
event_text (DonePeerLost call) first second = codes "done " ++ decimal call ++ codes " peerlost"
event_text (Polled now) first second = codes "polled " ++ decimal now
event_text (Missed number) first second = codes "missed " ++ decimal number
event_text (Carried copy) first second = codes "carried " ++ decimal copy
event_text (Lost copy) first second = codes "lost " ++ decimal copy
event_text (Repeated copy) first second = codes "repeated " ++ decimal copy
event_text (Ticked by) first second = codes "ticked " ++ decimal by

-- who, a space, what happened, and a line feed
unfoldable pub line_text : Fact → List ℕ
line_text fact =
    who_text fact.who ++ codes " " ++ event_text fact.event fact.first fact.second ++ codes "\n"

-- the report of a history
unfoldable pub text : List Fact → List ℕ
text facts =
    codes "erpc-report 1\n" ++ flat_map line_text facts
    ++ (codes "end " ++ decimal (length facts) ++ codes "\n")
