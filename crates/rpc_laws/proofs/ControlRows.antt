-- Worked rows of session control, computed by the definitions alone: a session is connected, its request is repeated,
-- declined or starved, it is closed, and a late copy of its request makes a session that nobody uses.
use Rattle.std.proofs.Common.{◌≡◌, ℕ, true, false, Some, None, [], ◌∷◌, refl}
use Rattle.packet_header.specs.Reading.{control_at, control_fault, control_read, decoded, kind_of}
use Rattle.packet_header.specs.declared.packet.ControlHeader.{ControlHeader}
use Rattle.packet_header.specs.declared.packet.ControlKind.TheVariants.{ConnectRequest}
use Rattle.packet_header.specs.declared.packet.ControlKind.TheVariants.{ConnectReply}
use Rattle.packet_header.specs.declared.packet.ControlKind.TheVariants.{DisconnectRequest}
use Rattle.packet_header.specs.declared.packet.ControlKind.TheVariants.{DisconnectReply}
use Rattle.rpc_base.specs.declared.event.Event.TheVariants.{Opened, Accepted, Declined, Starved}
use Rattle.rpc_base.specs.declared.event.Event.TheVariants.{Connected as IsConnected}
use Rattle.rpc_base.specs.declared.event.Event.TheVariants.{Closing as BeginsClosing, ClosedHeard}
use Rattle.rpc_base.specs.declared.event.Event.TheVariants.{Ended, Flushed, NconnectRing, Sent}
use Rattle.rpc_base.specs.declared.event.Event.TheVariants.{NcloseState, Rated, Nrate}
use Rattle.rpc_base.specs.declared.fact.Fact.{Fact}
use Rattle.rpc_base.specs.declared.owner.Owner.TheVariants.{Control, Reply}
use Rattle.rpc_base.specs.declared.state.SessionState.TheVariants.{Closing, Closed, Unknown}
use Rattle.rpc_laws.specs.declared.rows.ControlRow.TheVariants.{Ignores, Confirms, Declines}
use Rattle.rpc_laws.specs.declared.rows.ControlRow.TheVariants.{Starves, Accepts, Ends, Misses}
use Rattle.rpc_laws.specs.declared.rows.ControlRow.TheVariants.{Connects, Disowns, Fails, Closes}
use Rattle.rpc_laws.specs.declared.rows.RetryRow.TheVariants.{Rests, Asks, GivesUp}
use Rattle.rpc_laws.specs.declared.tables.Lists.{Lists}
use Rattle.rpc_laws.specs.declared.tables.Queued.{Queued}
use Rattle.rpc_laws.specs.declared.tables.Served.{Served}
use Rattle.rpc_laws.specs.ControlSteps.{own_request, retry_row}
use Rattle.rpc_laws.specs.ControlTable.{control_row, control_facts, control_reply, outdated}
use Rattle.rpc_laws.specs.Facts.{plain, with_two}
use Rattle.rpc_laws.specs.Groups.{connect_by, client_refusal, disconnect_fact, rate_fact, shares}
use Rattle.rpc_laws.specs.NodeLists.{after, after_all, new_lists}
use Rattle.rpc_laws.specs.Lives.{known_life, no_lives, raised}
use Rattle.rpc_laws.specs.Requests.{server_end}
use Rattle.rpc_laws.specs.Sessions.{client_end, opened_end}
use Rattle.rpc_laws.specs.UsualLimits.{with_ring}

-- the requests of client session 0, with 4 credits, and the answers to them
abbrev connect : ControlHeader
connect =
    record {
      kind = ConnectRequest;
      client = 0;
      server = None;
      credits = 4;
      status = 0;
      from_life = 1;
      to_life = None;
    }

abbrev connected : (server credits : ℕ) → ControlHeader
connected server credits =
    record {
      kind = ConnectReply;
      client = 0;
      server = Some server;
      credits = credits;
      status = 0;
      from_life = 1;
      to_life = Some 1;
    }

abbrev declined : ℕ → ControlHeader
declined credits =
    record {
      kind = ConnectReply;
      client = 0;
      server = None;
      credits = credits;
      status = 1;
      from_life = 1;
      to_life = Some 1;
    }

abbrev disconnect : ℕ → ControlHeader
disconnect server =
    record {
      kind = DisconnectRequest;
      client = 0;
      server = Some server;
      credits = 0;
      status = 0;
      from_life = 1;
      to_life = Some 1;
    }

abbrev disconnected : (server status : ℕ) → ControlHeader
disconnected server status =
    record {
      kind = DisconnectReply;
      client = 0;
      server = Some server;
      credits = 0;
      status = status;
      from_life = 1;
      to_life = Some 1;
    }

-- node 1 with a ring of 32, new, and once it accepted that session of peer 0
abbrev fresh : Lists
fresh = new_lists 1 1 (with_ring 32)

abbrev serving : Lists
serving = after 0 fresh (plain 1 (Accepted 0 0 0 4 1))

row-accepts : control_row false 0 connect fresh ≡ Accepts 0
row-accepts = refl

row-accepted : control_facts fresh 0 connect (Accepts 0) ≡ plain 1 (Accepted 0 0 0 4 1) ∷ []
row-accepted = refl

row-answer : control_reply 1 connect (Accepts 0) ≡ Some (connected 0 4)
row-answer = refl

-- a repeated request is answered with the same number; another peer's makes a session of its own
row-confirms : control_row false 0 connect serving ≡ Confirms 0 4
row-confirms = refl

row-again : control_reply 1 connect (Confirms 0 4) ≡ Some (connected 0 4)
row-again = refl

row-other : control_row false 2 connect serving ≡ Accepts 1
row-other = refl

-- 28 credits more fit the ring, and 29 don't; want of memory comes after that, and isn't answered
row-fits : control_row false 2 (record connect { credits = 28 }) serving ≡ Accepts 1
row-fits = refl

row-declines : control_row true 2 (record connect { credits = 29 }) serving ≡ Declines
row-declines = refl

row-declined : control_facts serving 2 (record connect { credits = 29 }) Declines ≡ plain 1 (Declined 2 0 29) ∷ []
row-declined = refl

row-no-room : control_reply 1 (record connect { credits = 29 }) Declines ≡ Some (declined 29)
row-no-room = refl

row-starves : control_row true 2 connect serving ≡ Starves
row-starves = refl

row-starved : control_facts serving 2 connect Starves ≡ plain 1 (Starved 2 0 4) ∷ []
row-starved = refl

row-silent : control_reply 1 connect Starves ≡ None
row-silent = refl

-- the session ends: the replies of its slots are taken out in the order of the slots
abbrev in_slot : ℕ → Served
in_slot r = record { number = r; req_type = 1; size = 0; taken = 1; ask = []; working = false; answer = Some [] }

abbrev reply_of : ℕ → Queued
reply_of r = record { owner = Reply 0 r; number = 0; due = None }

abbrev busy : Lists
busy = record serving {
  queued = reply_of 9 ∷ reply_of 0 ∷ reply_of 9 ∷ [];
  servers = record {
    way = record { number = 0; peer = 0; other = 0; life = 1 };
    credits = 4;
    slots = in_slot 9 ∷ in_slot 0 ∷ [];
  } ∷ [];
}

row-ends : control_row false 0 (disconnect 0) busy ≡ Ends
row-ends = refl

row-flushes : control_facts busy 0 (disconnect 0) Ends
    ≡ plain 1 (Flushed (Reply 0 0) 0) ∷ plain 1 (Flushed (Reply 0 9) 0)
    ∷ plain 1 (Flushed (Reply 0 9) 0) ∷ plain 1 (Ended 0) ∷ []
row-flushes = refl

row-ended : control_reply 1 (disconnect 0) Ends ≡ Some (disconnected 0 0)
row-ended = refl

-- a second request, and one of another peer, find no session; a late connect request gets the next number
abbrev ended : Lists
ended = after_all 0 busy (control_facts busy 0 (disconnect 0) Ends)

row-nothing-left : ended.queued ≡ []
row-nothing-left = refl

row-misses : control_row false 0 (disconnect 0) ended ≡ Misses
row-misses = refl

row-other-misses : control_row false 2 (disconnect 0) busy ≡ Misses
row-other-misses = refl

row-gone : control_reply 1 (disconnect 0) Misses ≡ Some (disconnected 0 2)
row-gone = refl

-- once the peer connected in its second life, what it asks in its first has no effect; the session
-- of its first life ends before the request of the second is answered
abbrev again : ControlHeader
again = record connect { from_life = 2 }

abbrev connect_told : Fact
connect_told =
    with_two 1 (Sent 0 Control 0)
    (226 ∷ 5 ∷ 0 ∷ 0 ∷ 0 ∷ 1 ∷ 0 ∷ 4 ∷ 0 ∷ 0 ∷ 0 ∷ 0 ∷ 1 ∷ 0 ∷ 0 ∷ 0 ∷ 0 ∷ 0 ∷ 0 ∷ 2 ∷ []) []

row-outdates : outdated 0 again serving ≡ Some (server_end 0 0 0 4 1)
row-outdates = refl

row-same-life : outdated 0 connect serving ≡ None
row-same-life = refl

row-other-peers : outdated 2 again serving ≡ None
row-other-peers = refl

row-known : known_life 0 (after 0 serving connect_told).known ≡ 2
unfolding decoded kind_of control_at control_read control_fault
row-known = refl

row-stale : control_row false 0 connect (record serving { known = raised 0 2 no_lives })
    ≡ Ignores
row-stale = refl

row-other-life : control_row false 0 (record (disconnect 0) { to_life = Some 2 }) busy ≡ Ignores
row-other-life = refl

row-late : control_row false 0 connect ended ≡ Accepts 1
row-late = refl

-- at the client: session 0 is opened to peer 1
abbrev opened : Lists
opened = after 0 (new_lists 0 1 (with_ring 32)) (plain 0 (Opened 0 1 4))

row-opens : connect_by (client_refusal 4 (new_lists 0 1 (with_ring 32))) 1 4 7
    (new_lists 0 1 (with_ring 32)) ≡ plain 0 (Opened 0 1 4) ∷ plain 0 (Rated 0 7) ∷ []
row-opens = refl

row-refuses : connect_by (client_refusal 29 opened) 1 29 0 opened ≡ plain 0 (NconnectRing 4 29 32) ∷ []
row-refuses = refl

row-own : own_request 1 (opened_end 0 1 4) ≡ Some connect
row-own = refl

row-connects : control_row false 1 (connected 0 4) opened ≡ Connects 0
row-connects = refl

row-other-credits : control_row false 1 (connected 0 5) opened ≡ Ignores
row-other-credits = refl

row-other-peer : control_row false 2 (connected 0 4) opened ≡ Ignores
row-other-peer = refl

row-fails : control_row false 1 (declined 4) opened ≡ Fails
row-fails = refl

row-no-session : control_row false 1 (connected 0 4) fresh ≡ Ignores
row-no-session = refl

-- once it is connected it is as if it were paired; another server session is disowned
abbrev joined : Lists
joined = after 0 opened (plain 0 (IsConnected 0 0 1))

row-joined : joined.clients ≡ client_end 0 1 0 4 1 ∷ []
row-joined = refl

row-same : control_row false 1 (connected 0 4) joined ≡ Ignores
row-same = refl

row-disowns : control_row false 1 (connected 1 4) joined ≡ Disowns
row-disowns = refl

row-asks-end : control_reply 1 (connected 1 4) Disowns ≡ Some (disconnect 1)
row-asks-end = refl

-- it closes, and then nothing of it is left but its state
abbrev closing : Lists
closing = after 0 joined (plain 0 (BeginsClosing 0))

row-closing : disconnect_fact 0 joined ≡ plain 0 (BeginsClosing 0)
row-closing = refl

-- its credits are shares of its node until it is closed
row-shares : shares closing ≡ 4
row-shares = refl

row-not-twice : disconnect_fact 0 closing ≡ plain 0 (NcloseState 0 Closing)
row-not-twice = refl

row-rates : rate_fact 0 5 closing ≡ plain 0 (Rated 0 5)
row-rates = refl

row-unknown : rate_fact 7 5 closing ≡ plain 0 (Nrate 7 Unknown)
row-unknown = refl

-- nor is one of another life of the server
row-later-life : control_row false 1 (record (connected 0 4) { from_life = 2 }) joined ≡ Disowns
row-later-life = refl

row-closes : control_row false 1 (disconnected 0 2) closing ≡ Closes
row-closes = refl

row-other-closes : control_row false 1 (disconnected 1 0) closing ≡ Ignores
row-other-closes = refl

row-too-early : control_row false 1 (disconnected 0 0) joined ≡ Ignores
row-too-early = refl

abbrev closed : Lists
closed = after 0 closing (plain 0 (ClosedHeard 0))

row-stray : control_row false 1 (connected 0 4) closed ≡ Disowns
row-stray = refl

row-over : rate_fact 0 5 closed ≡ plain 0 (Nrate 0 Closed)
row-over = refl

-- a request is sent at once, then each timeout, nine times in all, and then the session gives up
row-first : retry_row 0 5000 0 0 ≡ Asks
row-first = refl

row-rests : retry_row 4999 5000 1 0 ≡ Rests
row-rests = refl

row-second : retry_row 5000 5000 1 0 ≡ Asks
row-second = refl

row-waits : retry_row 44999 5000 9 40000 ≡ Rests
row-waits = refl

row-gives-up : retry_row 45000 5000 9 40000 ≡ GivesUp
row-gives-up = refl
