-- The control rule: what a control packet does at a node. The first row that holds decides.
use Rattle.std.specs.Prelude.{ℕ, ◌==◌, nat_lt, ◌&&◌, ◌||◌, not, Bool, false, Option, Some, None}
use Rattle.std.specs.Prelude.{List, [], ◌∷◌}
use Rattle.std.specs.Prelude.{◌++◌, flat_map, if◌then◌else◌}
use Rattle.std.specs.List.{find}
use Rattle.packet_header.specs.declared.packet.ControlHeader.{ControlHeader}
use Rattle.packet_header.specs.declared.packet.ControlKind.{ControlKind}
use Rattle.packet_header.specs.declared.packet.ControlKind.TheVariants.{ConnectRequest}
use Rattle.packet_header.specs.declared.packet.ControlKind.TheVariants.{ConnectReply}
use Rattle.packet_header.specs.declared.packet.ControlKind.TheVariants.{DisconnectRequest}
use Rattle.packet_header.specs.declared.packet.ControlKind.TheVariants.{DisconnectReply}
use Rattle.rpc_base.specs.declared.event.Event.TheVariants.{Accepted, Declined, Starved}
use Rattle.rpc_base.specs.declared.event.Event.TheVariants.{Connected as IsConnected, FailedNoRoom}
use Rattle.rpc_base.specs.declared.event.Event.TheVariants.{ClosedHeard, Ended}
use Rattle.rpc_base.specs.declared.fact.Fact.{Fact}
use Rattle.rpc_base.specs.declared.state.SessionState.{SessionState}
use Rattle.rpc_base.specs.declared.state.SessionState.TheVariants.{Connecting, Connected, Spent}
use Rattle.rpc_base.specs.declared.state.SessionState.TheVariants.{Closing}
use Rattle.rpc_laws.specs.declared.rows.ControlRow.{ControlRow}
use Rattle.rpc_laws.specs.declared.rows.ControlRow.TheVariants.{Ignores, Confirms, Declines}
use Rattle.rpc_laws.specs.declared.rows.ControlRow.TheVariants.{Starves, Accepts, Ends, Misses}
use Rattle.rpc_laws.specs.declared.rows.ControlRow.TheVariants.{Connects, Disowns, Fails, Closes}
use Rattle.rpc_laws.specs.declared.tables.Client.{Client}
use Rattle.rpc_laws.specs.declared.tables.Lists.{Lists}
use Rattle.rpc_laws.specs.declared.tables.Queued.{Queued}
use Rattle.rpc_laws.specs.declared.tables.Server.{Server}
use Rattle.rpc_laws.specs.declared.tables.Way.{Way}
use Rattle.rpc_laws.specs.Facts.{plain}
use Rattle.rpc_laws.specs.Groups.{has_no_room, servers_spent}
use Rattle.rpc_laws.specs.Lives.{known_life}
use Rattle.rpc_laws.specs.Requests.{is_server, in_slot_of}
use Rattle.rpc_laws.specs.ServerTable.{flushes}
use Rattle.rpc_laws.specs.Sessions.{is_client, is_with}

-- whether a server session is the other end of a client session that a peer has in this life
abbrev pub is_end_of : (peer client life : ℕ) → Server → Bool
is_end_of peer client life v = v.way.peer == peer && is_with client life v.way

-- whether it is of an older life of the peer
abbrev pub is_older : (peer life : ℕ) → Server → Bool
is_older peer life v = v.way.peer == peer && nat_lt v.way.life life

-- whether a packet's receiver's life is this one
abbrev pub is_for : (life : ℕ) → Option ℕ → Bool
is_for life None = false
is_for life (Some to) = to == life

-- whether its sender has a lower life than one that is known
abbrev pub is_stale : ℕ → ControlHeader → Lists → Bool
is_stale peer h s = nat_lt h.from_life (known_life peer s.known)

-- the server session of lowest number that a connect request outdates, where it does any: it is of
-- an older life of the peer
abbrev pub outdated_by : ControlKind → ℕ → ControlHeader → Lists → Option Server
outdated_by ConnectRequest peer h s =
    if is_stale peer h s then None else find (is_older peer h.from_life) s.servers
outdated_by _ peer h s = None

abbrev pub outdated : ℕ → ControlHeader → Lists → Option Server
outdated peer h s = outdated_by h.kind peer h s

-- a connect request of a session that isn't there. lacks: memory for a session is wanting
abbrev pub new_session_row : Bool → ControlHeader → Lists → ControlRow
new_session_row lacks h s =
    if has_no_room h.credits s || servers_spent s then Declines
    else (if lacks then Starves
    else Accepts s.server_numbers)

-- it is confirmed where the session is there, that of the lowest number
abbrev pub confirm_row : Bool → ControlHeader → Lists → Option Server → ControlRow
confirm_row lacks h s None = new_session_row lacks h s
confirm_row lacks h s (Some v) = Confirms v.way.number v.credits

-- one of an older life than is known has no effect
abbrev pub connect_row : Bool → ℕ → ControlHeader → Lists → ControlRow
connect_row lacks peer h s =
    if is_stale peer h s then Ignores
    else confirm_row lacks h s (find (is_end_of peer h.client h.from_life) s.servers)

-- a disconnect request ends the session that it names, where that is the other end of the peer's
abbrev pub end_row : Option Server → ControlRow
end_row None = Misses
end_row (Some v) = Ends

abbrev pub named_end : (peer client life : ℕ) → Option ℕ → List Server → Option Server
named_end peer client life None servers = None
named_end peer client life (Some t) servers =
    find (λ v. is_server t v && is_end_of peer client life v) servers

abbrev pub disconnect_row : ℕ → ControlHeader → Lists → ControlRow
disconnect_row peer h s = end_row (named_end peer h.client h.from_life h.server s.servers)

-- a connect reply that names server session t: it connects a session that is Connecting with just
-- these credits. A session with that server session, in that life of its node (its), leaves it as
-- it is; every other one doesn't want it
abbrev pub joined_row : SessionState → (its : Bool) → (limit t credits : ℕ) → ControlRow
joined_row Connecting its limit t credits = if credits == limit then Connects t else Ignores
joined_row Connected its limit t credits = if its then Ignores else Disowns
joined_row Spent its limit t credits = if its then Ignores else Disowns
joined_row Closing its limit t credits = if its then Ignores else Disowns
joined_row state its limit t credits = Disowns

-- one that names none says that there is no room
abbrev pub refused_row : SessionState → ControlRow
refused_row Connecting = Fails
refused_row state = Ignores

abbrev pub reply_row : Option ℕ → (life credits : ℕ) → Client → ControlRow
reply_row None life credits x = refused_row x.state
reply_row (Some t) life credits x = joined_row x.state (is_with t life x.way) x.limit t credits

-- a disconnect reply closes a session that is Closing with the server session that it names
abbrev pub over_row : SessionState → (its : Bool) → ControlRow
over_row Closing its = if its then Closes else Ignores
over_row state its = Ignores

abbrev pub is_named : Option ℕ → (life : ℕ) → Way → Bool
is_named None life way = false
is_named (Some t) life way = is_with t life way

abbrev pub closed_row : Option ℕ → (life : ℕ) → Client → ControlRow
closed_row t life x = over_row x.state (is_named t life x.way)

-- a reply has an effect only on a client session that was opened to its sender
abbrev pub opened_row : (Client → ControlRow) → ℕ → Option Client → ControlRow
opened_row row peer None = Ignores
opened_row row peer (Some x) = if not (x.way.peer == peer) then Ignores else row x

-- but for a connect request, a packet for another life of the node has no effect
abbrev pub own_row : ControlRow → ControlHeader → Lists → ControlRow
own_row row h s = if is_for s.life h.to_life then row else Ignores

-- of a connect request, once no session is outdated by it
abbrev pub control_row_of : ControlKind → Bool → ℕ → ControlHeader → Lists → ControlRow
control_row_of ConnectRequest lacks peer h s = connect_row lacks peer h s
control_row_of DisconnectRequest lacks peer h s = own_row (disconnect_row peer h s) h s
control_row_of ConnectReply lacks peer h s =
    own_row (opened_row (reply_row h.server h.from_life h.credits) peer
    (find (is_client h.client) s.clients)) h s
control_row_of DisconnectReply lacks peer h s =
    own_row (opened_row (closed_row h.server h.from_life) peer
    (find (is_client h.client) s.clients)) h s

abbrev pub control_row : Bool → ℕ → ControlHeader → Lists → ControlRow
control_row lacks peer h s = control_row_of h.kind lacks peer h s

-- a server session ends: the queued replies of its slots are taken out, in the order of the slots
abbrev pub session_flushes : ℕ → List Queued → Server → List Fact
session_flushes me queued v =
    flat_map (λ slot. flushes me queued v.way.number (find (in_slot_of slot) v.slots))
    (0 ∷ 1 ∷ 2 ∷ 3 ∷ 4 ∷ 5 ∷ 6 ∷ 7 ∷ [])

abbrev pub session_end : ℕ → List Queued → Option Server → List Fact
session_end me queued None = []
session_end me queued (Some v) = session_flushes me queued v ++ plain me (Ended v.way.number) ∷ []

-- the facts of a row, after Heard
abbrev pub control_facts : Lists → ℕ → ControlHeader → ControlRow → List Fact
control_facts s peer h Declines = plain s.me (Declined peer h.client h.credits) ∷ []
control_facts s peer h Starves = plain s.me (Starved peer h.client h.credits) ∷ []
control_facts s peer h (Accepts t) =
    plain s.me (Accepted t peer h.client h.credits h.from_life) ∷ []
control_facts s peer h Ends =
    session_end s.me s.queued (named_end peer h.client h.from_life h.server s.servers)
control_facts s peer h (Connects t) = plain s.me (IsConnected h.client t h.from_life) ∷ []
control_facts s peer h Fails = plain s.me (FailedNoRoom h.client) ∷ []
control_facts s peer h Closes = plain s.me (ClosedHeard h.client) ∷ []
control_facts s peer h _ = []

-- a packet that is sent to a peer, from a node of one life to a life of the peer: it names the
-- client session that a packet of the peer named
abbrev pub connect_reply : (own to client : ℕ) → Option ℕ → (credits status : ℕ) → ControlHeader
connect_reply own to client server credits status =
    record {
      kind = ConnectReply;
      client = client;
      server = server;
      credits = credits;
      status = status;
      from_life = own;
      to_life = Some to;
    }

-- and the server session
abbrev pub disconnect_as : ControlKind → (own to client : ℕ) → Option ℕ → (status : ℕ)
    → ControlHeader
disconnect_as kind own to client server status =
    record {
      kind = kind;
      client = client;
      server = server;
      credits = 0;
      status = status;
      from_life = own;
      to_life = Some to;
    }

-- the answer goes to the life of the packet's sender
abbrev pub control_reply : (own : ℕ) → ControlHeader → ControlRow → Option ControlHeader
control_reply own h (Confirms t credits) =
    Some (connect_reply own h.from_life h.client (Some t) credits 0)
control_reply own h Declines = Some (connect_reply own h.from_life h.client None h.credits 1)
control_reply own h (Accepts t) =
    Some (connect_reply own h.from_life h.client (Some t) h.credits 0)
control_reply own h Ends = Some (disconnect_as DisconnectReply own h.from_life h.client h.server 0)
control_reply own h Misses =
    Some (disconnect_as DisconnectReply own h.from_life h.client h.server 2)
control_reply own h Disowns =
    Some (disconnect_as DisconnectRequest own h.from_life h.client h.server 0)
control_reply own h _ = None
