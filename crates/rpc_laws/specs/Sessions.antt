-- Client sessions with their calls, as the facts of a node leave them. The calls of a session stand
-- in the order of their numbers: those that are active, and then those that wait.
use Rattle.std.specs.Prelude.{ℕ, ◌+◌, ◌-◌, ◌%◌, ◌==◌, ◌&&◌, Bool, true, false, Option, Some, None}
use Rattle.std.specs.Prelude.{List}
use Rattle.std.specs.Prelude.{[], ◌∷◌, ◌++◌, slice_index, slice_set, if◌then◌else◌}
use Rattle.std.specs.List.{list_any}
use Rattle.rpc_base.specs.declared.event.Event.{Event}
use Rattle.rpc_base.specs.declared.event.Event.TheVariants.{Opened, PairedClient}
use Rattle.rpc_base.specs.declared.event.Event.TheVariants.{Connected as IsConnected, FailedNoRoom}
use Rattle.rpc_base.specs.declared.event.Event.TheVariants.{FailedNoAnswer}
use Rattle.rpc_base.specs.declared.event.Event.TheVariants.{Closing as BeginsClosing, ClosedHeard}
use Rattle.rpc_base.specs.declared.event.Event.TheVariants.{ClosedUnheard, Asked, Begun, Posted}
use Rattle.rpc_base.specs.declared.event.Event.TheVariants.{Sent, Took, Rolled, Broken, DoneOk}
use Rattle.rpc_base.specs.declared.event.Event.TheVariants.{DoneTooSmall, DonePeerLost}
use Rattle.rpc_base.specs.declared.owner.Owner.TheVariants.{Ask, Control}
use Rattle.rpc_base.specs.declared.state.SessionState.{SessionState}
use Rattle.rpc_base.specs.declared.state.SessionState.TheVariants.{Connecting, Connected, Closing}
use Rattle.rpc_base.specs.declared.state.SessionState.TheVariants.{Closed, Failed, Spent}
use Rattle.rpc_base.specs.declared.state.SessionState.TheVariants.{Broken as IsBroken}
use Rattle.packet_header.specs.declared.packet.ControlHeader.{ControlHeader}
use Rattle.packet_header.specs.declared.packet.ControlKind.{ControlKind}
use Rattle.packet_header.specs.declared.packet.ControlKind.TheVariants.{ConnectRequest}
use Rattle.packet_header.specs.declared.packet.ControlKind.TheVariants.{DisconnectRequest}
use Rattle.packet_header.specs.declared.packet.MessageHeader.{MessageHeader}
use Rattle.rpc_laws.specs.declared.tables.Asking.{Asking}
use Rattle.rpc_laws.specs.declared.tables.Client.{Client}
use Rattle.rpc_laws.specs.declared.tables.Way.{Way}
use Rattle.rpc_base.specs.Tables.{at_first, without_first}
use Rattle.rpc_base.specs.declared.limits.TheConstants.{SESSION_NUMBERS}
use Rattle.rpc_laws.specs.Front.{control_of}
use Rattle.rpc_laws.specs.Calls.{is_call, is_active, asking, begun, moved, posted_up_to}
use Rattle.rpc_laws.specs.Calls.{rolled_back, sent_packet, took_reply}
use Rattle.rpc_laws.specs.Lives.{no_life}

abbrev pub is_client : ℕ → Client → Bool
is_client number x = x.way.number == number

abbrev pub has_call : ℕ → Client → Bool
has_call number x = list_any (is_call number) x.calls

-- whether packets of calls are taken: the session is Connected, also where it is spent
abbrev pub is_connected : SessionState → Bool
is_connected Connected = true
is_connected Spent = true
is_connected _ = false

-- whether a session's credits count: it is live from Opened or its pairing until it failed, is
-- closed or broke
abbrev pub is_live : SessionState → Bool
is_live Connecting = true
is_live Connected = true
is_live Spent = true
is_live Closing = true
is_live _ = false

-- eight slots in which no request began
abbrev pub no_turns : List ℕ
no_turns = 0 ∷ 0 ∷ 0 ∷ 0 ∷ 0 ∷ 0 ∷ 0 ∷ 0 ∷ []

abbrev pub client_end : (number peer other credits life : ℕ) → Client
client_end number peer other credits life = record {
  way = record { number = number; peer = peer; other = other; life = life };
  state = Connected;
  limit = credits;
  free = credits;
  sends = 0;
  sent_at = 0;
  asked = 0;
  turns = no_turns;
  calls = [];
}

-- no session's number
abbrev pub no_session : ℕ
no_session = SESSION_NUMBERS

-- Opened: the server's number and its life aren't known yet
abbrev pub opened_end : ℕ → ℕ → ℕ → Client
opened_end number peer credits =
    record (client_end number peer no_session credits no_life) { state = Connecting }

-- another state, in which none of the session's own requests was sent
abbrev pub comes_to : SessionState → Client → Client
comes_to state x = record x { state = state; sends = 0; sent_at = 0 }

-- Connected with server session t, in this life of its node
abbrev pub connects : (t life : ℕ) → Client → Client
connects t life x =
    record (comes_to Connected x) { way = record x.way { other = t; life = life } }

-- whether the other end of a way is session t in this life
abbrev pub is_with : (t life : ℕ) → Way → Bool
is_with t life way = way.other == t && way.life == life

-- whether a control packet is a session's own request: while it is Connecting that to connect, and
-- while it is Closing that to disconnect its server session
abbrev pub is_request_of : ControlKind → (server to_life : Option ℕ) → SessionState → Way → Bool
is_request_of ConnectRequest server to_life Connecting way = true
is_request_of DisconnectRequest (Some t) (Some life) Closing way = is_with t life way
is_request_of _ server to_life state way = false

-- one more of its own requests was sent, at this clock
abbrev pub requests : (clock : ℕ) → ControlHeader → Client → Client
requests clock h x =
    if is_request_of h.kind h.server h.to_life x.state x.way then record
    x { sends = x.sends + 1; sent_at = clock } else x

-- a control packet with this header was sent, if it is one
abbrev pub clients_told : (clock : ℕ) → Option ControlHeader → List Client → List Client
clients_told clock None xs = xs
clients_told clock (Some h) xs = at_first (is_client h.client) (requests clock h) xs

-- the slot of r has had one more turn
abbrev pub turned : ℕ → List ℕ → List ℕ
turned slot turns = slice_set turns slot (slice_index turns slot + 1)

abbrev pub begins : ℕ → ℕ → Client → Client
begins number r x =
    record x { turns = turned (r % 8) x.turns; calls = at_first (is_call number) (begun r) x.calls }

-- Asked
abbrev pub asks : Asking → Client → Client
asks a x = record x { asked = x.asked + 1; calls = asking a x.calls }

-- Posted takes one credit
abbrev pub posts : ℕ → ℕ → Client → Client
posts r k x =
    record x { free = x.free - 1; calls = at_first (is_active r) (moved (posted_up_to k)) x.calls }

abbrev pub sends : (clock r k : ℕ) → Client → Client
sends clock r k x =
    record x { calls = at_first (is_active r) (moved (sent_packet clock k)) x.calls }

-- Took gives one credit back
abbrev pub takes : (clock r : ℕ) → Option MessageHeader → List ℕ → Client → Client
takes clock r head body x = record x {
  free = x.free + 1;
  calls = at_first (is_active r) (moved (took_reply clock head body)) x.calls;
}

-- Rolled gives back the credits of the packets that were posted and not answered
abbrev pub rolls : (number posted got : ℕ) → Client → Client
rolls number posted got x = record x {
  free = x.free + (posted - got);
  calls = at_first (is_call number) (moved (rolled_back got)) x.calls;
}

-- Broken: a broken session has no credits
abbrev pub breaks : Client → Client
breaks x = record x { state = IsBroken; free = 0 }

abbrev pub ends : ℕ → Client → Client
ends number x = record x { calls = without_first (is_call number) x.calls }

-- the event happened at this clock; bytes are the fact's, head and body those of the packet at the
-- front of the ring
abbrev pub clients_after : ℕ → Event → List ℕ → Option MessageHeader → List ℕ → List Client
    → List Client
clients_after clock (PairedClient s peer t credits life) bytes head body xs =
    xs ++ client_end s peer t credits life ∷ []
clients_after clock (Opened s peer credits) bytes head body xs =
    xs ++ opened_end s peer credits ∷ []
clients_after clock (IsConnected s t life) bytes head body xs =
    at_first (is_client s) (connects t life) xs
clients_after clock (FailedNoRoom s) bytes head body xs =
    at_first (is_client s) (comes_to Failed) xs
clients_after clock (FailedNoAnswer s) bytes head body xs =
    at_first (is_client s) (comes_to Failed) xs
clients_after clock (BeginsClosing s) bytes head body xs =
    at_first (is_client s) (comes_to Closing) xs
clients_after clock (ClosedHeard s) bytes head body xs = at_first (is_client s) (comes_to Closed) xs
clients_after clock (ClosedUnheard s) bytes head body xs =
    at_first (is_client s) (comes_to Closed) xs
clients_after clock (Sent peer Control k) bytes head body xs =
    clients_told clock (control_of bytes) xs
clients_after clock (Asked c s y room) bytes head body xs =
    at_first (is_client s) (asks (record { number = c; req_type = y; room = room; ask = bytes })) xs
clients_after clock (Begun c r) bytes head body xs = at_first (has_call c) (begins c r) xs
clients_after clock (Posted (Ask s r) k) bytes head body xs = at_first (is_client s) (posts r k) xs
clients_after clock (Sent peer (Ask s r) k) bytes head body xs =
    at_first (is_client s) (sends clock r k) xs
clients_after clock (Took (Ask s r) k) bytes head body xs =
    at_first (is_client s) (takes clock r head body) xs
clients_after clock (Rolled c posted got) bytes head body xs =
    at_first (has_call c) (rolls c posted got) xs
clients_after clock (Broken s) bytes head body xs = at_first (is_client s) breaks xs
clients_after clock (DoneOk c) bytes head body xs = at_first (has_call c) (ends c) xs
clients_after clock (DoneTooSmall c size) bytes head body xs = at_first (has_call c) (ends c) xs
clients_after clock (DonePeerLost c) bytes head body xs = at_first (has_call c) (ends c) xs
clients_after clock _ bytes head body xs = xs
