-- What a node has of the sessions that a control packet names, and what a row of the control rule
-- tells of it.
use Rattle.std.specs.Prelude.{◌≡◌, ℕ, ◌+◌, ◌==◌, ◌&&◌, ◌||◌, nat_lt, nat_le, not, Bool, true, false}
use Rattle.std.specs.Prelude.{Option, Some, None, option_map, is_some, if◌then◌else◌}
use Rattle.std.specs.List.{find}
use Rattle.packet_header.specs.declared.packet.ControlHeader.{ControlHeader}
use Rattle.packet_header.specs.declared.packet.ControlKind.{ControlKind}
use Rattle.packet_header.specs.declared.packet.ControlKind.TheVariants.{ConnectRequest}
use Rattle.rpc_base.specs.declared.limits.TheConstants.{SESSION_NUMBERS}
use Rattle.rpc_base.specs.declared.state.SessionState.{SessionState}
use Rattle.rpc_base.specs.declared.state.SessionState.TheVariants.{Closing, Connecting}
use Rattle.rpc_laws.specs.declared.rows.ControlRow.{ControlRow}
use Rattle.rpc_laws.specs.declared.rows.ControlRow.TheVariants.{Accepts, Closes, Connects, Ends}
use Rattle.rpc_laws.specs.declared.rows.ControlRow.TheVariants.{Fails, Starves}
use Rattle.rpc_laws.specs.declared.tables.Client.{Client}
use Rattle.rpc_laws.specs.declared.tables.Lists.{Lists}
use Rattle.rpc_laws.specs.declared.tables.Server.{Server}
use Rattle.rpc_laws.specs.ControlTable.{is_end_of, is_for, named_end}
use Rattle.rpc_laws.specs.Groups.{shares, told_state}
use Rattle.rpc_laws.specs.Lives.{known_life}
use Rattle.rpc_laws.specs.Sessions.{is_client}
use Rattle.session_mgmt.specs.declared.control.Found.{Found}
use Rattle.session_mgmt.specs.declared.control.OtherEnd.{OtherEnd}
use Rattle.session_mgmt.specs.declared.control.OwnEnd.{OwnEnd}

abbrev pub other_end : Server → OtherEnd
other_end v = record { number = v.way.number; credits = v.credits }

abbrev pub own_end : Client → OwnEnd
own_end x = record {
  peer = x.way.peer;
  state = told_state x.state x.asked;
  credits = x.limit;
  server = x.way.other;
  life = x.way.life;
}

-- what a node with these lists has of what a packet of a peer names
abbrev pub found_in : (peer : ℕ) → ControlHeader → Lists → Found
found_in peer h s = record {
  end = option_map other_end (find (is_end_of peer h.client h.from_life) s.servers);
  is_named = is_some (named_end peer h.client h.from_life h.server s.servers);
  own = option_map own_end (find (is_client h.client) s.clients);
  life = s.life;
  known = known_life peer s.known;
  numbers = s.server_numbers;
  shares = shares s;
  ring = s.room;
}

-- the row where memory for a session is wanting
abbrev pub starved : ControlRow → ControlRow
starved (Accepts t) = Starves
starved row = row

abbrev pub starved_if : (lacks : Bool) → ControlRow → ControlRow
starved_if false row = row
starved_if true row = starved row

-- whether a packet's sender is of an older life than is known of the peer
abbrev pub is_stale : ControlHeader → Found → Bool
is_stale h f = nat_lt h.from_life f.known

-- whether a packet concerns this life of a node: a connect request concerns each
abbrev pub concerns : (life : ℕ) → ControlKind → (to : Option ℕ) → Bool
concerns life ConnectRequest to = true
concerns life kind to = is_for life to

-- whether a client session is connected with a server session in this life of its node
abbrev pub is_its : OwnEnd → (server life : ℕ) → Bool
is_its x server life = x.server == server && x.life == life

-- whether that is the one that a packet names, if it names one
abbrev pub names_it : OwnEnd → (server : Option ℕ) → (life : ℕ) → Bool
names_it x None life = false
names_it x (Some t) life = is_its x t life

-- whether there are a number and room for a server session of so many credits
abbrev pub accepts : (credits : ℕ) → Found → Bool
accepts credits f = not (nat_lt f.ring (f.shares + credits) || nat_le SESSION_NUMBERS f.numbers)

-- a client session, where it was opened to this peer
abbrev pub opened_to : (peer : ℕ) → Option OwnEnd → Option OwnEnd
opened_to peer None = None
opened_to peer (Some x) = if x.peer == peer then Some x else None

-- a row that changes a client session in this state, to which the packet names this server session;
-- no other row changes a session
abbrev pub HasOwnCause : ControlRow → SessionState → (server : Option ℕ) → Type 0
HasOwnCause (Connects t) state server = (state ≡ Connecting) × (server ≡ Some t)
HasOwnCause Fails state server = state ≡ Connecting
HasOwnCause Closes state server = state ≡ Closing
HasOwnCause (Accepts t) state server = ⊥
HasOwnCause Starves state server = ⊥
HasOwnCause Ends state server = ⊥
HasOwnCause row state server = Unit {0}

-- the client session that the packet names is there, and has the state that the row wants
pub record ChangesOwn (row : ControlRow) (h : ControlHeader) (f : Found) : Type 0 where
  pub own : OwnEnd
  pub found : f.own ≡ Some own
  pub cause : HasOwnCause row own.state h.server

-- a row that makes server session t: a connect request asks for it, of no older life than is known,
-- t is the next number, and there is room
pub record MakesServer (t : ℕ) (h : ControlHeader) (f : Found) : Type 0 where
  pub asked : h.kind ≡ ConnectRequest
  pub fresh : is_stale h f ≡ false
  pub number : t ≡ f.numbers
  pub fits : accepts h.credits f ≡ true

-- why a row makes, ends or changes a session
abbrev pub HasCause : ControlRow → ControlHeader → Found → Type 0
HasCause (Accepts t) h f = MakesServer t h f
HasCause Starves h f = ⊥
HasCause Ends h f = f.is_named ≡ true
HasCause (Connects t) h f = ChangesOwn (Connects t) h f
HasCause Fails h f = ChangesOwn Fails h f
HasCause Closes h f = ChangesOwn Closes h f
HasCause row h f = Unit {0}
