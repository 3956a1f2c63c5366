-- What an application call notes at a node, and what room its sessions leave.
use Rattle.std.specs.Prelude.{ℕ, ◌≡◌, ◌≤◌, ◌+◌, ◌==◌, ◌||◌, nat_lt, nat_le, Bool, not, Option, Some}
use Rattle.std.specs.Prelude.{None, List, [], ◌∷◌, length, sum_by, if◌then◌else◌}
use Rattle.std.specs.List.{find}
use Rattle.rpc_base.specs.declared.event.Event.{Event}
use Rattle.rpc_base.specs.declared.event.Event.TheVariants.{Opened, Closing, NcloseState}
use Rattle.rpc_base.specs.declared.event.Event.TheVariants.{NcloseBusy, Rated, Nrate, Asked}
use Rattle.rpc_base.specs.declared.event.Event.TheVariants.{NcallTooLarge, NcallState, NconnectRing}
use Rattle.rpc_base.specs.declared.event.Event.TheVariants.{NconnectNumbers}
use Rattle.rpc_base.specs.declared.fact.Fact.{Fact}
use Rattle.rpc_base.specs.declared.state.SessionState.{SessionState}
use Rattle.rpc_base.specs.declared.state.SessionState.TheVariants.{Unknown, Connected, Spent}
use Rattle.rpc_base.specs.declared.limits.TheConstants.{MOST_CALLS, MOST_CAPACITY}
use Rattle.rpc_base.specs.declared.limits.TheConstants.{MOST_MESSAGE_BYTES, SESSION_NUMBERS}
use Rattle.rpc_laws.specs.declared.tables.Client.{Client}
use Rattle.rpc_laws.specs.declared.tables.Lists.{Lists}
use Rattle.rpc_laws.specs.declared.tables.Timed.{Timed}
use Rattle.rpc_laws.specs.Facts.{plain, with_bytes}
use Rattle.rpc_laws.specs.Sessions.{is_client, is_connected, is_live}
use Rattle.rpc_laws.specs.Steps.{Goes}

-- a session is spent where it is Connected and 2^45 calls were asked on it
abbrev pub told_state : SessionState → ℕ → SessionState
told_state Connected asked = if nat_lt asked MOST_CALLS then Connected else Spent
told_state state asked = state

-- the state of a client session, Unknown where its number was never used
abbrev pub state_of : Option Client → SessionState
state_of None = Unknown
state_of (Some x) = told_state x.state x.asked

abbrev pub ask_by_state : SessionState → (session req_type room : ℕ) → List ℕ → Lists → Fact
ask_by_state Connected session req_type room ask s =
    with_bytes s.me (Asked s.asked session req_type room) ask
ask_by_state state session req_type room ask s = plain s.me (NcallState session state)

-- a call of more than 1,048,576 bytes is refused, then one on a session that isn't Connected; every
-- other one is accepted, with the next number
abbrev pub ask_fact : (session req_type room : ℕ) → List ℕ → Lists → Fact
ask_fact session req_type room ask s =
    if nat_lt MOST_MESSAGE_BYTES (length ask) then plain s.me (NcallTooLarge session (length ask))
    else ask_by_state (state_of (find (is_client session) s.clients)) session req_type room ask s

-- a call is asked or refused; its message, and the room for its answer, fit in buffers
pub record Asks (session req_type : ℕ) (ask : List ℕ) (room : ℕ) (s : Timed) (x : List Fact)
    (t : Timed) : Type 0 where
  pub facts : x ≡ ask_fact session req_type room ask s.lists ∷ []
  pub goes : Goes s x t
  pub ask_fits : length ask ≤ MOST_CAPACITY
  pub room_fits : room ≤ MOST_CAPACITY

-- the credits of a client session that is live
abbrev pub live_credits : Client → ℕ
live_credits x = if is_live x.state then x.limit else 0

-- the credits of the live sessions of a node
abbrev pub shares : Lists → ℕ
shares s = sum_by live_credits s.clients + sum_by (λ v. v.credits) s.servers

-- 65,535 numbers of client sessions were used, and so many of server sessions
abbrev pub clients_spent : Lists → Bool
clients_spent s = nat_le SESSION_NUMBERS (length s.clients)

abbrev pub servers_spent : Lists → Bool
servers_spent s = nat_le SESSION_NUMBERS s.server_numbers

-- the credits of its live sessions, with so many more, would exceed a node's ring
abbrev pub has_no_room : ℕ → Lists → Bool
has_no_room credits s = nat_lt s.room (shares s + credits)

-- why a node takes no session of so many credits: the numbers are spent, or there is no room
abbrev pub refusal_by : Bool → ℕ → Lists → Option Event
refusal_by spent credits s =
    if spent then Some NconnectNumbers
    else (if has_no_room credits s then Some (NconnectRing (shares s) credits s.room)
    else None)

-- why it takes no client session, no server end of a pair, and neither end of a pair
abbrev pub client_refusal : ℕ → Lists → Option Event
client_refusal credits s = refusal_by (clients_spent s) credits s

abbrev pub server_refusal : ℕ → Lists → Option Event
server_refusal credits s = refusal_by (servers_spent s) credits s

abbrev pub pair_refusal : ℕ → Lists → Option Event
pair_refusal credits s = refusal_by (clients_spent s || servers_spent s) credits s

-- a connect that nothing refuses opens the next client session, with its rate where it has one
abbrev pub connect_by : Option Event → (peer credits rate : ℕ) → Lists → List Fact
connect_by (Some refusal) peer credits rate s = plain s.me refusal ∷ []
connect_by None peer credits rate s =
    plain s.me (Opened (length s.clients) peer credits)
    ∷ (if rate == 0 then [] else plain s.me (Rated (length s.clients) rate) ∷ [])

pub record Connects (peer credits rate : ℕ) (s : Timed) (x : List Fact) (t : Timed) : Type 0 where
  pub facts : x ≡ connect_by (client_refusal credits s.lists) peer credits rate s.lists
  pub goes : Goes s x t

-- how many calls of a session are pending, those that wait included
abbrev pub pending : Option Client → ℕ
pending None = 0
pending (Some x) = length x.calls

-- a disconnect is refused where the session is neither Connected nor Spent, and then where calls
-- are pending
abbrev pub disconnect_by : SessionState → (session calls : ℕ) → Event
disconnect_by state session calls =
    if not (is_connected state) then NcloseState session state
    else (if not (calls == 0) then NcloseBusy session calls
    else Closing session)

abbrev pub disconnect_fact : ℕ → Lists → Fact
disconnect_fact session s =
    let x = find (is_client session) s.clients in
    plain s.me (disconnect_by (state_of x) session (pending x))

pub record Disconnects (session : ℕ) (s : Timed) (x : List Fact) (t : Timed) : Type 0 where
  pub facts : x ≡ disconnect_fact session s.lists ∷ []
  pub goes : Goes s x t

-- a rate is refused where the session isn't live
abbrev pub rate_by : SessionState → (session rate : ℕ) → Event
rate_by state session rate = if is_live state then Rated session rate else Nrate session state

abbrev pub rate_fact : (session rate : ℕ) → Lists → Fact
rate_fact session rate s =
    plain s.me (rate_by (state_of (find (is_client session) s.clients)) session rate)

pub record SetsRate (session rate : ℕ) (s : Timed) (x : List Fact) (t : Timed) : Type 0 where
  pub facts : x ≡ rate_fact session rate s.lists ∷ []
  pub goes : Goes s x t
