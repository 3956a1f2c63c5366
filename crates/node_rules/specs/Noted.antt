-- What an application call, a delivery, or the world's working of a job notes at a node: one fact,
-- whose event tells what was called for, and whether the node answers so.
use Rattle.std.specs.Prelude.{ℕ, ◌≡◌, ◌==◌, ◌&&◌, ◌||◌, nat_lt, nat_le, not, Bool, true, false}
use Rattle.std.specs.Prelude.{List, [], length}
use Rattle.std.specs.List.{find, list_any}
use Rattle.rpc_base.specs.declared.event.Event.{Event}
use Rattle.rpc_base.specs.declared.event.Event.TheVariants.{Arrived, Asked, Bad, Opened, Closing}
use Rattle.rpc_base.specs.declared.event.Event.TheVariants.{Missed, NcallState, NcallTooLarge}
use Rattle.rpc_base.specs.declared.event.Event.TheVariants.{NcloseBusy, NcloseState, NconnectRing}
use Rattle.rpc_base.specs.declared.event.Event.TheVariants.{NconnectNumbers, Nrate, Overflowed}
use Rattle.rpc_base.specs.declared.event.Event.TheVariants.{PairedClient, PairedServer, Rated}
use Rattle.rpc_base.specs.declared.event.Event.TheVariants.{Worked}
use Rattle.rpc_base.specs.declared.fact.Fact.{Fact}
use Rattle.rpc_base.specs.declared.fact.Who.TheVariants.{Node}
use Rattle.rpc_base.specs.declared.limits.TheConstants.{MOST_CAPACITY, MOST_CREDITS}
use Rattle.rpc_base.specs.declared.limits.TheConstants.{MOST_MESSAGE_BYTES, SESSION_NUMBERS}
use Rattle.rpc_base.specs.declared.state.SessionState.{SessionState}
use Rattle.rpc_base.specs.declared.state.SessionState.TheVariants.{Unknown, Connecting, Connected}
use Rattle.rpc_base.specs.declared.state.SessionState.TheVariants.{Closing as IsClosing, Closed}
use Rattle.rpc_base.specs.declared.state.SessionState.TheVariants.{Failed, Broken, Spent}
use Rattle.rpc_laws.specs.declared.tables.Lists.{Lists}
use Rattle.rpc_laws.specs.Deliveries.{inbox_room}
use Rattle.rpc_laws.specs.Front.{is_control, is_message}
use Rattle.rpc_laws.specs.Groups.{clients_spent, has_no_room, pending, servers_spent, shares}
use Rattle.rpc_laws.specs.Groups.{state_of}
use Rattle.rpc_laws.specs.Jobs.{is_job}
use Rattle.rpc_laws.specs.Sessions.{is_client, is_connected, is_live}

abbrev pub are_credits : ℕ → Bool
are_credits credits = nat_le 1 credits && nat_le credits MOST_CREDITS

-- a session of so many credits is made: its numbers aren't spent, and there is room
abbrev pub is_taken : Bool → ℕ → Lists → Bool
is_taken spent credits s = are_credits credits && (not spent && not (has_no_room credits s))

-- it isn't, for want of room, where the numbers of one end at least aren't spent
abbrev pub lacks_room : ℕ → Lists → Bool
lacks_room credits s =
    are_credits credits && (not (clients_spent s && servers_spent s) && has_no_room credits s)

-- the place of a state in its type
abbrev pub state_number : SessionState → ℕ
state_number Unknown = 0
state_number Connecting = 1
state_number Connected = 2
state_number IsClosing = 3
state_number Closed = 4
state_number Failed = 5
state_number Broken = 6
state_number Spent = 7

abbrev pub is_state : SessionState → SessionState → Bool
is_state a b = state_number a == state_number b

-- calls are accepted
abbrev pub is_open : SessionState → Bool
is_open Connected = true
is_open _ = false

abbrev pub state_in : ℕ → Lists → SessionState
state_in session s = state_of (find (is_client session) s.clients)

abbrev pub pending_in : ℕ → Lists → ℕ
pending_in session s = pending (find (is_client session) s.clients)

-- a datagram stands in the ring, or in the inbox
abbrev pub has_place : Lists → List ℕ → Bool
has_place s bytes =
    (is_message bytes && nat_lt (length s.ring) s.room)
    || (not (is_message bytes) && (is_control bytes && nat_lt (length s.inbox) inbox_room))

abbrev pub is_packet : List ℕ → Bool
is_packet bytes = is_message bytes || is_control bytes

-- whether the node answers so to a connect, or where an end of a pair is made, as the event tells
-- it
abbrev pub is_session_answer : Lists → Event → Bool
is_session_answer s (PairedClient n peer t credits life) =
    (n == length s.clients) && (nat_lt t SESSION_NUMBERS && is_taken (clients_spent s) credits s)
is_session_answer s (PairedServer n peer c credits life) =
    (n == s.server_numbers) && (nat_lt c SESSION_NUMBERS && is_taken (servers_spent s) credits s)
is_session_answer s (Opened n peer credits) =
    (n == length s.clients) && is_taken (clients_spent s) credits s
is_session_answer s NconnectNumbers = clients_spent s || servers_spent s
is_session_answer s (NconnectRing taken credits room) =
    (taken == shares s) && ((room == s.room) && lacks_room credits s)
is_session_answer s _ = false

-- to a disconnect, a rate, or a call of so many bytes
abbrev pub is_call_answer : Lists → Event → ℕ → Bool
is_call_answer s (Closing x) len = is_connected (state_in x s) && (pending_in x s == 0)
is_call_answer s (NcloseBusy x calls) len =
    is_connected (state_in x s) && (not (calls == 0) && (calls == pending_in x s))
is_call_answer s (NcloseState x state) len =
    not (is_connected (state_in x s)) && is_state state (state_in x s)
is_call_answer s (Rated x rate) len = is_live (state_in x s)
is_call_answer s (Nrate x state) len =
    not (is_live (state_in x s)) && is_state state (state_in x s)
is_call_answer s (Asked c x y room) len =
    (c == s.asked)
    && (nat_le len MOST_MESSAGE_BYTES && (nat_le room MOST_CAPACITY && is_open (state_in x s)))
is_call_answer s (NcallTooLarge x size) len =
    nat_lt MOST_MESSAGE_BYTES size && nat_le size MOST_CAPACITY
is_call_answer s (NcallState x state) len =
    not (is_open (state_in x s)) && is_state state (state_in x s)
is_call_answer s _ len = false

-- to a datagram of these bytes, or where the world works a job
abbrev pub is_outer_answer : Lists → Event → List ℕ → Bool
is_outer_answer s (Arrived peer) bytes = has_place s bytes
is_outer_answer s (Overflowed peer) bytes = is_packet bytes && not (has_place s bytes)
is_outer_answer s (Bad peer) bytes = not (is_packet bytes)
is_outer_answer s (Worked t r) bytes = list_any (is_job t r) s.jobs.out
is_outer_answer s (Missed i) bytes = true
is_outer_answer s _ bytes = false

abbrev pub is_answer : Lists → Event → List ℕ → Bool
is_answer s e bytes =
    is_session_answer s e || (is_call_answer s e (length bytes) || is_outer_answer s e bytes)

-- whether such an event is noted with bytes
abbrev pub has_bytes : Event → Bool
has_bytes (Asked c x y room) = true
has_bytes (Arrived peer) = true
has_bytes (Overflowed peer) = true
has_bytes (Bad peer) = true
has_bytes _ = false

-- the fact is the node's answer
pub record IsNoted (s : Lists) (f : Fact) : Type 0 where
  pub own : f.who ≡ Node s.me
  pub answer : is_answer s f.event f.first ≡ true
  pub first : (has_bytes f.event || (length f.first == 0)) ≡ true
  pub second : f.second ≡ []
