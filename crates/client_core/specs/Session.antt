-- The calls of one client session as its callers see them, and what always holds of them.
use Rattle.std.specs.Prelude.{◌≡◌, ℕ, ◌-◌, ◌%◌, ◌<◌, ◌≤◌, ◌==◌, nat_lt, Bool, List, [], length}
use Rattle.std.specs.Prelude.{count_by, is_some, slice_index, slice_index_or, Option, Some, None}
use Rattle.std.specs.Prelude.{option_map, IfSome}
use Rattle.std.specs.List.{AllByRecursion, find}
use Rattle.rpc_base.specs.declared.limits.TheConstants.{SESSION_NUMBERS}
use Rattle.packet_header.specs.Parts.{packet_count, IsMessage}
use Rattle.rpc_laws.specs.Calls.{known_packets}
use Rattle.credit_book.specs.Credits.{Credits, IsBalanced, full_book}
use Rattle.session_slots.specs.declared.active.Active.{Active as Begun}
use Rattle.session_slots.specs.declared.waiting.Waiting.{Waiting}
use Rattle.session_slots.specs.Slots.{Slots, IsSound, all_free, waited}
use Rattle.client_core.specs.declared.call.ActiveCall.{ActiveCall}

pub record Session : Type 0 where
  -- the session's number here, its number at the server, and the life of the server's endpoint
  pub number : ℕ
  pub server : ℕ
  pub life : ℕ
  pub credits : Credits
  -- the eight slots, and the calls that wait for one
  pub slots : Slots
  -- the active calls, oldest first
  pub active : List ActiveCall

-- how many packets a call is known to have: those of its request and, once the answer's size is
-- known, one for each further packet of the answer
abbrev pub known_of : ActiveCall → ℕ
known_of c = known_packets (packet_count c.len) c.size

-- whether a call has a packet that may be posted
abbrev pub can_post : ActiveCall → Bool
can_post c = nat_lt c.posted (known_of c)

-- whether a call has this slot
abbrev pub is_in_slot : ℕ → ActiveCall → Bool
is_in_slot i c = c.request % 8 == i

-- the call that has this slot
abbrev pub call_in : ℕ → List ActiveCall → Option ActiveCall
call_in i calls = find (is_in_slot i) calls

-- packets that were posted and not answered
abbrev pub unanswered_in : Option ActiveCall → ℕ
unanswered_in None = 0
unanswered_in (Some c) = c.posted - c.got

-- how many packets of a call were posted and are neither sent nor flushed
abbrev pub queued_in : Option ActiveCall → ℕ
queued_in None = 0
queued_in (Some c) = c.queued

-- how many bytes a call asks
abbrev pub bytes_in : Option ActiveCall → ℕ
bytes_in None = 0
bytes_in (Some c) = c.len

-- a call as the slots know it
abbrev pub begun_as : ActiveCall → Begun
begun_as c = record { request = c.request; call = c.call }

-- packets are posted before they are answered, and none is posted that the call isn't known to have
pub record IsInTurn (c : ActiveCall) : Type 0 where
  pub len : IsMessage c.len
  pub size : IfSome c.size IsMessage
  pub answered : c.got ≤ c.posted
  pub known : c.posted ≤ known_of c
  pub queued : c.queued ≤ c.posted
  pub rolls : c.rolls ≤ 8

-- each slot has its active call and no other, and the slot's unanswered packets are that call's
pub record IsSession (s : Session) : Type 0 where
  pub number : s.number < SESSION_NUMBERS
  pub server : s.server < SESSION_NUMBERS
  pub life : 1 ≤ s.life
  pub balanced : IsBalanced s.credits
  pub sound : IsSound s.slots
  pub count : length s.active ≡ count_by is_some s.slots.slots
  pub slots : (i : ℕ) → i < 8 → slice_index_or s.slots.slots i None
      ≡ option_map begun_as (call_in i s.active)
  pub apart : (i : ℕ) → count_by (is_in_slot i) s.active ≤ 1
  pub unanswered : (i : ℕ) → i < 8 → slice_index s.credits.unanswered i
      ≡ unanswered_in (call_in i s.active)
  pub in_turn : AllByRecursion IsInTurn s.active
  pub messages : AllByRecursion (λ w. IsMessage w.req.len) s.slots.waiting

-- no call was taken
abbrev pub new_session : (number server life credits : ℕ) → Session
new_session number server life credits = record {
  number = number;
  server = server;
  life = life;
  credits = full_book credits;
  slots = all_free;
  active = [];
}

-- the call waits behind all others
abbrev pub enqueued : Waiting → Session → Session
enqueued w s = record s { slots = waited w s.slots }
