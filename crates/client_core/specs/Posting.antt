-- What a session begins and posts next, and what becomes of it.
use Rattle.std.specs.Prelude.{◌≡◌, ℕ, ◌+◌, ◌-◌, ◌%◌, ◌<◌, ◌==◌, nat_lt, Bool, [], ◌∷◌, ◌++◌, Option}
use Rattle.std.specs.Prelude.{Some, None, option_and_then, option_map, if◌then◌else◌}
use Rattle.std.specs.List.{find}
use Rattle.rpc_base.specs.declared.owner.Owner.{Owner}
use Rattle.rpc_base.specs.declared.owner.Owner.TheVariants.{Ask}
use Rattle.rpc_base.specs.Owners.{same_owner}
use Rattle.rpc_base.specs.Tables.{at_first}
use Rattle.packet_header.specs.Parts.{packet_count}
use Rattle.packet_header.specs.declared.packet.Kind.TheVariants.{Request, Rfr}
use Rattle.packet_header.specs.declared.packet.MessageHeader.{MessageHeader}
use Rattle.message_buffer.specs.Buffer.{capacity_of}
use Rattle.buffer_pool.specs.Pool.{Pool, filled, lowest_empty}
use Rattle.packet_rings.specs.Values.{EntryValue}
use Rattle.credit_book.specs.Credits.{charged}
use Rattle.session_slots.specs.declared.waiting.Waiting.{Waiting}
use Rattle.session_slots.specs.Slots.{Begins, begun}
use Rattle.client_core.specs.declared.call.ActiveCall.{ActiveCall}
use Rattle.client_core.specs.Session.{Session, can_post}

-- a waiting call becomes active: nothing is posted, nothing taken
abbrev pub started : Waiting → (request ask answer : ℕ) → ActiveCall
started w request ask answer = record {
  call = w.call;
  tag = w.tag;
  req_type = w.req_type;
  request = request;
  ask = ask;
  answer = answer;
  len = w.req.len;
  room = capacity_of w.resp;
  got = 0;
  posted = 0;
  queued = 0;
  rolls = 0;
  mark = 0;
  size = None;
}

-- the call that waited longest begins in the lowest free slot, and its buffers go to the lowest
-- empty places of the pool
pub record Starts (call request : ℕ) (old new : Session) (before after : Pool) : Type 0 where
  pub waiting : Waiting
  pub ask : ℕ
  pub answer : ℕ
  pub number : call ≡ waiting.call
  pub begins : Begins request waiting old.slots new.slots
  pub ask_place : lowest_empty before ≡ Some ask
  pub answer_place : lowest_empty (filled ask waiting.req before) ≡ Some answer
  pub session : new ≡ record old {
    slots = begun request call old.slots;
    active = old.active
        ++ started waiting request ask answer ∷ [];
  }
  pub pool : after ≡ filled answer waiting.resp (filled ask waiting.req before)

-- where the bytes of a packet are: a request for a part of the answer has none
abbrev pub place_of : ActiveCall → ℕ → Option ℕ
place_of c k = if nat_lt k (packet_count c.len) then Some c.ask else None

-- the entry of packet k of a call
abbrev pub entry_at : (session peer k : ℕ) → ActiveCall → EntryValue
entry_at session peer k c =
    record { owner = Ask session c.request; number = k; place = place_of c k; peer = peer }

-- that of its next packet
abbrev pub entry_of : (session peer : ℕ) → ActiveCall → EntryValue
entry_of session peer c = entry_at session peer c.posted c

-- the header of packet k of a call, which goes to the server session in this life of its endpoint
abbrev pub head_of : (server life k : ℕ) → ActiveCall → MessageHeader
head_of server life k c =
    if nat_lt k (packet_count c.len) then record {
      kind = Request;
      req_type = c.req_type;
      size = c.len;
      session = server;
      number = k;
      request = c.request;
      to_life = life;
    }
    else record {
      kind = Rfr;
      req_type = 0;
      size = 0;
      session = server;
      number = k;
      request = c.request;
      to_life = life;
    }

-- the oldest call that may post does, where a credit is free
abbrev pub next_call : Session → Option ActiveCall
next_call s = if s.credits.free == 0 then None else find can_post s.active

-- its entry
abbrev pub next_entry : ℕ → Session → Option EntryValue
next_entry peer s = option_map (entry_of s.number peer) (next_call s)

-- one packet more is posted, and is queued
abbrev pub one_posted : ActiveCall → ActiveCall
one_posted c = record c { posted = c.posted + 1; queued = c.queued + 1 }

-- one packet less is queued
abbrev pub one_left : ActiveCall → ActiveCall
one_left c = record c { queued = c.queued - 1 }

-- the call has posted one packet more, which has one credit of its slot
abbrev pub after_posting : Option ActiveCall → Session → Session
after_posting None s = s
after_posting (Some c) s =
    record s {
      credits = charged (c.request % 8) s.credits;
      active = at_first can_post one_posted
          s.active;
    }

-- the session once its next packet is posted
abbrev pub posted : Session → Session
posted s = after_posting (next_call s) s

-- whether an owner's packets are a call's
abbrev pub is_owner : ℕ → Owner → ActiveCall → Bool
is_owner session owner c = same_owner (Ask session c.request) owner

-- the call that an entry is a packet of
abbrev pub call_of : Session → EntryValue → Option ActiveCall
call_of s e = find (is_owner s.number e.owner) s.active

-- a packet of a call is sent: its clock starts anew where that is the packet whose answer it wants
abbrev pub marked : (number now : ℕ) → ActiveCall → ActiveCall
marked number now c = if c.got == number then record (one_left c) { mark = now } else one_left c

-- an entry was sent
abbrev pub sent_at : EntryValue → ℕ → Session → Session
sent_at e now s =
    record s { active = at_first (is_owner s.number e.owner) (marked e.number now) s.active }

-- an entry was taken out unsent
abbrev pub flushed_at : EntryValue → Session → Session
flushed_at e s = record s { active = at_first (is_owner s.number e.owner) one_left s.active }

-- the entry of packet k of a call, where the call posted it
abbrev pub entry_if : (session peer k : ℕ) → ActiveCall → Option EntryValue
entry_if session peer k c = if nat_lt k c.posted then Some (entry_at session peer k c) else None

-- that of the active call with this request number
abbrev pub posted_entry : (peer request k : ℕ) → Session → Option EntryValue
posted_entry peer request k s =
    option_and_then (entry_if s.number peer k) (find (λ c. c.request == request) s.active)

-- the entry is a packet that the call posted
abbrev pub IsPacketOf : Option ActiveCall → EntryValue → Type 0
IsPacketOf None e = ⊥
IsPacketOf (Some c) e = (e.number < c.posted) × (e.place ≡ place_of c e.number)
