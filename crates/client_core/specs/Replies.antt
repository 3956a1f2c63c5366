-- What a reply does to the call that it is for, to its session and to the pool.
use Rattle.std.specs.Prelude.{◌≡◌, ℕ, ◌+◌, ◌-◌, ◌*◌, ◌%◌, ◌<◌, ◌≤◌, ◌==◌, Bool, true, false, Option}
use Rattle.std.specs.Prelude.{Some, None, option_map, is_none, IfSome, List, if◌then◌else◌}
use Rattle.std.specs.List.{find}
use Rattle.rpc_base.specs.declared.limits.TheConstants.{PART_BYTES}
use Rattle.rpc_base.specs.Tables.{at_first, without_first}
use Rattle.rpc_base.specs.declared.state.DropReason.TheVariants.{NoCall}
use Rattle.packet_header.specs.Parts.{packet_count}
use Rattle.packet_header.specs.declared.packet.MessageHeader.{MessageHeader}
use Rattle.message_buffer.specs.Buffer.{Buffer, with_len, written}
use Rattle.buffer_pool.specs.Pool.{Pool, buf_at, changed, emptied, refs_of}
use Rattle.credit_book.specs.Credits.{given_back, rolled}
use Rattle.rpc_laws.specs.declared.rows.ClientRow.{ClientRow}
use Rattle.rpc_laws.specs.declared.rows.ClientRow.TheVariants.{Drops, Takes}
use Rattle.rpc_laws.specs.declared.rows.EndRow.{EndRow}
use Rattle.rpc_laws.specs.declared.rows.EndRow.TheVariants.{GoesOn, EndsOk, EndsTooSmall}
use Rattle.rpc_laws.specs.Calls.{is_response}
use Rattle.rpc_laws.specs.ClientTable.{end_row, is_of_turn, is_same_size, turn_row}
use Rattle.session_slots.specs.Slots.{ended}
use Rattle.client_core.specs.declared.call.ActiveCall.{ActiveCall}
use Rattle.client_core.specs.declared.outcome.Done.{Done}
use Rattle.client_core.specs.declared.outcome.Outcome.{Outcome}
use Rattle.client_core.specs.declared.outcome.Outcome.TheVariants.{Ok, TooSmall, PeerLost}
use Rattle.client_core.specs.declared.outcome.Reply.{Reply}
use Rattle.client_core.specs.declared.outcome.Reply.TheVariants.{Took, Ended, Dropped}
use Rattle.client_core.specs.Session.{Session}

-- whether a call has this request number
abbrev pub is_request : ℕ → ActiveCall → Bool
is_request r c = c.request == r

-- the active call with this request number
abbrev pub call_as : ℕ → Session → Option ActiveCall
call_as r s = find (is_request r) s.active

-- the row of the client table for a reply to a call
abbrev pub call_row : Bool → MessageHeader → ℕ → ActiveCall → ClientRow
call_row is_waiting h body_len c =
    turn_row is_waiting (packet_count c.len) c.req_type c.got c.posted c.size h body_len

-- the row of the client table, once the session is found
abbrev pub reply_row : Bool → MessageHeader → ℕ → Option ActiveCall → ClientRow
reply_row is_waiting h body_len None = Drops NoCall
reply_row is_waiting h body_len (Some c) = call_row is_waiting h body_len c

-- the first part of the answer tells its size
abbrev pub size_told : Option ℕ → MessageHeader → Option ℕ
size_told size h = if is_response h.kind then Some h.size else size

-- a reply was taken: one more in turn, no rollback since, and the mark is now
abbrev pub replied : ℕ → MessageHeader → ActiveCall → ActiveCall
replied now h c = record c { got = c.got + 1; rolls = 0; mark = now; size = size_told c.size h }

-- how the call stands then
abbrev pub end_of : MessageHeader → ActiveCall → EndRow
end_of h c = end_row (is_none c.size) (packet_count c.len) c.room (c.got + 1) (size_told c.size h)

-- the first part of an answer gives its buffer the answer's length
abbrev pub sized : Option ℕ → ℕ → Buffer → Buffer
sized None size b = with_len size b
sized (Some told) size b = b

-- a reply was taken: it is the one whose turn it is, of the kind, type, size and length of its turn
pub record IsTaken (c : ActiveCall) (h : MessageHeader) (body_len : ℕ) : Type 0 where
  pub next : h.number ≡ c.got
  pub posted : c.got < c.posted
  pub of_turn : is_of_turn (packet_count c.len) c.req_type c.size h body_len ≡ true

-- the body is a part of an answer that the call has room for
pub record IsPart (c : ActiveCall) (h : MessageHeader) (body_len : ℕ) : Type 0 where
  pub answers : packet_count c.len ≤ h.number + 1
  pub within : PART_BYTES * (h.number + 1 - packet_count c.len) + body_len ≤ h.size
  pub same : is_same_size c.size h.size ≡ true
  pub fits : h.size ≤ c.room

-- a part of the answer is written to its place in the message
abbrev pub with_part : ActiveCall → MessageHeader → List ℕ → Buffer → Buffer
with_part c h body b =
    written (PART_BYTES * (h.number + 1 - packet_count c.len)) body (sized c.size h.size b)

abbrev pub rewritten_at : ℕ → (Buffer → Buffer) → Option Buffer → Pool → Pool
rewritten_at p f None pool = pool
rewritten_at p f (Some b) pool = changed p (f b) pool

-- a part of the answer goes straight into the answer's buffer, and a CR has none
abbrev pub answered : ActiveCall → MessageHeader → List ℕ → Pool → Pool
answered c h body pool =
    if is_response h.kind then rewritten_at c.answer (with_part c h body) (buf_at pool c.answer)
    pool else pool

-- a reply was taken and its call goes on: one credit is back
abbrev pub after_reply : ℕ → MessageHeader → ActiveCall → Session → Session
after_reply now h c s = record s {
  credits = given_back (c.request % 8) s.credits;
  active = at_first (is_request c.request) (replied now h) s.active;
}

-- a call is over: its credits are back, its slot is free, and it has left the active calls
abbrev pub without_call : ActiveCall → Session → Session
without_call c s = record s {
  credits = rolled (c.request % 8) s.credits;
  slots = ended c.request s.slots;
  active = without_first (is_request c.request) s.active;
}

-- its two places are empty
abbrev pub without_buffers : ActiveCall → Pool → Pool
without_buffers c pool = emptied c.answer (emptied c.ask pool)

-- the response buffer as it is handed back: with the answer, or with no bytes
abbrev pub returned : Outcome → Buffer → Buffer
returned Ok b = b
returned (TooSmall size) b = with_len 0 b
returned PeerLost b = with_len 0 b

-- an active call that is over as it is handed back, its buffers being those that the pool had
pub record IsDone (session : ℕ) (outcome : Outcome) (c : ActiveCall) (pool : Pool) (d : Done)
    : Type 0 where
  pub call : d.call ≡ c.call
  pub of_session : d.session ≡ session
  pub tag : d.tag ≡ c.tag
  pub ended_as : d.outcome ≡ outcome
  pub req : buf_at pool c.ask ≡ Some d.req
  pub resp : option_map (returned outcome) (buf_at pool c.answer) ≡ Some d.resp

-- a taken reply that ends its call, by how the call stands
abbrev pub EndsBy : EndRow → ℕ → MessageHeader → List ℕ → ActiveCall → Pool → Done → Type 0
EndsBy GoesOn session h body c pool d = ⊥
EndsBy EndsOk session h body c pool d = IsDone session Ok c (answered c h body pool) d
EndsBy (EndsTooSmall size) session h body c pool d = IsDone session (TooSmall size) c pool d

-- a reply was taken, and its call goes on
pub record GoesOnWith (now : ℕ) (h : MessageHeader) (body : List ℕ) (c : ActiveCall)
    (old new : Session) (before after : Pool) : Type 0 where
  pub found : call_as h.request old ≡ Some c
  pub stands : end_of h c ≡ GoesOn
  pub session : new ≡ after_reply now h c old
  pub pool : after ≡ answered c h body before

-- a reply was taken, and its call is over
pub record EndsWith (h : MessageHeader) (body : List ℕ) (c : ActiveCall) (d : Done)
    (old new : Session) (before after : Pool) : Type 0 where
  pub found : call_as h.request old ≡ Some c
  -- the reply answers the only packet that isn't answered
  pub next : h.number ≡ c.got
  pub last : c.posted ≡ c.got + 1
  pub ends : EndsBy (end_of h c) old.number h body c before d
  pub session : new ≡ without_call c old
  pub pool : after ≡ without_buffers c before

-- what a reply does to the session and the pool, by its outcome
abbrev pub Replies : Reply → ℕ → MessageHeader → List ℕ → Session → Session → Pool → Pool → Type 0
Replies Took now h body old new before after =
    (c : ActiveCall) × GoesOnWith now h body c old new before after
Replies (Ended d) now h body old new before after =
    (c : ActiveCall) × EndsWith h body c d old new before after
Replies (Dropped why) now h body old new before after = (new ≡ old) × (after ≡ before)

-- the row that a reply's outcome is
abbrev pub row_told : Reply → ClientRow
row_told Took = Takes
row_told (Ended d) = Takes
row_told (Dropped why) = Drops why

-- no entry of the request is left, as where it has one unanswered packet which isn't queued
abbrev pub IsUnheld : Pool → ActiveCall → Type 0
IsUnheld pool c = refs_of pool c.ask ≡ 0

-- where a reply answers the only unanswered packet of a call, and that isn't queued, no entry names
-- its request. Of a reply to another packet nothing is wanted: it is dropped
abbrev pub NextIsUnheld : Pool → Bool → ℕ → Option ActiveCall → Type 0
NextIsUnheld pool is_waiting number found =
    IfSome found (λ c. is_waiting ≡ false → number ≡ c.got → c.posted ≡ c.got + 1 → IsUnheld pool c)
