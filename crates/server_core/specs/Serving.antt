-- What a packet that is taken makes of its request, of the session and of the pool.
use Rattle.std.specs.Prelude.{◌≡◌, ℕ, ◌+◌, ◌-◌, ◌%◌, ◌≤◌, List, [], ◌∷◌, ◌++◌, length}
use Rattle.std.specs.Prelude.{take, Option, Some, None, IfSome}
use Rattle.rpc_base.specs.Tables.{at_first, without_first}
use Rattle.packet_header.specs.declared.packet.MessageHeader.{MessageHeader}
use Rattle.message_buffer.specs.Buffer.{Buffer, bytes_of, capacity_of}
use Rattle.buffer_pool.specs.Pool.{Pool, emptied, refs_of}
use Rattle.server_core.specs.declared.slot.Stored.{Stored}
use Rattle.server_core.specs.declared.slot.SlotRequest.{SlotRequest}
use Rattle.server_core.specs.declared.slot.SlotState.TheVariants.{Taking, Working, Answered}
use Rattle.server_core.specs.Session.{Session, answer_of, ask_of, is_in_slot}

-- a request begins with its first packet, in this place
abbrev pub first_taken : MessageHeader → ℕ → SlotRequest
first_taken h ask = record {
  number = h.request;
  req_type = h.req_type;
  size = h.size;
  taken = 1;
  queued = 1;
  state = Taking ask;
}

-- one of this only packet goes to a worker
abbrev pub first_given : MessageHeader → SlotRequest
first_given h = record {
  number = h.request;
  req_type = h.req_type;
  size = h.size;
  taken = 1;
  queued = 0;
  state = Working;
}

-- one of this only packet has its answer at once, whose reply is queued
abbrev pub first_answered : MessageHeader → Stored → SlotRequest
first_answered h a = record {
  number = h.request;
  req_type = h.req_type;
  size = h.size;
  taken = 1;
  queued = 1;
  state = Answered a;
}

-- one reply more is queued, or one less
abbrev pub one_queued : SlotRequest → SlotRequest
one_queued q = record q { queued = q.queued + 1 }

abbrev pub one_left : SlotRequest → SlotRequest
one_left q = record q { queued = q.queued - 1 }

-- one packet more was taken, whose reply is queued
abbrev pub next_taken : SlotRequest → SlotRequest
next_taken q = record q { taken = q.taken + 1; queued = q.queued + 1 }

-- the last packet was taken, and the request goes to a worker
abbrev pub last_given : SlotRequest → SlotRequest
last_given q = record q { taken = q.taken + 1; state = Working }

-- the worker's answer is there, and the reply to the last packet is queued
abbrev pub worked : Stored → SlotRequest → SlotRequest
worked a q = record q { queued = q.queued + 1; state = Answered a }

-- a request begins in the place of the older one of its slot, behind all others
abbrev pub begun : SlotRequest → List SlotRequest → List SlotRequest
begun q slots = without_first (is_in_slot (q.number % 8)) slots ++ q ∷ []

-- the newest request of a slot goes on
abbrev pub gone_on : SlotRequest → List SlotRequest → List SlotRequest
gone_on q slots = at_first (is_in_slot (q.number % 8)) (λ x. q) slots

abbrev pub with_slots : List SlotRequest → Session → Session
with_slots slots s = record s { slots = slots }

-- the places of a request that is given up are empty
abbrev pub without_answer : Option Stored → Pool → Pool
without_answer None pool = pool
without_answer (Some a) pool = emptied a.place pool

abbrev pub without_ask : Option ℕ → Pool → Pool
without_ask None pool = pool
without_ask (Some p) pool = emptied p pool

abbrev pub without_buffers : SlotRequest → Pool → Pool
without_buffers q pool = without_answer (answer_of q.state) (without_ask (ask_of q.state) pool)

-- those of the older request of a slot, if there is one
abbrev pub given_up : Option SlotRequest → Pool → Pool
given_up None pool = pool
given_up (Some q) pool = without_buffers q pool

-- those of all requests of a session
abbrev pub all_given_up : List SlotRequest → Pool → Pool
all_given_up [] pool = pool
all_given_up (q ∷ qs) pool = all_given_up qs (without_buffers q pool)

-- no entry names the answer
abbrev pub IsUnheld : Pool → SlotRequest → Type 0
IsUnheld pool q = IfSome (answer_of q.state) (λ a. refs_of pool a.place ≡ 0)

-- the buffer of a message of this size that begins with these bytes
pub record IsFirstPart (size : ℕ) (first : List ℕ) (b : Buffer) : Type 0 where
  pub len : b.len ≡ size
  pub room : size ≤ capacity_of b
  pub bytes : take (length first) (bytes_of b) ≡ first
