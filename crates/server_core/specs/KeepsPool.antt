-- What a session needs of the pool that it works on.
use Rattle.server_core.specs.Session.{ask_of, answer_of}
use Rattle.std.specs.Prelude.{◌≡◌, ℕ, ◌+◌, ◌==◌, if◌then◌else◌, List, sum_by, Option}
use Rattle.std.specs.Prelude.{Some, None, IfSome, true}
use Rattle.buffer_pool.specs.Places.{KeepsAll, LeavesUnnamed}
use Rattle.buffer_pool.specs.Pool.{Pool, IsFull, buf_at, refs_of, spare_of}
use Rattle.server_core.specs.declared.slot.Stored.{Stored}
use Rattle.server_core.specs.declared.slot.SlotRequest.{SlotRequest}
use Rattle.message_buffer.specs.Messages.{HasSize}
use Rattle.server_core.specs.Homes.{HasOwn}

-- the pool has the buffer of a message; if that is its slot's own, with the room of such a buffer
pub record IsStored (pool : Pool) (a : Stored) : Type 0 where
  pub full : IsFull pool a.place
  pub size : HasSize a.size (buf_at pool a.place)
  pub own : a.own ≡ true → HasOwn true (buf_at pool a.place)

-- the pool has the buffer of a request of this size, which no entry names
pub record IsAsked (pool : Pool) (size p : ℕ) : Type 0 where
  pub full : IsFull pool p
  pub size_is : HasSize size (buf_at pool p)
  pub unnamed : refs_of pool p ≡ 0

-- the pool has the request's buffer unless that went with a job, and the answer's once there is one
pub record IsKept (pool : Pool) (q : SlotRequest) : Type 0 where
  pub ask : IfSome (ask_of q.state) (IsAsked pool q.size)
  pub answer : IfSome (answer_of q.state) (IsStored pool)

-- how often a request's place is this one
abbrev pub ask_names : ℕ → Option ℕ → ℕ
ask_names p None = 0
ask_names p (Some a) = if a == p then 1 else 0

-- how often an answer's place is this one
abbrev pub answer_names : ℕ → Option Stored → ℕ
answer_names p None = 0
answer_names p (Some a) = if a.place == p then 1 else 0

-- how often a request names a place
abbrev pub own_names : ℕ → SlotRequest → ℕ
own_names p q = ask_names p (ask_of q.state) + answer_names p (answer_of q.state)

abbrev pub names : ℕ → List SlotRequest → ℕ
names p slots = sum_by (own_names p) slots

-- the pool has the buffers of all requests, each in a place of its own
abbrev pub KeepsPool : Pool → List SlotRequest → Type 0
KeepsPool = KeepsAll IsKept names

-- a place with a use that no request of the session named is named by none of it then, and is as it
-- was
abbrev pub LeavesOthers : (old new : List SlotRequest) → (before after : Pool) → Type 0
LeavesOthers = LeavesUnnamed names

-- how many places a request names: one unless its bytes went with a job, and one more from its
-- answer on
abbrev pub ask_places : Option ℕ → ℕ
ask_places None = 0
ask_places (Some p) = 1

abbrev pub answer_places : Option Stored → ℕ
answer_places None = 0
answer_places (Some a) = 1

abbrev pub own_places : SlotRequest → ℕ
own_places q = ask_places (ask_of q.state) + answer_places (answer_of q.state)

-- how many those of a session name
abbrev pub places : List SlotRequest → ℕ
places slots = sum_by own_places slots

-- what the session names more is less spare, and what it names no more is spare again
abbrev pub KeepsSpare : (old new : List SlotRequest) → (before after : Pool) → Type 0
KeepsSpare old new before after = spare_of after + places new ≡ spare_of before + places old
