-- What a session needs of the pool that it works on, and what it makes of it.
use Rattle.std.specs.Prelude.{◌≡◌, ℕ, ◌+◌, ◌<◌, ◌≤◌, ◌==◌, if◌then◌else◌, List, sum_by, Option}
use Rattle.std.specs.Prelude.{Some, None, IfSome}
use Rattle.std.specs.List.{AllByRecursion}
use Rattle.rpc_base.specs.declared.limits.TheConstants.{MOST_REFERENCES}
use Rattle.message_buffer.specs.Buffer.{Buffer, capacity_of}
use Rattle.buffer_pool.specs.Places.{KeepsAll, LeavesUnnamed}
pub use Rattle.buffer_pool.specs.Places.{IsHeld, MayHold, held_at, released_at}
use Rattle.buffer_pool.specs.Pool.{Pool, IsFull, buf_at, refs_of}
use Rattle.packet_rings.specs.Values.{EntryValue}
use Rattle.client_core.specs.declared.call.ActiveCall.{ActiveCall}
use Rattle.message_buffer.specs.Messages.{HasSize}

-- the answer's size is told: it is the buffer's length, and fits the room
abbrev pub IsTold : (room len : ℕ) → Option ℕ → Type 0
IsTold room len size = IfSome size (λ n. (len ≡ n) × (n ≤ room))

-- the buffer for an answer has this room, and the answer's length once that is told
abbrev pub HasRoom : ℕ → Option ℕ → Option Buffer → Type 0
HasRoom room size None = ⊥
HasRoom room size (Some b) = (capacity_of b ≡ room) × IsTold room b.len size

-- the pool has the call's two buffers, and no entry names that of the answer
pub record IsKept (pool : Pool) (c : ActiveCall) : Type 0 where
  pub ask : IsFull pool c.ask
  pub answer : IsFull pool c.answer
  pub size : HasSize c.len (buf_at pool c.ask)
  pub room : HasRoom c.room c.size (buf_at pool c.answer)
  pub unnamed : refs_of pool c.answer ≡ 0

-- how often calls name a place
abbrev pub names : ℕ → List ActiveCall → ℕ
names p calls =
    sum_by (λ c. (if c.ask == p then 1 else 0) + (if c.answer == p then 1 else 0)) calls

-- the pool has the buffers of all active calls, each in a place of its own
abbrev pub KeepsPool : Pool → List ActiveCall → Type 0
KeepsPool = KeepsAll IsKept names

-- a place with a use that no call of the session named is named by none of it then, and is as it
-- was
abbrev pub LeavesOthers : (old new : List ActiveCall) → (before after : Pool) → Type 0
LeavesOthers = LeavesUnnamed names

-- one reference more can be counted to each request
abbrev pub CanHold : Pool → List ActiveCall → Type 0
CanHold pool calls = AllByRecursion (λ c. refs_of pool c.ask < MOST_REFERENCES) calls

-- that of an entry, if there is one
abbrev pub held_for : Option EntryValue → Pool → Pool
held_for None pool = pool
held_for (Some e) pool = held_at e.place pool
