-- The room for an answer in the pool: in its slot's own buffer, or in one that was made for it.
use Rattle.std.specs.Prelude.{◌≡◌, ◌≤◌, ℕ, List, Option, Some, true}
use Rattle.rpc_base.specs.declared.limits.TheConstants.{PART_BYTES}
use Rattle.message_buffer.specs.Buffer.{Buffer, bytes_of, capacity_of}
use Rattle.message_buffer.specs.Messages.{HasSize}
use Rattle.buffer_pool.specs.Pool.{Pool, buf_at, changed, filled, held, lowest_empty, refs_of}
use Rattle.packet_header.specs.Parts.{IsMessage}
use Rattle.server_core.specs.Homes.{HasOwn}
use Rattle.server_core.specs.KeepsPool.{IsStored}
use Rattle.server_core.specs.Session.{Session, answer_of}
use Rattle.server_core.specs.declared.running.Room.{Room}
use Rattle.server_core.specs.declared.running.Room.TheVariants.{Own, Made}
use Rattle.server_core.specs.declared.slot.Stored.{Stored}
use Rattle.server_core.specs.declared.slot.SlotRequest.{SlotRequest}

-- how long an answer there is room for
abbrev pub size_in : Room → ℕ
size_in (Own size) = size
size_in (Made b) = b.len

-- an answer of no more than a part has room in its slot's own buffer, and any in a buffer of its
-- own size
abbrev pub IsRoom : Room → Type 0
IsRoom (Own size) = size ≤ PART_BYTES
IsRoom (Made b) = IsMessage b.len × (b.len ≤ capacity_of b)

abbrev pub IsOwn : Room → Type 0
IsOwn (Own size) = Unit {0}
IsOwn (Made b) = ⊥

-- the newest request of a slot has its answer at this place, in the slot's own buffer
pub record IsReusable (p : ℕ) (newest : Option SlotRequest) : Type 0 where
  pub older : SlotRequest
  pub answer : Stored
  pub newest_is : newest ≡ Some older
  pub answer_is : answer_of older.state ≡ Some answer
  pub place_is : answer.place ≡ p
  pub own : answer.own ≡ true

-- the lowest empty place has a buffer for an answer of this size now
pub record IsPut (a : Stored) (before after : Pool) : Type 0 where
  pub lowest : lowest_empty before ≡ Some a.place
  pub buf : Buffer
  pub after_is : after ≡ filled a.place buf before
  pub there : buf_at after a.place ≡ Some buf
  pub size_is : HasSize a.size (Some buf)
  pub own : a.own ≡ true → HasOwn true (Some buf)

-- the pool has room for an answer, in a buffer to which there is no reference
pub record HasRoom (a : Stored) (pool : Pool) : Type 0 where
  pub stored : IsStored pool a
  pub unheld : refs_of pool a.place ≡ 0

-- this is so once an answer stands in its room, whichever its bytes are, and is held there
abbrev pub OnceHeld : Stored → (List ℕ → Pool → Type 0) → Pool → Type 0
OnceHeld a claim pool =
    (b : Buffer) → HasSize a.size (Some b) → (a.own ≡ true → HasOwn true (Some b))
    → claim (bytes_of b) (held a.place (changed a.place b pool))

-- a session has put room for an answer of this size into the pool, and this is so once it is held
pub record PutsRoom (a : Stored) (size : ℕ) (claim : List ℕ → Pool → Type 0) (s w : Session)
    (pool : Pool) : Type 0 where
  pub room : HasRoom a pool
  pub size_is : a.size ≡ size
  pub number : w.number ≡ s.number
  pub once : OnceHeld a claim pool
