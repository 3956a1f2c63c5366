-- The slots' own buffers: each has room for the part of one packet, and is at home unless the
-- answer to the newest request of its slot stands in it.
use Rattle.std.specs.Prelude.{◌≡◌, ℕ, ◌<◌, Bool, true, false, not, List, length, Option, Some, None}
use Rattle.std.specs.Prelude.{slice_index_or, slice_set}
use Rattle.std.specs.List.{find}
use Rattle.rpc_base.specs.declared.limits.TheConstants.{PART_BYTES}
use Rattle.message_buffer.specs.Buffer.{Buffer, capacity_of}
use Rattle.server_core.specs.Session.{answer_of, is_in_slot}
use Rattle.server_core.specs.declared.slot.SlotRequest.{SlotRequest}
use Rattle.server_core.specs.declared.slot.Stored.{Stored}

-- there is such a buffer, or there is none
abbrev pub HasOwn : (there : Bool) → Option Buffer → Type 0
HasOwn true None = ⊥
HasOwn true (Some b) = capacity_of b ≡ PART_BYTES
HasOwn false None = Unit {0}
HasOwn false (Some b) = ⊥

-- whether an answer stands in its slot's own buffer
abbrev pub is_own : Option Stored → Bool
is_own None = false
is_own (Some a) = a.own

-- whether that of the newest request of a slot does
abbrev pub is_lent : Option SlotRequest → Bool
is_lent None = false
is_lent (Some q) = is_own (answer_of q.state)

-- a slot's own buffer, if it is at home
abbrev pub home_of : List (Option Buffer) → ℕ → Option Buffer
home_of homes slot = slice_index_or homes slot None

-- each slot's own buffer is at home, unless its newest request has its answer there
pub record AreHome (homes : List (Option Buffer)) (slots : List SlotRequest) : Type 0 where
  pub all : length homes ≡ 8
  pub each : (slot : ℕ) → slot < 8
      → HasOwn (not (is_lent (find (is_in_slot slot) slots))) (home_of homes slot)

-- a buffer that comes home, if one does
abbrev pub brought : ℕ → Option Buffer → List (Option Buffer) → List (Option Buffer)
brought slot None homes = homes
brought slot (Some b) homes = slice_set homes slot (Some b)
