-- The slots of a client session, and what each call makes of them.
use Rattle.std.specs.Prelude.{◌≡◌, ◌≢◌, ◌⊎◌, ◌↔◌, ℕ, ◌+◌, ◌*◌, ◌/◌, ◌%◌, ◌<◌, ◌≤◌, ◌==◌}
use Rattle.std.specs.Prelude.{if◌then◌else◌, Option, Some, None, IsSome, is_none, option_and_then}
use Rattle.std.specs.Prelude.{List, [], ◌∷◌, ◌++◌, length, drop, replicate, sum, position}
use Rattle.std.specs.Prelude.{slice_get, slice_index, slice_index_or, slice_set}
use Rattle.rpc_base.specs.declared.limits.TheConstants.{MOST_CALLS}
use Rattle.session_slots.specs.declared.active.Active.{Active}
use Rattle.session_slots.specs.declared.waiting.Waiting.{Waiting}

-- the eight slots, each free or with its active request; how many requests began in each; the
-- waiting calls, oldest first; and how many calls were taken in all
pub record Slots : Type 0 where
  pub slots : List (Option Active)
  pub turns : List ℕ
  pub waiting : List Waiting
  pub taken : ℕ

-- a slot after so many turns: it is free, or has the request of the last turn, whose number is
-- slot + 8 * turn, turns being counted from 0
abbrev pub IsLastTurn : ℕ → ℕ → Option Active → Type 0
IsLastTurn slot turns None = Unit {0}
IsLastTurn slot turns (Some a) = a.request + 8 ≡ slot + 8 * turns

-- eight slots, each free or with the request of its last turn; each call that began or waits was
-- taken, and at most 2^45 were
pub record IsSound (t : Slots) : Type 0 where
  pub slots : length t.slots ≡ 8
  pub turns : length t.turns ≡ 8
  pub newest : (i : ℕ) → i < 8 → IsLastTurn i (slice_index t.turns i)
      (slice_index_or t.slots i None)
  pub counted : sum t.turns + length t.waiting ≤ t.taken
  pub within : t.taken ≤ MOST_CALLS

-- no request began, and no call was taken
abbrev pub all_free : Slots
all_free = record { slots = replicate 8 None; turns = replicate 8 0; waiting = []; taken = 0 }

-- the call waits behind all others
abbrev pub waited : Waiting → Slots → Slots
waited w t = record t { waiting = t.waiting ++ w ∷ []; taken = t.taken + 1 }

-- the call that waited longest is taken out
abbrev pub drained : Slots → Slots
drained t = record t { waiting = drop 1 t.waiting }

-- the lowest slot that is free
abbrev pub lowest_free : Slots → Option ℕ
lowest_free t = position is_none t.slots

-- the call of an active request, if it has this number
abbrev pub call_if : ℕ → Active → Option ℕ
call_if r a = if a.request == r then Some a.call else None

-- the call of the request that is active under this number, in the slot that the number names
abbrev pub active_call : ℕ → Slots → Option ℕ
active_call r t = option_and_then (call_if r) (slice_index_or t.slots (r % 8) None)

abbrev pub IsActive : ℕ → Slots → Type 0
IsActive r t = IsSome (active_call r t)

-- a request began with this number: its turn is one of those that its slot had
abbrev pub WasGiven : ℕ → Slots → Type 0
WasGiven r t = r / 8 < slice_index t.turns (r % 8)

-- the request's slot is free
abbrev pub ended : ℕ → Slots → Slots
ended r t = record t { slots = slice_set t.slots (r % 8) None }

-- the request is active in its slot, which had one more turn, and the longest waiting call left
abbrev pub begun : ℕ → ℕ → Slots → Slots
begun r call t = record t {
  slots = slice_set t.slots (r % 8) (Some (record { request = r; call = call }));
  turns = slice_set t.turns (r % 8) (slice_index t.turns (r % 8) + 1);
  waiting = drop 1 t.waiting;
}

-- the call that waited longest begins in the lowest free slot, with the number of the slot's turn
pub record Begins (r : ℕ) (w : Waiting) (old new : Slots) : Type 0 where
  pub slot : lowest_free old ≡ Some (r % 8)
  pub number : r ≡ r % 8 + 8 * slice_index old.turns (r % 8)
  pub oldest : slice_get old.waiting 0 ≡ Some w
  pub table : new ≡ begun r w.call old

-- no request had this number, those of its slot had lower ones, and no other number is given now
pub record IsNewNumber (r : ℕ) (old new : Slots) : Type 0 where
  pub unused : ¬ WasGiven r old
  pub greatest : (q : ℕ) → WasGiven q old → q % 8 ≡ r % 8 → q < r
  pub given : (q : ℕ) → WasGiven q new ↔ (WasGiven q old ⊎ (q ≡ r))

-- the request wasn't active, and is active for the call; each other one is as it was
pub record Activates (r call : ℕ) (old new : Slots) : Type 0 where
  pub before : active_call r old ≡ None
  pub after : active_call r new ≡ Some call
  pub others : (q : ℕ) → q ≢ r → active_call q new ≡ active_call q old

-- the request isn't active any more; each other one is as it was
pub record Deactivates (r : ℕ) (old new : Slots) : Type 0 where
  pub after : active_call r new ≡ None
  pub others : (q : ℕ) → q ≢ r → active_call q new ≡ active_call q old
