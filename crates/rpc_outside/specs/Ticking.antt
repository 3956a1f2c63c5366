-- The answers of a clock.
use Rattle.std.specs.Prelude.{◌≡◌, ℕ, ◌+◌, ◌*◌, List, [], ◌∷◌, ◌++◌, length, min, slice_get, Some}
use Rattle.memory_count.specs.Faults.{end_of_count}

-- a clock gave one answer more: where these may have been its answers before, they may be with it
-- now
abbrev pub Gives : {C : Type 0} → (gave : C → List ℕ → Type 0) → (old new : C) → ℕ → Type 0
Gives gave old new answer =
    (answers : List ℕ) → gave old answers → gave new (answers ++ answer ∷ [])

-- the answer number i, from 0 on, of a clock that goes on by a step and stops at the end
abbrev pub step_at : (start step i : ℕ) → ℕ
step_at start step i = min (start + i * step) end_of_count

-- its answers so far, and the next one
pub record GoesBySteps (start step next : ℕ) (answers : List ℕ) : Type 0 where
  pub each : (i t : ℕ) → slice_get answers i ≡ Some t → t ≡ step_at start step i
  pub ahead : next ≡ step_at start step (length answers)
