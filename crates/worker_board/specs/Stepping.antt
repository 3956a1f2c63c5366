-- The steps on the word of a place: what each asks of the seat that takes it, and what it tells.
use Rattle.std.specs.Prelude.{◌≡◌, ℕ, ◌==◌, ◌<◌}
use mathlib.Core.Option.{none}
use prog.Atomic.{either}
use Rattle.atomic_table.specs.Seated.{TableId}
use Rattle.atomic_table.specs.Table.{Allows, Step, step}
use Rattle.atomic_table.specs.declared.shared.Seat.{Seat}
use Rattle.worker_board.specs.declared.steps.Steps.{Steps}
use Rattle.worker_board.specs.declared.view.View.{View}
use Rattle.worker_board.specs.Moves.{Seated, Told}
use Rattle.worker_board.specs.Rule.{Answer, BoardLaw, Slot}

-- a seat as a step takes it
abbrev pub Sits : Type 0
Sits = Seat Slot View

-- what tells the words of a board apart from those of others, with their number
abbrev pub words_id : {D : Type 0} → Steps D → TableId
words_id steps = steps.table.shared.table_id

-- a step at a place, of which two numbers are told
abbrev pub step_at : TableId → (place first second : ℕ) → Step Slot
step_at table place first second = step table.slots place first second none

module _ {D : Type 0} (steps : Steps D) where
  -- whatever the board is, the seat can take the step at this place, by which the word becomes
  -- `next` of what it is, and which tells this
  abbrev pub MayStep : Answer → Sits → (place : ℕ) → (next : ℕ → ℕ) → (ℕ → Seated → Type 0) → Type 0
  MayStep answer seat place next tells =
      (seat.table_id ≡ words_id steps) × (place < (words_id steps).words)
      × Allows (BoardLaw answer) (words_id steps).slots seat.id seat.me place next tells

  -- it reads the word
  abbrev pub MayRead : Answer → Sits → (place : ℕ) → Told → Type 0
  MayRead answer seat place told =
      MayStep answer seat place (λ n. n) (told (step_at (words_id steps) place 0 0) seat.me)

  -- it writes the word
  abbrev pub MayWrite : Answer → Sits → (place word : ℕ) → Told → Type 0
  MayWrite answer seat place word told =
      MayStep answer seat place (λ _. word)
      (λ _. told (step_at (words_id steps) place word 0) seat.me word)

  -- it makes the word `new` where it is `old`
  abbrev pub MayExchange : Answer → Sits → (place old new : ℕ) → Told → Type 0
  MayExchange answer seat place old new told =
      MayStep answer seat place (λ n. either (n == old) new n)
      (told (step_at (words_id steps) place old new) seat.me)

  -- the step was taken, with these two numbers, and found the word so
  abbrev pub Stepped : Told → (before now : Sits) → (place first second found : ℕ) → Type 0
  Stepped told before now place first second found =
      (now.table_id ≡ before.table_id) × (now.id ≡ before.id)
      × told (step_at (words_id steps) place first second) before.me found now.me
