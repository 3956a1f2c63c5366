-- What each step tells: of the step, the seat before, the number found and the seat after.
use Rattle.std.specs.Prelude.{◌≡◌, ◌≢◌, ℕ, suc, ◌+◌, ◌*◌, ◌/◌, ◌≤◌, List, [], ◌∷◌, ◌++◌, Some, None}
use mathlib.Core.Option.{some}
use lib.ListN.{get_elem?}
use Rattle.atomic_table.specs.Table.{Me, Step, rest}
use Rattle.message_buffer.specs.Buffer.{Buffer, capacity_of}
use Rattle.shared_pool.specs.Loans.{LoanNo, loan_no}
use Rattle.shared_pool.specs.declared.word.TheConstants.{MOST_LOANS}
use Rattle.shared_pool.specs.declared.view.Note.{Note}
use Rattle.shared_pool.specs.declared.view.View.{View}
use Rattle.shared_pool.specs.Counts.{holds, without}
use Rattle.shared_pool.specs.Rule.{Slot, fresh}

-- a seat: its view, and the slots that are out with it
abbrev pub Seated : Type 0
Seated = Me Slot View

abbrev pub Told : Type 1
Told = Step Slot → Seated → ℕ → Seated → Type 0

abbrev pub note : ℕ → ℕ → Note
note p w = record { place = p; word = w }

-- these were found, newest first
abbrev pub noted : List Note → View → View
noted more v = record v { notes = more ++ v.notes }

-- the slot of the place before t is out with the seat, or for 0 none
abbrev pub turned_to : ℕ → View → View
turned_to t v = record v { turn = t }

-- the loan was got
abbrev pub lent_to : LoanNo → View → View
lent_to l v = record v { held = l ∷ v.held; lent = l ∷ v.lent }

-- the loan was given back
abbrev pub returned : LoanNo → View → View
returned l v = record v { held = without l.place v.held; back = l ∷ v.back }

abbrev pub Has : {A : Type 0} → List A → A → Type 0
Has xs x = (k : ℕ) × (get_elem? xs k ≡ some x)

-- look: the word was found
abbrev pub Looked : Told
Looked st m r n = (n ≡ (noted (note st.word r ∷ []) m.0, m.1)) × (r ≤ 2 * MOST_LOANS)

-- lent, or lost: the loan was got and the slot taken, where the seat held none of that place; or
-- another word was found
abbrev pub Tried : Told
Tried st m r n =
    (r ≡ st.first → (b : Buffer) × (capacity_of b ≡ m.0.capacity)
    × (n ≡ (
      turned_to (suc st.word) (lent_to (loan_no st.word (st.first / 2)) m.0),
      (st.word, Some b) ∷ m.1,
    ))
    × (holds st.word m.0 ≡ 0))
    × (r ≢ st.first → n ≡ (noted (note st.word r ∷ []) m.0, m.1))

-- slot exchange: the slot was given back
abbrev pub Released : Told
Released st m r n = n ≡ (turned_to 0 m.0, rest m.1)

-- slot exchange: the empty slot of a place that the seat holds was taken
abbrev pub Reopened : Told
Reopened st m r n = n ≡ (turned_to (suc st.word) m.0, (st.word, None) ∷ m.1)

-- back: the loan was given back, and the slot with the buffer in it
abbrev pub Returned : Told
Returned st m r n = (g : ℕ) → st.first ≡ 2 * g + 2
    → n ≡ (turned_to 0 (returned (loan_no st.word g) m.0), rest m.1)

-- the view of a seat that was split off
abbrev pub split_off : View → View
split_off v = fresh v.capacity

-- the view of a seat that took in another's
abbrev pub taken_in : View → View → View
taken_in v w = record v {
  notes = w.notes ++ v.notes;
  lent = w.lent ++ v.lent;
  back = w.back ++ v.back;
}
