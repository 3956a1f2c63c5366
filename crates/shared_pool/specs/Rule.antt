-- The pool law: what holds of a pool's words, its slots and what its seats know, between any two
-- steps.
use Rattle.std.specs.Prelude.{◌≡◌, ℕ, suc, ◌+◌, ◌*◌, ◌<◌, ◌≤◌, List, [], length, Option, Some}
use Rattle.std.specs.Prelude.{None, slice_index}
use mathlib.Core.Option.{none, some}
use mathlib.Core.Option as maybe
use lib.ListN.{get_elem?}
use Rattle.atomic_table.specs.Table.{State}
use Rattle.message_buffer.specs.Buffer.{Buffer, capacity_of}
use Rattle.shared_pool.specs.Loans.{LoanNo}
use Rattle.shared_pool.specs.declared.word.TheConstants.{MOST_LOANS}
use Rattle.shared_pool.specs.declared.view.Note.{Note}
use Rattle.shared_pool.specs.declared.view.View.{View}
use Rattle.rpc_base.specs.Totals.{total}
use Rattle.shared_pool.specs.Counts.{IsOnceBelow, has_turn, holds, got, gave}

-- the view of a seat that has made no step, in a pool of buffers of this capacity
abbrev pub fresh : ℕ → View
fresh capacity = record {
  capacity = capacity;
  turn = 0;
  notes = [];
  held = [];
  lent = [];
  back = [];
}

-- the slot of a place has the buffer where that is at home
abbrev pub Slot : Type 0
Slot = Option Buffer

-- the slot has a buffer of this capacity
abbrev pub IsFilled : ℕ → Slot → Type 0
IsFilled capacity (Some b) = capacity_of b ≡ capacity
IsFilled capacity None = ⊥

-- what `get_elem?` finds of a slot: `some none` is a slot that is out with a seat
abbrev pub Home : Type 0
Home = maybe.Option (maybe.Option Slot)

-- whether the buffer of a place is at home, or out on loan
pub data Whereabouts : Type 0 where
  home : Whereabouts
  out : Whereabouts

-- how many loans of the place are out
abbrev pub loans_in : Whereabouts → ℕ
loans_in home = 0
loans_in out = 1

-- the word of a generation: it has so many loans behind it, and its buffer is there
abbrev pub word_of : ℕ → Whereabouts → ℕ
word_of g w = 2 * g + loans_in w

-- the slot is at home, with a buffer of this capacity
abbrev pub HasBuffer : ℕ → Home → Type 0
HasBuffer capacity h = (b : Buffer) × (h ≡ some (some (Some b))) × (capacity_of b ≡ capacity)

-- a slot that is empty, or out with one seat
abbrev pub IsEmptyOrOut : Home → ℕ → Type 0
IsEmptyOrOut h t = (t ≡ 0 → h ≡ some (some None)) × (t ≡ 1 → h ≡ some none) × (t ≤ 1)

-- what the slot holds, by where the buffer is and by how many seats have the slot
abbrev pub Stands : ℕ → Home → ℕ → Whereabouts → Type 0
Stands capacity h t home = HasBuffer capacity h × (t ≡ 0)
Stands capacity h t out = IsEmptyOrOut h t

-- of one place: its word, its slot, and what the seats say of it
pub record PlaceLaw (capacity p w : ℕ) (h : Home) (views : List View) : Type 0 where
  pub generation : ℕ
  pub where_is : Whereabouts
  pub word_is : w ≡ word_of generation where_is
  pub most : w ≤ 2 * MOST_LOANS
  -- a buffer at home stands in the place's slot
  pub stands : Stands capacity h (total (has_turn p) views) where_is
  -- one seat holds the place where its buffer is out, and none elsewhere
  pub held : total (holds p) views ≡ loans_in where_is
  -- each generation that began was lent once, and each that ended was given back once
  pub lent : IsOnceBelow (generation + loans_in where_is) (λ g. total (got p g) views)
  pub back : IsOnceBelow generation (λ g. total (gave p g) views)

-- the loan is the one of its place's word
abbrev pub IsCurrent : List ℕ → LoanNo → Type 0
IsCurrent words l = slice_index words l.place ≡ word_of l.generation out

pub record PoolLaw (capacity : ℕ) (s : State Slot View) : Type 0 where
  pub wide : length s.words ≡ length s.homes
  pub places : (p : ℕ) → p < length s.homes
      → PlaceLaw capacity p (slice_index s.words p) (get_elem? s.homes p) s.views
  -- no word is below what any step found it at
  pub seen : (j k : ℕ) (v : View) (x : Note) → get_elem? s.views j ≡ some v
      → get_elem? v.notes k ≡ some x → x.word ≤ slice_index s.words x.place
  -- each loan that a seat holds is that of its place's word
  pub loans : (j k : ℕ) (v : View) (l : LoanNo) → get_elem? s.views j ≡ some v
      → get_elem? v.held k ≡ some l → (l.place < length s.homes) × IsCurrent s.words l
  -- who has a slot holds its place
  pub entitled : (j p : ℕ) (v : View) → get_elem? s.views j ≡ some v → v.turn ≡ suc p
      → 0 < holds p v
