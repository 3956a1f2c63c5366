-- The pool law in its sentences, of any state between two steps.
use Rattle.std.specs.Prelude.{◌≡◌, ℕ, ◌%◌, ◌<◌, ◌≤◌, length, slice_index}
use mathlib.Core.Option.{some}
use lib.ListN.{get_elem?}
use Rattle.atomic_table.specs.Table.{State}
use Rattle.rpc_base.specs.Totals.{total}
use Rattle.shared_pool.specs.Counts.{holds, got, gave}
use Rattle.shared_pool.specs.Rule.{HasBuffer, Slot}
use Rattle.shared_pool.specs.declared.view.View.{View}

pub record KeepsPromises (capacity : ℕ) (s : State Slot View) : Type 0 where
  -- no two seats hold a loan of one place
  pub one_holder : (p i j : ℕ) (v w : View) → get_elem? s.views i ≡ some v
      → get_elem? s.views j ≡ some w
      → 0 < holds p v → 0 < holds p w → i ≡ j
  -- and no seat holds two
  pub one_loan : (p i : ℕ) (v : View) → get_elem? s.views i ≡ some v → holds p v ≤ 1
  -- each generation of a place was lent at most once, and given back at most once, after its loan
  pub lent_once : (p g : ℕ) → p < length s.homes → total (got p g) s.views ≤ 1
  pub back_once : (p g : ℕ) → p < length s.homes → total (gave p g) s.views
      ≤ total (got p g) s.views
  -- a buffer at home stands in the slot of its place
  pub at_home : (p : ℕ) → p < length s.homes → slice_index s.words p % 2 ≡ 0
      → HasBuffer capacity (get_elem? s.homes p)
