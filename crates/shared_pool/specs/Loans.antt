-- What names a loan.
use Rattle.std.specs.Prelude.{◌≡◌, ℕ, ◌<◌, List}
use mathlib.Core.Option.{some}
use lib.ListN.{get_elem?}

-- a loan is named by its place, and by its number among the place's loans, counted from 0
pub record LoanNo : Type 0 where
  pub place : ℕ
  pub generation : ℕ

abbrev pub loan_no : ℕ → ℕ → LoanNo
loan_no p g = record { place = p; generation = g }

-- each of these loans is of a place below n
abbrev pub AllInside : ℕ → List LoanNo → Type 0
AllInside n ls = (k : ℕ) (l : LoanNo) → get_elem? ls k ≡ some l → l.place < n
