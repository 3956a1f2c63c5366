-- How often a seat holds, got or gave back a loan.
use Rattle.std.specs.Prelude.{◌≡◌, ℕ, suc, ◌<◌, ◌≤◌, List, [], ◌∷◌, ◌==◌, cond}
use Rattle.rpc_base.specs.Totals.{only, total}
use Rattle.shared_pool.specs.Loans.{LoanNo}
use Rattle.shared_pool.specs.declared.view.View.{View}

-- f is 1 of each number below n, and 0 of each other
abbrev pub IsOnceBelow : ℕ → (ℕ → ℕ) → Type 0
IsOnceBelow n f = (g : ℕ) → (g < n → f g ≡ 1) × (n ≤ g → f g ≡ 0)

-- 1 where it is the loan of this place and generation, and else 0
abbrev pub is_loan : ℕ → ℕ → LoanNo → ℕ
is_loan p g l = cond (l.place == p) (only g l.generation) 0

-- 1 where the slot of the place is out with the seat, and else 0
abbrev pub has_turn : ℕ → View → ℕ
has_turn p v = only (suc p) v.turn

-- how many loans of the place are among these
abbrev pub of_place : ℕ → List LoanNo → ℕ
of_place p ls = total (λ (l : LoanNo). only p l.place) ls

-- how many loans of the place the seat holds
abbrev pub holds : ℕ → View → ℕ
holds p v = of_place p v.held

-- how often the seat got the loan of this place and generation
abbrev pub got : ℕ → ℕ → View → ℕ
got p g v = total (is_loan p g) v.lent

-- how often it gave it back
abbrev pub gave : ℕ → ℕ → View → ℕ
gave p g v = total (is_loan p g) v.back

-- the loans without those of the place
abbrev pub without : ℕ → List LoanNo → List LoanNo
without p [] = []
without p (l ∷ ls) = cond (l.place == p) (without p ls) (l ∷ without p ls)
