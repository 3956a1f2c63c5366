-- The credits of a session in all, slot by slot.
use Rattle.std.proofs.Common.{◌≡◌, ℕ, ◌+◌, List, [], ◌∷◌, length, get_or, arith}
use Rattle.std.specs.Prelude.{sum}

-- what eight numbers are together
pub sum-eight : (xs : List ℕ) → length xs ≡ 8
    → sum xs ≡ get_or xs 0 0 + get_or xs 1 0 + get_or xs 2 0 + get_or xs 3 0 + get_or xs 4 0
    + get_or xs 5 0 + get_or xs 6 0 + get_or xs 7 0
sum-eight [] e = absurd (omega arith)
sum-eight (x0 ∷ []) e = absurd (omega arith)
sum-eight (x0 ∷ x1 ∷ []) e = absurd (omega arith)
sum-eight (x0 ∷ x1 ∷ x2 ∷ []) e = absurd (omega arith)
sum-eight (x0 ∷ x1 ∷ x2 ∷ x3 ∷ []) e = absurd (omega arith)
sum-eight (x0 ∷ x1 ∷ x2 ∷ x3 ∷ x4 ∷ []) e = absurd (omega arith)
sum-eight (x0 ∷ x1 ∷ x2 ∷ x3 ∷ x4 ∷ x5 ∷ []) e = absurd (omega arith)
sum-eight (x0 ∷ x1 ∷ x2 ∷ x3 ∷ x4 ∷ x5 ∷ x6 ∷ []) e = absurd (omega arith)
sum-eight (x0 ∷ x1 ∷ x2 ∷ x3 ∷ x4 ∷ x5 ∷ x6 ∷ x7 ∷ []) e = omega arith
sum-eight (x0 ∷ x1 ∷ x2 ∷ x3 ∷ x4 ∷ x5 ∷ x6 ∷ x7 ∷ x8 ∷ xs) e = absurd (omega arith)
