-- What the elements of a list add up to.
use Rattle.std.specs.Prelude.{ℕ, ◌+◌, List, [], ◌∷◌, ◌==◌, cond}

-- the sum of a number of each element
abbrev pub total : {A : Type 0} → (A → ℕ) → List A → ℕ
total f [] = 0
total f (x ∷ xs) = f x + total f xs

-- 1 for the number itself, and 0 for any other
abbrev pub only : ℕ → ℕ → ℕ
only k x = cond (x == k) 1 0
