-- Of the elements that pass a test, the one of least number; among equals the one nearest to the
-- front.
use Rattle.std.specs.Prelude.{ℕ, Bool, ◌&&◌, ◌==◌, List, [], ◌∷◌, Option, None, Some, nat_le}
use Rattle.std.specs.Prelude.{if◌then◌else◌}
use Rattle.std.specs.List.{find}
use Rattle.rpc_base.specs.Tables.{without_first}

-- the smaller of a number and another that may be there
abbrev pub smaller : ℕ → Option ℕ → ℕ
smaller n None = n
smaller n (Some m) = if nat_le n m then n else m

-- the least number among the elements that pass
abbrev pub least_number : {A : Type 0} → (A → Bool) → (A → ℕ) → List A → Option ℕ
least_number passes number [] = None
least_number passes number (x ∷ xs) =
    if passes x then Some (smaller (number x) (least_number passes number xs))
    else least_number passes number xs

-- the first element that passes and has this number
abbrev pub bearer : {A : Type 0} → (A → Bool) → (A → ℕ) → List A → Option ℕ → Option A
bearer passes number xs None = None
bearer passes number xs (Some n) = find (λ x. passes x && number x == n) xs

-- the list without it
abbrev pub without_bearer : {A : Type 0} → (A → Bool) → (A → ℕ) → List A → Option ℕ → List A
without_bearer passes number xs None = xs
without_bearer passes number xs (Some n) = without_first (λ x. passes x && number x == n) xs

-- the element of least number among those that pass, nearest to the front
abbrev pub least : {A : Type 0} → (A → Bool) → (A → ℕ) → List A → Option A
least passes number xs = bearer passes number xs (least_number passes number xs)

-- the list without that element, the others in their order
abbrev pub without_least : {A : Type 0} → (A → Bool) → (A → ℕ) → List A → List A
without_least passes number xs = without_bearer passes number xs (least_number passes number xs)
