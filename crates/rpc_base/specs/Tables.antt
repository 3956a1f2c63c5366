-- Words for tables that are kept as lists: what changes is the first element that passes a test.
use Rattle.std.specs.Prelude.{Bool, List, [], ◌∷◌, if◌then◌else◌}

-- the first element that passes is changed
abbrev pub at_first : {A : Type 0} → (A → Bool) → (A → A) → List A → List A
at_first p change [] = []
at_first p change (x ∷ xs) = if p x then change x ∷ xs else x ∷ at_first p change xs

-- the first element that passes is taken out
abbrev pub without_first : {A : Type 0} → (A → Bool) → List A → List A
without_first p [] = []
without_first p (x ∷ xs) = if p x then xs else x ∷ without_first p xs
