-- How a text falls into lines.
use Rattle.std.specs.Prelude.{◌==◌, ℕ, List, [], ◌∷◌}
use Rattle.std.specs.List.{slice_split}

-- parts after one another, without the last one where that is empty
abbrev pub without_empty_last : List (List ℕ) → List (List ℕ)
without_empty_last [] = []
without_empty_last ([] ∷ []) = []
without_empty_last (part ∷ parts) = part ∷ without_empty_last parts

-- the lines of a text: each ends with a line feed, which the last may lack
unfoldable pub lines_of : List ℕ → List (List ℕ)
lines_of text = without_empty_last (slice_split (λ b. b == 10) text)
