-- Numbers that rise, and the next of them.
use Rattle.std.specs.Prelude.{◌≡◌, ℕ, ◌<◌, ◌≤◌, Option, Some, None, Result, Ok, Err, List, length}
use Rattle.std.specs.Prelude.{slice_index}
use Rattle.std.specs.List.{Contains}

-- each is above the ones before it
abbrev pub Rises : List ℕ → Type 0
Rises xs = (i j : ℕ) → i < j → j < length xs → slice_index xs i < slice_index xs j

-- each is below a bound
abbrev pub AreBelow : (bound : ℕ) → List ℕ → Type 0
AreBelow bound xs = (k : ℕ) → k < length xs → slice_index xs k < bound

-- where a number stands among numbers that rise, or would stand: those before it are below, those
-- from there on above
abbrev pub StandsAt : ℕ → List ℕ → Result ℕ ℕ → Type 0
StandsAt n xs (Ok p) = (p < length xs) × (slice_index xs p ≡ n)
StandsAt n xs (Err p) =
    (p ≤ length xs)
    × ((k : ℕ) → k < p → slice_index xs k < n)
    × ((k : ℕ) → p ≤ k → k < length xs → n < slice_index xs k)

-- the least number of the list that isn't below a number, or there is none
abbrev pub IsNext : (from : ℕ) → List ℕ → Option ℕ → Type 0
IsNext from xs None = (n : ℕ) → Contains xs n → n < from
IsNext from xs (Some m) =
    Contains xs m × (from ≤ m) × ((n : ℕ) → Contains xs n → from ≤ n → m ≤ n)
