-- What the use of a place says of it.
use Rattle.std.specs.Prelude.{◌≡◌, ◌<◌, ◌^◌, ℕ, Bool, true, false, List, length, map, count_by}
use Rattle.buffer_pool.specs.declared.usage.Use.{Use}
use Rattle.buffer_pool.specs.declared.usage.Use.TheVariants.{Empty, Full, Lent}

abbrev pub is_empty : Use → Bool
is_empty Empty = true
is_empty (Full refs) = false
is_empty Lent = false

abbrev pub is_full : Use → Bool
is_full Empty = false
is_full (Full refs) = true
is_full Lent = false

-- the count of references, 0 where there is no buffer
abbrev pub refs_in : Use → ℕ
refs_in Empty = 0
refs_in (Full refs) = refs
refs_in Lent = 0

-- the marks say of each place whether it is empty, and the count how many are
pub record CountsEmpty (uses : List Use) (marks : List Bool) (spare : ℕ) : Type 0 where
  pub marks_are : marks ≡ map is_empty uses
  pub spare_is : spare ≡ count_by is_empty uses
  pub few : length uses < 2 ^ 32
