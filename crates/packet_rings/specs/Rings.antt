-- What contracts see of a ring.
use Rattle.std.specs.Prelude.{ℕ, List}

-- the items from the front, and how many there may be
pub record Ring (X : Type 0) : Type 0 where
  pub items : List X
  pub size : ℕ

abbrev pub ring : {X : Type 0} → List X → ℕ → Ring X
ring xs n = record { items = xs; size = n }
