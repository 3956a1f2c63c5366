-- What contracts see of a source.
use Rattle.std.specs.Prelude.{ℕ, Option, List}

-- the bytes that are left, where the source tells them, and how many calls failed so far
pub record Unread : Type 0 where
  pub left : Option (List ℕ)
  pub faults : ℕ
