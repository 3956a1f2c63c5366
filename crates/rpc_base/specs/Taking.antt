-- What taking an element out of a list leaves.
use Rattle.std.specs.Prelude.{◌≡◌, Bool, false, List, ◌∷◌, ◌++◌}
use Rattle.std.specs.List.{list_any}

-- x is taken out: what stood before it and after it is left, in order, and none before it passes
pub record TakenOut {A : Type 0} (passes : A → Bool) (x : A) (old new : List A) : Type 0 where
  pub before : List A
  pub after : List A
  pub was : old ≡ before ++ x ∷ after
  pub left : new ≡ before ++ after
  pub first : list_any passes before ≡ false
