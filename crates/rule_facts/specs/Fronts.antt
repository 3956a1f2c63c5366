-- How many facts of a rule stand in front of those that follow.
use Rattle.std.specs.Prelude.{ℕ, ◌≡◌, Option, IfSome, IsNone, List, [], ◌∷◌, ◌++◌, length}
use Rattle.rpc_base.specs.declared.fact.Fact.{Fact}

-- the facts begin with x
pub record Starts (x facts : List Fact) : Type 0 where
  pub rest : List Fact
  pub parted : facts ≡ x ++ rest

-- the answer is the length of x where the facts begin with x, and None where they don't
pub record Fronts (x facts : List Fact) (answer : Option ℕ) : Type 0 where
  pub some : IfSome answer (λ n. (n ≡ length x) × Starts x facts)
  pub only : IsNone answer → Starts x facts → ⊥

-- the answer that the first fact tells
abbrev pub told_answer : List Fact → List ℕ
told_answer [] = []
told_answer (f ∷ fs) = f.second
