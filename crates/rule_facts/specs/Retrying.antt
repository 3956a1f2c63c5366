-- How many of the facts that follow are what a rule leaves open.
use Rattle.std.specs.Prelude.{ℕ, ◌≤◌, Option, IfSome, IsNone, List, length, take}
use Rattle.rpc_base.specs.declared.fact.Fact.{Fact}
use Rattle.rule_facts.specs.Fronts.{Starts}

-- the answer is how many of the facts are such; it is None where no front of them is
pub record IsFront (X : List Fact → Type 0) (facts : List Fact) (answer : Option ℕ) : Type 0 where
  pub some : IfSome answer (λ n. (n ≤ length facts) × X (take n facts))
  pub only : IsNone answer → (x : List Fact) → Starts x facts → X x → ⊥
