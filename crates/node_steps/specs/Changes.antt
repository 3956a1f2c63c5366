-- What something was before a step, and what it is after it.

infix 4 ◌⟶◌
pub record Change (A : Type 0) : Type 0 where
  pub old : A
  pub new : A

abbrev pub ◌⟶◌ : {A : Type 0} → A → A → Change A
old ⟶ new = record { old = old; new = new }
