-- Turns of a run, one after another.
use Rattle.std.specs.Prelude.{◌≡◌, ℕ, zero, suc}

-- so many turns, each from where the one before it left the run
abbrev pub Turns : {A : Type 0} → (One : A → A → Type 0) → ℕ → (from to : A) → Type 0
Turns One zero from to = to ≡ from
Turns {A} One (suc n) from to = (mid : A) × Turns One n from mid × One mid to
