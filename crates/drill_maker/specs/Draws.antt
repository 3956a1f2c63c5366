-- Draws from a generator of random numbers, one after the other.
use Rattle.std.specs.Prelude.{ℕ, ◌%◌}
use Rattle.rand_core.specs.Pcg32Seed.{pcg32_seed}
use Rattle.rand_pcg.specs.Lcg.{Lcg}
use Rattle.rand_pcg.specs.Pcg.{pcg32, pcg32_of_seed}

-- what is drawn: a value, and the generator from which the next one is drawn
abbrev pub Drawn : Type 0 → Type 0
Drawn A = Lcg → A × Lcg

-- the generator that a number seeds
unfoldable pub seeded : ℕ → Lcg
seeded seed = pcg32_of_seed (pcg32_seed 16 seed)

-- d(m): the next word of 32 bits, modulo m
unfoldable pub draw : ℕ → Drawn ℕ
draw m g = ((pcg32 g).0 % m, (pcg32 g).1)

-- a value for which nothing is drawn
abbrev pub just : {A : Type 0} → A → Drawn A
just a g = (a, g)

-- one draw, and then another that may depend on its value
infixl 10 ◌>>=◌
abbrev pub ◌>>=◌ : {A B : Type 0} → Drawn A → (A → Drawn B) → Drawn B
(first >>= next) g = next (first g).0 (first g).1
