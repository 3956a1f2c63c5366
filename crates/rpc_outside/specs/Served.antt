-- What a service served.
use Rattle.std.specs.Prelude.{ℕ, List}

-- the inline requests that were served so far, in order: their types and bytes
abbrev pub Served : Type 0
Served = List (ℕ × List ℕ)

-- a service stands for some requests that it served
abbrev pub StandsForSome : (Served → Type 0) → Type 0
StandsForSome stands = (served : Served) × stands served
