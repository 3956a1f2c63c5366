-- What writing a text to a sink leaves there: the text, or a front of it and a fault.
use Rattle.std.specs.Prelude.{◌≡◌, ℕ, List, ◌++◌, Option, Result, MatchResult}
use Rattle.std.specs.Io.KnownBytes.{Appends}
use Rattle.memory_count.specs.Faults.{HasRisen}

-- what contracts see of a sink: the bytes that were written, where the sink tells them, and how
-- many calls failed so far
pub record Written : Type 0 where
  pub written : Option (List ℕ)
  pub faults : ℕ

-- known bytes grow by a front of the text
abbrev pub AppendsPart : Option (List ℕ) → Option (List ℕ) → List ℕ → Type 0
AppendsPart old new text =
    (front : List ℕ) × (rest : List ℕ) × (text ≡ front ++ rest) × Appends old new front

-- the whole text was written, and no fault came
pub record Wrote (old new : Written) (text : List ℕ) : Type 0 where
  pub bytes : Appends old.written new.written text
  pub quiet : new.faults ≡ old.faults

-- a front of the text was written, and a fault came
pub record Broke (old new : Written) (text : List ℕ) : Type 0 where
  pub bytes : AppendsPart old.written new.written text
  pub fault : HasRisen old.faults new.faults

-- a sink that was `old` is `new` once the text was printed
abbrev pub Prints : {T E : Type 0} → (old new : Written) → Result T E → List ℕ → Type 0
Prints old new result text = MatchResult result (λ _. Wrote old new text) (λ _. Broke old new text)
