-- Counts of faults: an object counts its calls that failed, and memory those that were refused. A
-- count is a 64-bit number that stops at its end.
use Rattle.std.specs.Prelude.{◌≡◌, ℕ, ◌+◌, ◌-◌, ◌^◌, ◌<◌, ◌≤◌, min, Result, MatchResult}

-- the greatest count
abbrev pub end_of_count : ℕ
end_of_count = 2 ^ 64 - 1

-- the count after one more, which stops at the end
abbrev pub one_more : ℕ → ℕ
one_more n = min (n + 1) end_of_count

-- a fault came: the count rose, or stands at its end
pub record HasRisen (old new : ℕ) : Type 0 where
  pub no_less : old ≤ new
  pub rose : one_more old ≤ new

-- at least so many faults came: the count rose by that, or stands at its end
pub record HasRisenBy (n old new : ℕ) : Type 0 where
  pub no_less : old ≤ new
  pub rose : min (old + n) end_of_count ≤ new

-- no fault came: the count is unchanged, and below its end
pub record IsQuiet (old new : ℕ) : Type 0 where
  pub same : new ≡ old
  pub room : old < end_of_count

-- a call answers an error only where a fault came, and leaves the count unchanged where it answers
-- well
abbrev pub HasCause : {T E : Type 0} → ℕ → ℕ → Result T E → Type 0
HasCause old new result = MatchResult result (λ _. new ≡ old) (λ _. HasRisen old new)

-- a call answers an error only where a fault came; where it answers well one may have come too
abbrev pub HasReason : {T E : Type 0} → ℕ → ℕ → Result T E → Type 0
HasReason old new result = MatchResult result (λ _. old ≤ new) (λ _. HasRisen old new)
