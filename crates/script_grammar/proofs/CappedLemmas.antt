-- Numbers that are counted no further than a bound.
use Rattle.std.proofs.Common.{◌≡◌, ℕ, ◌+◌, ◌*◌, min, arith}

-- one more digit
pub capped_step : (most value digit : ℕ) → min most (10 * min most value + digit) ≡ min most (10 * value + digit)
capped_step most value digit = omega arith
