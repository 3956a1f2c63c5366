-- Which times stand in one bucket.
use Rattle.std.specs.Prelude.{ℕ, zero, suc, ◌+◌, ◌-◌, ◌/◌, ◌^◌, ◌<◌, ◌≤◌}

-- how many times bucket k has: the first 256 have one each, and every 128 further ones twice as
-- many
abbrev pub width_of : ℕ → ℕ
width_of k = 2 ^ (k / 128 - 1)

-- the least time of bucket k: the buckets lie one behind another, from 0 on
unfoldable pub least_of : ℕ → ℕ
least_of zero = 0
least_of (suc k) = least_of k + width_of k

-- this bucket is the one of the time
pub record IsBucketOf (time k : ℕ) : Type 0 where
  pub from : least_of k ≤ time
  pub below : time < least_of k + width_of k
