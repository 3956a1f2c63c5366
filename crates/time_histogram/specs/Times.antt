-- The times of a histogram.
use Rattle.std.specs.Prelude.{◌≡◌, ℕ, ◌+◌, ◌*◌, ◌/◌, ◌<◌, ◌≤◌, ◌&&◌, Bool, List, [], ◌∷◌}
use Rattle.std.specs.Prelude.{length, max, min, nat_le, nat_lt, slice_index, slice_set, sum}
use Rattle.std.specs.Prelude.{count_by}
use Rattle.time_histogram.specs.Buckets.{least_of, width_of}
use Rattle.time_histogram.specs.declared.buckets.TheConstants.{BUCKETS}
use Rattle.time_histogram.specs.declared.buckets.Span.{Span}

-- no histogram counts more times, and none is greater
abbrev pub MOST_TIMES : ℕ
MOST_TIMES = 18446744073709551615

-- what a histogram has: the counts of its buckets, and the number of the times, their sum, the
-- least and the greatest
pub record Tallies : Type 0 where
  pub counts : List ℕ
  pub count : ℕ
  pub total : ℕ
  pub least : ℕ
  pub most : ℕ

-- whether a time stands in bucket k
abbrev pub is_in : ℕ → ℕ → Bool
is_in k time = nat_le (least_of k) time && nat_lt time (least_of k + width_of k)

-- the least of some times, none of which is greater than 2^64 - 1, and the greatest
abbrev pub least_time : List ℕ → ℕ
least_time [] = MOST_TIMES
least_time (t ∷ times) = min (least_time times) t

abbrev pub greatest_time : List ℕ → ℕ
greatest_time [] = 0
greatest_time (t ∷ times) = max (greatest_time times) t

-- a histogram is one of these times, in whatever order they came
pub record Holds (times : List ℕ) (h : Tallies) : Type 0 where
  pub buckets : length h.counts ≡ BUCKETS
  pub counts : (k : ℕ) → k < BUCKETS → slice_index h.counts k ≡ count_by (is_in k) times
  pub count : h.count ≡ length times
  pub total : h.total ≡ sum times
  pub least : h.least ≡ least_time times
  pub most : h.most ≡ greatest_time times

-- one more time stands in bucket k
pub record CountsAs (k time : ℕ) (old new : Tallies) : Type 0 where
  pub counts : new.counts ≡ slice_set old.counts k (slice_index old.counts k + 1)
  pub count : new.count ≡ old.count + 1
  pub total : new.total ≡ old.total + time
  pub least : new.least ≡ min old.least time
  pub most : new.most ≡ max old.most time

-- how many of n times are this share of them, in hundred thousandths: at least one
abbrev pub share_of : (share n : ℕ) → ℕ
share_of share n = max 1 ((share * n + 99999) / 100000)

-- some times are at or below the greatest of a span, and fewer below its least one, so that the
-- last of that share, in order of size, is in the span
pub record IsShareOf (share : ℕ) (times : List ℕ) (s : Span) : Type 0 where
  pub enough : share_of share (length times) ≤ count_by (λ t. nat_lt t (s.most + 1)) times
  pub fewer : count_by (λ t. nat_lt t s.least) times < share_of share (length times)
