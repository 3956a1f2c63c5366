-- What was seen is the sum of the buckets so far, and too little.
use Rattle.std.proofs.Common.{◌≡◌, ◌<◌, take}
use Rattle.std.specs.List.{sum}
use Rattle.time_histogram.proofs.histogram.Histogram.bucket_at.Given as goal

abbrev pub invariant-buckets : goal.invariant-buckets
invariant-buckets l = (l.seen ≡ sum (take l.bucket l.self.counts)) × (l.seen < l.rank)
