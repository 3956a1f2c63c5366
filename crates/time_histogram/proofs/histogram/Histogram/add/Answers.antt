-- A histogram holds one time more by the bucket that counts it.
use Rattle.time_histogram.proofs.TimeLemmas.{holds_add}
use Rattle.time_histogram.proofs.histogram.Histogram.add.Goals as goal

pub returns-clause-holds : goal.returns-clause-holds
returns-clause-holds c =
    λ times h. holds_add times c.args.time c.bucket_of-bucket.result c.args.self.now _ h
    c.count_in.ensures c.bucket_of-bucket.ensures.of c.bucket_of-bucket.ensures.within
