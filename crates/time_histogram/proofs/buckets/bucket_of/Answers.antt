-- A time is its bucket's, by its logarithm.
use Rattle.std.proofs.Common.{◌-◌, arith}
use Rattle.time_histogram.proofs.BucketLemmas.{IsScaled, bucket_high, bucket_low, log_least, scaled}
use Rattle.time_histogram.proofs.buckets.bucket_of.Goals as goal

pub returns-then-time-clause-of : goal.returns-then-time-clause-of
returns-then-time-clause-of c = bucket_low c.args.time (omega arith)

pub overflow_sub-doublings : goal.overflow_sub-doublings
overflow_sub-doublings c =
    log_least c.args.time c.ilog2-doublings.result (omega arith)
    c.ilog2-doublings.ensures.next_power_gt

pub overflow_add-result : goal.overflow_add-result
overflow_add-result c =
    let s : IsScaled c.args.time (c.ilog2-doublings.result - 7) =
    scaled c.args.time c.ilog2-doublings.result (omega arith)
    c.ilog2-doublings.ensures.power_le c.ilog2-doublings.ensures.next_power_gt in
    omega (arith, s.below, c.ilog2-doublings.ensures.bound)

pub returns-clause-of : goal.returns-clause-of
returns-clause-of c =
    bucket_high c.args.time (c.ilog2-doublings.result - 7)
    (scaled c.args.time c.ilog2-doublings.result (omega arith)
    c.ilog2-doublings.ensures.power_le c.ilog2-doublings.ensures.next_power_gt)

pub returns-clause-within : goal.returns-clause-within
returns-clause-within c =
    let s : IsScaled c.args.time (c.ilog2-doublings.result - 7) =
    scaled c.args.time c.ilog2-doublings.result (omega arith)
    c.ilog2-doublings.ensures.power_le c.ilog2-doublings.ensures.next_power_gt in
    omega (arith, s.below, c.ilog2-doublings.ensures.bound)
