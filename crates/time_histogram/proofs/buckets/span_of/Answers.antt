-- The bounds of a bucket are those of its definition, and fit into 64 bits.
use Rattle.std.proofs.Common.{sym, ◌∙◌, arith}
use Rattle.time_histogram.proofs.BucketLemmas.{Spans, least_low, spans, width_low}
use Rattle.time_histogram.proofs.buckets.span_of.Goals as goal

pub returns-then-bucket-lt-STEPS-clause-least : goal.returns-then-bucket-lt-STEPS-clause-least
returns-then-bucket-lt-STEPS-clause-least c = sym (least_low c.args.bucket (omega arith))

pub returns-then-bucket-lt-STEPS-clause-most : goal.returns-then-bucket-lt-STEPS-clause-most
returns-then-bucket-lt-STEPS-clause-most c =
    omega (arith, least_low c.args.bucket (omega arith), width_low c.args.bucket (omega arith))

pub overflow_add-result : goal.overflow_add-result
overflow_add-result c =
    let s : Spans c.args.bucket = spans c.args.bucket (omega arith) c.requires in
    omega (arith, s.whole, s.width, s.some, s.fits)

pub returns-clause-least : goal.returns-clause-least
returns-clause-least c =
    let s : Spans c.args.bucket = spans c.args.bucket (omega arith) c.requires in
    s.whole ∙ sym s.least

pub returns-clause-most : goal.returns-clause-most
returns-clause-most c =
    let s : Spans c.args.bucket = spans c.args.bucket (omega arith) c.requires in
    omega (arith, s.least, s.whole, s.width, s.some)

pub returns-clause-close : goal.returns-clause-close
returns-clause-close c =
    let s : Spans c.args.bucket = spans c.args.bucket (omega arith) c.requires in
    omega (arith, s.whole, s.width, s.some, s.close)
