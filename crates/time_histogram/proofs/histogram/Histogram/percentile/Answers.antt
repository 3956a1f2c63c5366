-- The bucket that was found is that of the share.
use Rattle.std.proofs.Common.{ℕ, ◌+◌, ◌<◌, ◌≤◌, subst, take}
use Rattle.std.specs.List.{sum}
use Rattle.time_histogram.proofs.TimeLemmas.{share_found}
use Rattle.time_histogram.proofs.histogram.Histogram.percentile.Goals as goal

pub returns-clause-share : goal.returns-clause-share
returns-clause-share c =
    λ times h. share_found c.args.share times c.args.self.now c.span_of.result c.bucket_at.result h
    c.bucket_at.ensures.bucket c.span_of.ensures.least c.span_of.ensures.most
    (subst (λ (r : ℕ). r ≤ sum (take (c.bucket_at.result + 1) c.args.self.now.counts))
    c.rank_of-rank.ensures.rank c.bucket_at.ensures.enough)
    (subst (λ (r : ℕ). sum (take c.bucket_at.result c.args.self.now.counts) < r)
    c.rank_of-rank.ensures.rank c.bucket_at.ensures.fewer)
