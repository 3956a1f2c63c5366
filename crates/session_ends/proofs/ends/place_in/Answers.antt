use Rattle.std.proofs.Common.{ltb, ltb-false, ltb-true, rules}
use Rattle.std.specs.Prelude.{slice_index_or}
use Rattle.std.proofs.lemmas.List.Sorted.{IsPartitionPoint-from_clause, IsPartitionedBy-ltb}
use Rattle.session_ends.proofs.ends.place_in.Goals as goal

pub returns-clause-parts : goal.returns-clause-parts
returns-clause-parts c =
    let es = c.args.ends.now.items in
    let code = c.args.code in
    let point = IsPartitionPoint-from_clause (λ e. ltb e code) _ _
    (rw c.deref.ensures.value at c.partition_point.ensures.partitioned)
    (IsPartitionedBy-ltb (λ e. e) es code c.requires.rises) (λ a r q k. search rules) in (
      λ k d low high. ltb-true (slice_index_or es k d) code (point.0 k d low high),
      λ k d low high. ltb-false (slice_index_or es k d) code (point.1 k d low high),
    )
