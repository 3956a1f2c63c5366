use Rattle.std.proofs.Common.{ltb, rules, sym, ◌∙◌}
use Rattle.std.proofs.lemmas.List.Sorted.{IsPartitionPoint-from_clause, IsPartitionedBy-ltb}
use Rattle.server_core.specs.Session.{Session as Serving}
use Rattle.session_ends.proofs.SearchLemmas.{found-at, found-none, rising-by}
use Rattle.session_ends.proofs.server.place_of.Goals as goal

pub returns-then-is_at : goal.returns-then-is_at
returns-then-is_at c =
    found-at c.args.servers.now.items c.args.session c.from-own.result c.requires.rises
    (sym c.is_at.ensures ∙ c.if-is_at.true)

pub returns-then-is_at-2 : goal.returns-then-is_at-2
returns-then-is_at-2 c =
    found-at c.args.servers.now.items c.args.session c.partition_point-place.result
    c.requires.rises (sym c.is_at-2.ensures ∙ c.if-is_at-2.true)

pub returns : goal.returns
returns c =
    let vs = c.args.servers.now.items in
    let n = c.args.session in
    let parted = IsPartitionedBy-ltb (λ (v : Serving). v.number) vs n (rising-by vs c.requires.rises) in
    let point = IsPartitionPoint-from_clause (λ (v : Serving). ltb v.number n) _ _
    (rw c.deref.ensures.value at c.partition_point-place.ensures.partitioned) parted
    (λ a r q k. search rules) in
    found-none vs n c.partition_point-place.result c.requires.rises point.0 point.1
    (sym c.is_at-2.ensures ∙ c.if-is_at-2.false)
