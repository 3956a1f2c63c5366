use Rattle.std.proofs.Common.{◌≡◌, ◌<◌, ◌∙◌, false, length, sym, ap, arith}
use Rattle.std.proofs.lemmas.List.{get_or_read}
use Rattle.std.specs.List.{position}
use Rattle.buffer_pool.specs.Tree.{value_at}
use Rattle.buffer_pool.proofs.TreeLemmas.{doubled-above}
use Rattle.buffer_pool.proofs.LowestLemmas.{lowest-none, lowest-some}
use Rattle.buffer_pool.proofs.lowest.LowestEmpty.search.Goals as goal

pub index-requires : goal.index-requires
index-requires c = let fits = c.self.invariant.0 in omega (arith, fits.size, fits.power, doubled-above c.self.inside.height 1, c.self.inside.tree.ok.0)

pub returns-then-not-index : goal.returns-then-not-index
returns-then-not-index c =
    let fields = c.self.inside in
    let fits = c.self.invariant.0 in
    let wide : 1 < length fields.tree.items = omega (arith, fits.size, fits.power, doubled-above fields.height 1) in
    let read : c.index.result.now ≡ value_at fields.tree.items 1 =
    get_or_read fields.tree.items 1 c.index.result.now wide c.index.ensures false in
    let root : value_at fields.tree.items 1 ≡ false = sym read ∙ c.if-not-index.true in
    lowest-none fields.tree.items fields.leaves fields.height fields.places fits root
    ∙ ap (position (λ x. x)) c.self.view_is

pub first_leaf-leaf-requires-clause-root : goal.first_leaf-leaf-requires-clause-root
first_leaf-leaf-requires-clause-root c =
    let fields = c.self.inside in
    let fits = c.self.invariant.0 in
    let wide : 1 < length fields.tree.items = omega (arith, fits.size, fits.power, doubled-above fields.height 1) in
    let read : c.index.result.now ≡ value_at fields.tree.items 1 =
    get_or_read fields.tree.items 1 c.index.result.now wide c.index.ensures false in
    rw c.deref.ensures.value (sym read ∙ c.if-not-index.false)

pub returns : goal.returns
returns c =
    let fields = c.self.inside in
    let leaf = rw c.deref.ensures.value at c.first_leaf-leaf.ensures in
    lowest-some fields.tree.items fields.leaves fields.height fields.places c.first_leaf-leaf.result
    c.self.invariant.0 leaf.leaf leaf.value leaf.first ∙ ap (position (λ x. x)) c.self.view_is
