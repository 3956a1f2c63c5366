use Rattle.std.proofs.Common.{◌≡◌, ◌<◌, ◌≤◌, ◌+◌, ◌∙◌, ℕ, length, set, sym, ap, arith}
use Rattle.std.proofs.lemmas.List.{with_items_is, length-set}
use Rattle.std.specs.Vec.{with_item}
use Rattle.buffer_pool.specs.Tree.{leaves_in, value_at}
use Rattle.buffer_pool.proofs.LowestLemmas.{below-set, fits-set, leaves-set, length-leaves}
use Rattle.buffer_pool.proofs.lowest.LowestEmpty.set.Goals as goal

pub returns : goal.returns
returns c =
    let fields = c.self.inside in
    let fits = c.self.invariant.0 in
    let leaf = fields.leaves + c.args.place in
    let before = fields.tree.items in
    let after = c.join_up.new.tree in
    let places : length (leaves_in before fields.leaves fields.places) ≡ length c.args.self.now =
    ap length c.self.view_is in
    let near = length-leaves before fields.leaves fields.places fits.size fits.room in
    let written : length c.as_mut_slice.result.now ≡ length before =
    ap length c.as_mut_slice.ensures.value ∙ length-set before leaf c.args.empty in
    let long : length after ≡ length before = c.join_up.auto.tree ∙ written in
    let kept = with_items_is (with_item fields.tree leaf c.args.empty) after (long ∙ sym fields.tree.ok.0) in
    let changed = rw c.as_mut_slice.ensures.value at c.join_up.ensures.leaves in
    rw (kept, ← c.self.view_is) (leaves-set before after fields.leaves fields.places c.args.place
    c.args.empty fits.size long fits.room (omega arith)
    (λ p h. changed p (omega (arith, fits.size, length-set before leaf c.args.empty))))

pub invariant_of-self : goal.invariant_of-self
invariant_of-self c =
    let fields = c.self.inside in
    let fits = c.self.invariant.0 in
    let leaf = fields.leaves + c.args.place in
    let before = fields.tree.items in
    let after = c.join_up.new.tree in
    let places : length (leaves_in before fields.leaves fields.places) ≡ length c.args.self.now =
    ap length c.self.view_is in
    let near = length-leaves before fields.leaves fields.places fits.size fits.room in
    let written : length c.as_mut_slice.result.now ≡ length before =
    ap length c.as_mut_slice.ensures.value ∙ length-set before leaf c.args.empty in
    let long : length after ≡ length before = c.join_up.auto.tree ∙ written in
    let kept = with_items_is (with_item fields.tree leaf c.args.empty) after (long ∙ sym fields.tree.ok.0) in
    let changed = rw c.as_mut_slice.ensures.value at c.join_up.ensures.leaves in
    let same : (p : ℕ) → fields.leaves ≤ p → value_at after p ≡ value_at (set before leaf c.args.empty) p =
    λ p h. changed p (omega (arith, fits.size, length-set before leaf c.args.empty)) in
    let within : c.args.place < fields.places = omega (arith, near, places, c.requires) in
    rw kept (
      fits-set before after fields.leaves fields.height fields.places c.args.place
          c.args.empty fits within long c.join_up.ensures.joined same,
      below-set before after
          fields.leaves c.args.place fields.from c.from_after-self-inside.result c.args.empty
          (omega (arith, fits.size, fits.room, within)) same c.self.invariant.1
          c.from_after-self-inside.ensures.others c.from_after-self-inside.ensures.own,
    )
