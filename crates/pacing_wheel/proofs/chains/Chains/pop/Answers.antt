use Rattle.std.proofs.Common.{◌<◌, ◌+◌, ◌++◌, ◌∷◌, [], ap, sym, ◌∙◌, arith, Some, drop, length, set}
use Rattle.pacing_wheel.specs.declared.chains.Ends.{Ends}
use Rattle.pacing_wheel.specs.declared.chains.Link.{Link}
use Rattle.pacing_wheel.specs.Chains.{list_at, lists_in}
use Rattle.pacing_wheel.proofs.PushLemmas.{length-end, same-table}
use Rattle.pacing_wheel.proofs.PopLemmas.{behind, first-item, length-at, lists-popped, room-popped, tied-popped}
use Rattle.pacing_wheel.proofs.chains.Chains.pop.Goals as goal

pub push_reserved-requires : goal.push_reserved-requires
push_reserved-requires c =
    let links = c.self.inside.links.items in
    let es = c.self.inside.places.items in
    let e = c.ends_at-ends.result in
    let some : 0 < e.len = omega (arith, (rw (← c.self.view_is) at c.requires), length-at links es c.args.place, ap (λ (z : Ends). z.len) c.ends_at-ends.ensures) in
    let room = room-popped links es c.self.inside.free.items c.args.place e c.self.invariant.0 c.ends_at-ends.ensures some in
    omega (arith, room, c.self.invariant.1, c.self.inside.free.ok.0)

pub invariant_of-self : goal.invariant_of-self
invariant_of-self c =
    let links = c.self.inside.links.items in
    let es = c.self.inside.places.items in
    let e = c.ends_at-ends.result in
    let some : 0 < e.len = omega (arith, (rw (← c.self.view_is) at c.requires), length-at links es c.args.place, ap (λ (z : Ends). z.len) c.ends_at-ends.ensures) in (
      rw (c.push_reserved.ensures.items, c.link_at-link.ensures)
          (tied-popped links es c.self.inside.free.items c.args.place e c.self.invariant.0 c.ends_at-ends.ensures some),
      omega (arith, c.self.invariant.1, c.push_reserved.ensures.capacity),
    )

pub returns-clause-first : goal.returns-clause-first
returns-clause-first c =
    let links = c.self.inside.links.items in
    let es = c.self.inside.places.items in
    let e = c.ends_at-ends.result in
    let some : 0 < e.len = omega (arith, (rw (← c.self.view_is) at c.requires), length-at links es c.args.place, ap (λ (z : Ends). z.len) c.ends_at-ends.ensures) in
    rw (← c.self.view_is) (first-item links es c.args.place e c.ends_at-ends.ensures some
    ∙ ap (λ (x : Link). Some x.item) (sym c.link_at-link.ensures))

pub returns-clause-rest : goal.returns-clause-rest
returns-clause-rest c =
    let links = c.self.inside.links.items in
    let es = c.self.inside.places.items in
    let free = c.self.inside.free.items in
    let e = c.ends_at-ends.result in
    let some : 0 < e.len = omega (arith, (rw (← c.self.view_is) at c.requires), length-at links es c.args.place, ap (λ (z : Ends). z.len) c.ends_at-ends.ensures) in
    rw (← c.self.view_is, c.push_reserved.ensures.items, c.link_at-link.ensures)
    (same-table (lists_in links (set es c.args.place (behind links e)))
    (set (lists_in links es) c.args.place (drop 1 (list_at (lists_in links es) c.args.place)))
    (length (free ++ e.first ∷ [])) (length free + 1)
    (lists-popped links es free c.args.place e c.self.invariant.0 c.ends_at-ends.ensures some)
    (omega (arith, length-end free e.first)))
