use Rattle.std.proofs.Common.{ap, refl, ◌∙◌, arith, length, ◌<◌, ◌-◌, ◌+◌, set}
use Rattle.pacing_wheel.specs.declared.chains.Link.{Link}
use Rattle.pacing_wheel.specs.declared.chains.Ends.{Ends}
use Rattle.pacing_wheel.specs.Chains.{with_last, lists_in, nothing}
use Rattle.pacing_wheel.proofs.PushLemmas.{top-free, tied-begun, tied-longer, lists-begun, lists-longer, lists-length, length-set, get-same, known, same-table, one-less}
use Rattle.pacing_wheel.proofs.chains.Chains.push.Goals as goal

pub index_mut-requires : goal.index_mut-requires
index_mut-requires c =
    let top = top-free c.self.inside.links.items c.self.inside.places.items c.pop.new.self.items c.in-Some.k
    (rw c.in-Some.ensures.items at c.self.invariant.0) in
    omega (arith, top.1, c.self.inside.links.ok.0)

pub invariant_of-self : goal.invariant_of-self
invariant_of-self c =
    let links = c.self.inside.links.items in
    let es = c.self.inside.places.items in (
      tied-begun links es c.pop.new.self.items c.in-Some.k c.args.place (record { item = c.args.item; next = c.in-Some.k })
          (record { first = c.in-Some.k; last = c.in-Some.k; len = 1 }) c.index-ends.result.now
          (rw c.in-Some.ensures.items at c.self.invariant.0) refl refl refl
          (omega (arith, (rw (← c.self.view_is) at c.requires.place), lists-length links es))
          (omega (arith, ap (λ z. z.len) c.index-ends.ensures, c.if-ends-eq0.true)),
      omega (arith, length-set links c.in-Some.k (record { item = c.args.item; next = c.in-Some.k }), c.self.invariant.1, c.in-Some.ensures.capacity),
    )

pub returns-then-ends-eq0 : goal.returns-then-ends-eq0
returns-then-ends-eq0 c =
    let links = c.self.inside.links.items in
    let es = c.self.inside.places.items in
    let x : Link = record { item = c.args.item; next = c.in-Some.k } in
    let b : Ends = record { first = c.in-Some.k; last = c.in-Some.k; len = 1 } in
    let top = top-free links es c.pop.new.self.items c.in-Some.k (rw c.in-Some.ensures.items at c.self.invariant.0) in
    rw (← c.self.view_is) (same-table (lists_in (set links c.in-Some.k x) (set es c.args.place b))
    (with_last c.args.place c.args.item (lists_in links es)) (length c.pop.new.self.items)
    (length c.self.inside.free.items - 1)
    (lists-begun links c.in-Some.k x b top.1 refl refl refl es c.args.place c.index-ends.result.now top.0
    (omega (arith, (rw (← c.self.view_is) at c.requires.place), lists-length links es))
    (omega (arith, ap (λ z. z.len) c.index-ends.ensures, c.if-ends-eq0.true)))
    (one-less c.pop.new.self.items c.self.inside.free.items c.in-Some.k c.in-Some.ensures.items))

pub index-last-requires : goal.index-last-requires
index-last-requires c =
    let links = c.self.inside.links.items in
    let es = c.self.inside.places.items in
    let e = c.index-ends.result.now in
    let know = known links es c.pop.new.self.items c.in-Some.k c.args.place e
    (rw c.in-Some.ensures.items at c.self.invariant.0)
    (omega (arith, (rw (← c.self.view_is) at c.requires.place), lists-length links es)) c.index-ends.ensures
    (omega (arith, c.if-ends-eq0.false)) in
    omega (arith, know.low, c.self.inside.links.ok.0)

pub index_mut-requires-2 : goal.index_mut-requires-2
index_mut-requires-2 c =
    let links = c.self.inside.links.items in
    let es = c.self.inside.places.items in
    let e = c.index-ends.result.now in
    let know = known links es c.pop.new.self.items c.in-Some.k c.args.place e
    (rw c.in-Some.ensures.items at c.self.invariant.0)
    (omega (arith, (rw (← c.self.view_is) at c.requires.place), lists-length links es)) c.index-ends.ensures
    (omega (arith, c.if-ends-eq0.false)) in
    omega (arith, know.low, c.self.inside.links.ok.0)

pub overflow_add-ends : goal.overflow_add-ends
overflow_add-ends c =
    let links = c.self.inside.links.items in
    let es = c.self.inside.places.items in
    let e = c.index-ends.result.now in
    let know = known links es c.pop.new.self.items c.in-Some.k c.args.place e
    (rw c.in-Some.ensures.items at c.self.invariant.0)
    (omega (arith, (rw (← c.self.view_is) at c.requires.place), lists-length links es)) c.index-ends.ensures
    (omega (arith, c.if-ends-eq0.false)) in
    omega (arith, know.few)

pub invariant_of-self-2 : goal.invariant_of-self-2
invariant_of-self-2 c =
    let links = c.self.inside.links.items in
    let es = c.self.inside.places.items in
    let e = c.index-ends.result.now in
    let x : Link = record { item = c.args.item; next = c.in-Some.k } in
    let y : Link = record { item = c.index-last.result.now.item; next = c.in-Some.k } in
    let b : Ends = record { first = e.first; last = c.in-Some.k; len = e.len + 1 } in
    let t = (rw c.in-Some.ensures.items at c.self.invariant.0) in
    let inside : c.args.place < length es = (omega (arith, (rw (← c.self.view_is) at c.requires.place), lists-length links es)) in
    let know = known links es c.pop.new.self.items c.in-Some.k c.args.place e t inside c.index-ends.ensures
    (omega (arith, c.if-ends-eq0.false)) in
    let low : e.last < length (set links c.in-Some.k x) = (omega (arith, know.low, length-set links c.in-Some.k x)) in (
      tied-longer links es c.pop.new.self.items c.in-Some.k e.last c.args.place x y b e t low
          (ap (λ z. z.item) (c.index-last.ensures ∙ get-same (set links c.in-Some.k x) e.last c.index-last.result.now nothing low))
          refl refl inside (omega (arith, c.if-ends-eq0.false, ap (λ z. z.len) c.index-ends.ensures))
          (ap (λ z. z.first) c.index-ends.ensures) (omega (arith, ap (λ z. z.len) c.index-ends.ensures))
          know.there know.one,
      omega (arith, length-set links c.in-Some.k x, length-set (set links c.in-Some.k x) e.last y, c.self.invariant.1, c.in-Some.ensures.capacity),
    )

pub returns : goal.returns
returns c =
    let links = c.self.inside.links.items in
    let es = c.self.inside.places.items in
    let e = c.index-ends.result.now in
    let x : Link = record { item = c.args.item; next = c.in-Some.k } in
    let y : Link = record { item = c.index-last.result.now.item; next = c.in-Some.k } in
    let b : Ends = record { first = e.first; last = c.in-Some.k; len = e.len + 1 } in
    let t = (rw c.in-Some.ensures.items at c.self.invariant.0) in
    let inside : c.args.place < length es = (omega (arith, (rw (← c.self.view_is) at c.requires.place), lists-length links es)) in
    let know = known links es c.pop.new.self.items c.in-Some.k c.args.place e t inside c.index-ends.ensures
    (omega (arith, c.if-ends-eq0.false)) in
    let low : e.last < length (set links c.in-Some.k x) = (omega (arith, know.low, length-set links c.in-Some.k x)) in
    let top = top-free links es c.pop.new.self.items c.in-Some.k t in
    rw (← c.self.view_is) (same-table (lists_in (set (set links c.in-Some.k x) e.last y) (set es c.args.place b))
    (with_last c.args.place c.args.item (lists_in links es)) (length c.pop.new.self.items)
    (length c.self.inside.free.items - 1)
    (lists-longer links c.in-Some.k e.last x y b top.1 low
    (ap (λ z. z.item) (c.index-last.ensures ∙ get-same (set links c.in-Some.k x) e.last c.index-last.result.now nothing low))
    refl refl es c.args.place e top.0 know.one inside (omega (arith, c.if-ends-eq0.false, ap (λ z. z.len) c.index-ends.ensures))
    (ap (λ z. z.first) c.index-ends.ensures) (omega (arith, ap (λ z. z.len) c.index-ends.ensures))
    know.there)
    (one-less c.pop.new.self.items c.self.inside.free.items c.in-Some.k c.in-Some.ensures.items))
