use Rattle.std.proofs.Common.{◌∙◌, ◌≡◌, ◌<◌, arith, sym, subst, length, get_or}
use Rattle.std.specs.Prelude.{Some}
use Rattle.std.proofs.lemmas.List.{get_or_default}
use Rattle.calling_sessions.specs.Rising.{IsNext}
use Rattle.calling_sessions.proofs.RisingLemmas.{next-none, next-there}
use Rattle.calling_sessions.proofs.callers.CallingSessions.next.Goals as goal

pub returns-then-place-len : goal.returns-then-place-len
returns-then-place-len c =
    let xs = c.self.inside.numbers.items in
    let p = c.place_from-place.result in
    let inside : p < length xs = omega (arith, c.if-place-len.true, c.len.ensures) in
    let is : get_or xs p 0 ≡ c.index.result.now =
    get_or_default xs p 0 c.index.result.now inside ∙ sym c.index.ensures in
    rw (← c.self.view_is) (subst (λ m. IsNext c.args.from xs (Some m)) is
    (next-there xs c.args.from p c.self.invariant.0 inside
    (rw (← c.self.view_is) at c.place_from-place.ensures.below)
    (rw (← c.self.view_is) at c.place_from-place.ensures.above)))

pub returns : goal.returns
returns c =
    let xs = c.self.inside.numbers.items in
    rw (← c.self.view_is) (next-none xs c.args.from c.place_from-place.result
    (omega (arith, c.if-place-len.false, c.len.ensures))
    (rw (← c.self.view_is) at c.place_from-place.ensures.below))
