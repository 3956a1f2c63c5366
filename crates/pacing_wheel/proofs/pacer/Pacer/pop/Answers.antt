use Rattle.std.proofs.Common.{ap, sym, ◌∙◌}
use Rattle.std.specs.Prelude.{option_map}
use Rattle.pacing_wheel.specs.Wheel.{entry_of, wheel}
use Rattle.pacing_wheel.proofs.MergeLemmas.{in-order, pop-first, pop-second}
use Rattle.pacing_wheel.proofs.pacer.Pacer.pop.Goals as goal

pub returns-then-overflow_is_first-clause-front : goal.returns-then-overflow_is_first-clause-front
returns-then-overflow_is_first-clause-front c =
    let os = c.self.inside.overflow.items in
    let xs = c.self.inside.dial.items in
    let h = pop-first os xs (in-order os c.sound.ensures.sorted) (in-order xs c.sound-2.ensures.sorted)
    (sym c.overflow_is_first.ensures ∙ c.if-overflow_is_first.true) in
    rw (← c.self.view_is) (c.pop.ensures.front ∙ ap (option_map entry_of) (sym h.0))

pub returns-then-overflow_is_first-clause-rest : goal.returns-then-overflow_is_first-clause-rest
returns-then-overflow_is_first-clause-rest c =
    let os = c.self.inside.overflow.items in
    let xs = c.self.inside.dial.items in
    let h = pop-first os xs (in-order os c.sound.ensures.sorted) (in-order xs c.sound-2.ensures.sorted)
    (sym c.overflow_is_first.ensures ∙ c.if-overflow_is_first.true) in
    rw (← c.self.view_is, c.pop.ensures.rest) (ap (λ ys. wheel ys c.self.inside.size) (sym h.1))

pub returns-else-overflow_is_first-clause-front : goal.returns-else-overflow_is_first-clause-front
returns-else-overflow_is_first-clause-front c =
    let os = c.self.inside.overflow.items in
    let xs = c.self.inside.dial.items in
    let h = pop-second os xs (in-order os c.sound.ensures.sorted) (in-order xs c.sound-2.ensures.sorted)
    (sym c.overflow_is_first.ensures ∙ c.if-overflow_is_first.false) in
    rw (← c.self.view_is) (c.pop-else-overflow_is_first.ensures.front ∙ ap (option_map entry_of) (sym h.0))

pub returns-else-overflow_is_first-clause-rest : goal.returns-else-overflow_is_first-clause-rest
returns-else-overflow_is_first-clause-rest c =
    let os = c.self.inside.overflow.items in
    let xs = c.self.inside.dial.items in
    let h = pop-second os xs (in-order os c.sound.ensures.sorted) (in-order xs c.sound-2.ensures.sorted)
    (sym c.overflow_is_first.ensures ∙ c.if-overflow_is_first.false) in
    rw (← c.self.view_is, c.pop-else-overflow_is_first.ensures.rest)
    (ap (λ ys. wheel ys c.self.inside.size) (sym h.1))
