use Rattle.std.proofs.Common.{ap, sym, ◌∙◌, Some}
use Rattle.std.specs.Prelude.{slice_get}
use Rattle.pacing_wheel.specs.Wheel.{is_first}
use Rattle.pacing_wheel.proofs.DueLemmas.{least-due}
use Rattle.pacing_wheel.proofs.MergeLemmas.{first-within}
use Rattle.pacing_wheel.proofs.pacer.overflow_is_first.Goals as goal

pub returns : goal.returns
returns c =
    let o = c.in-Some.first in
    let xs = c.args.dial.now.items in
    c.is_first.ensures
    ∙ (ap (is_first (Some o)) (c.first_due-second.ensures ∙ least-due o.due xs c.sound.ensures.sorted)
    ∙ (first-within o (slice_get xs 0)
    ∙ ap (λ f. is_first f (slice_get xs 0)) (sym c.in-Some.is ∙ c.front.ensures.front)))
