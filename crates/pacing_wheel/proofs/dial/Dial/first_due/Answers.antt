use Rattle.std.proofs.Common.{ap, sym, ◌∙◌}
use Rattle.std.specs.Prelude.{slice_get}
use Rattle.pacing_wheel.specs.Chains.{list_at}
use Rattle.pacing_wheel.proofs.DialLemmas.{due-by, none-before}
use Rattle.pacing_wheel.proofs.dial.Dial.first_due.Goals as goal

pub returns-then-now-self : goal.returns-then-now-self
returns-then-now-self c =
    rw (← c.self.view_is) (sym (none-before c.self.inside.cursor c.args.now c.self.inside.chains.lists
    c.self.invariant.0 c.if-now-self.true))

pub returns : goal.returns
returns c =
    let ls = c.self.inside.chains.lists in
    let e = c.next_time-time.ensures in
    rw (← c.self.view_is) (c.first.ensures ∙ (ap (λ k. slice_get (list_at ls k) 0) c.place_of.ensures
    ∙ due-by c.next_time-time.result c.args.now ls e.turn e.to e.found))
