use Rattle.std.proofs.Common.{◌≡◌, false, sym, ◌∙◌, subst}
use Rattle.std.specs.Prelude.{IsNone, ◌↔◌}
use Rattle.std.specs.List.{list_any}
use Rattle.rpc_base.proofs.LeastLemmas.{least-none}
use Rattle.pacing_wheel.specs.Wheel.{due_of, is_due, merged}
use Rattle.pacing_wheel.proofs.MergeLemmas.{due-both}
use Rattle.pacing_wheel.proofs.pacer.Pacer.first_due.Goals as goal

pub returns-clause-due : goal.returns-clause-due
returns-clause-due c =
    let os = c.self.inside.overflow.items in
    let xs = c.self.inside.dial.items in
    rw (← c.self.view_is) (c.earlier.ensures ∙ (rw (c.first_due.ensures, c.first_due-2.ensures)
    (due-both c.args.now os xs c.sound.ensures.sorted c.sound-2.ensures.sorted)))

pub returns-clause-none : goal.returns-clause-none
returns-clause-none c =
    let os = c.self.inside.overflow.items in
    let xs = c.self.inside.dial.items in
    rw (← c.self.view_is) (subst (λ o. IsNone o ↔ (list_any (is_due c.args.now) (merged os xs) ≡ false))
    (sym (c.earlier.ensures ∙ (rw (c.first_due.ensures, c.first_due-2.ensures)
    (due-both c.args.now os xs c.sound.ensures.sorted c.sound-2.ensures.sorted))))
    (least-none (is_due c.args.now) due_of (merged os xs)))
