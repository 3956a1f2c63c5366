use Rattle.std.proofs.Common.{ap, sym, ◌∙◌, drop, None}
use Rattle.std.specs.Prelude.{option_map, slice_get}
use Rattle.rpc_base.specs.Least.{least}
use Rattle.rpc_base.proofs.LeastLemmas.{least-same}
use Rattle.pacing_wheel.specs.Wheel.{due_of, entry_of, is_due, wheel}
use Rattle.pacing_wheel.proofs.DueLemmas.{one-due}
use Rattle.pacing_wheel.proofs.pacer.Pacer.release.Goals as goal

pub returns-in_default-clause-left : goal.returns-in_default-clause-left
returns-in_default-clause-left c =
    let items = c.args.self.now.items in
    let none = (ap (λ w. least (is_due c.args.now) due_of w.items) (sym c.turn.ensures) ∙ sym c.first_due.ensures.due)
    ∙ c.in_default.is in
    c.turn.ensures ∙ ap (λ ys. wheel ys c.args.self.now.size) (sym (least-same (is_due c.args.now) due_of items None (sym none)))

pub returns-clause-released : goal.returns-clause-released
returns-clause-released c =
    let items = c.args.self.now.items in
    let some = (ap (λ w. least (is_due c.args.now) due_of w.items) (sym c.turn.ensures) ∙ sym c.first_due.ensures.due)
    ∙ c.in-Some.is in
    let one = one-due c.args.now items c.in-Some._first some c.sound.ensures in
    c.pop.ensures.front ∙ ap (option_map entry_of) (ap (λ w. slice_get w.items 0) c.turn.ensures ∙ (one.0 ∙ sym some))

pub returns-clause-left : goal.returns-clause-left
returns-clause-left c =
    let items = c.args.self.now.items in
    let some = (ap (λ w. least (is_due c.args.now) due_of w.items) (sym c.turn.ensures) ∙ sym c.first_due.ensures.due)
    ∙ c.in-Some.is in
    let one = one-due c.args.now items c.in-Some._first some c.sound.ensures in
    c.pop.ensures.rest ∙ (ap (λ w. wheel (drop 1 w.items) w.size) c.turn.ensures
    ∙ ap (λ ys. wheel ys c.args.self.now.size) (sym one.1))
