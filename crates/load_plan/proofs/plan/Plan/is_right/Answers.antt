-- a right answer, by the manner of the type
use Rattle.std.proofs.Common.{ap, sym, ◌∙◌}
use Rattle.load_plan.proofs.RightLemmas.{right-echo, right-fill, right-reverse, right-tally}
use Rattle.load_plan.specs.Calls.{Calls}
use Rattle.load_plan.proofs.plan.Plan.is_right.Goals as goal

pub returns-in-Echo : goal.returns-in-Echo
returns-in-Echo c =
    let same = ap (λ (k : Calls). k.req_type) c.self.view_is in
    c.is_echo.ensures
    ∙ sym (right-echo c.args.self.now c.args.call c.args.answer.now (rw same at c.self.invariant.1)
    (rw same at (sym c.of.ensures ∙ c.in-Echo.is)))

pub returns-in-Reverse : goal.returns-in-Reverse
returns-in-Reverse c =
    let same = ap (λ (k : Calls). k.req_type) c.self.view_is in
    c.is_reverse.ensures
    ∙ sym (right-reverse c.args.self.now c.args.call c.args.answer.now
    (rw same at c.self.invariant.1) (rw same at (sym c.of.ensures ∙ c.in-Reverse.is)))

pub returns-in-Tally : goal.returns-in-Tally
returns-in-Tally c =
    let same = ap (λ (k : Calls). k.req_type) c.self.view_is in
    sym (right-tally c.args.self.now c.args.call c.args.answer.now (rw same at c.self.invariant.1)
    (rw same at (sym c.of.ensures ∙ c.in-Tally.is)))

pub returns-in-Fill : goal.returns-in-Fill
returns-in-Fill c =
    let same = ap (λ (k : Calls). k.req_type) c.self.view_is in
    let size = ap (λ (k : Calls). k.size) c.self.view_is in
    c.is_fill.ensures
    ∙ sym (right-fill c.args.self.now c.args.call c.args.answer.now (rw same at c.self.invariant.1)
    (rw size at c.self.invariant.0) (rw same at (sym c.of.ensures ∙ c.in-Fill.is)))
