use Rattle.std.proofs.Common.{sym, ◌∙◌}
use Rattle.pacing_wheel.proofs.DueLemmas.{late-first, none-first, now-first}
use Rattle.pacing_wheel.proofs.due_list.DueList.first_due.Goals as goal

pub returns-in_default : goal.returns-in_default
returns-in_default c =
    none-first c.args.now c.args.self.now.items c.sound.ensures.sorted (sym c.front.ensures.front ∙ c.in_default.is)

pub returns-then-first-now : goal.returns-then-first-now
returns-then-first-now c =
    late-first c.args.now c.args.self.now.items c.sound.ensures.sorted c.in-Some.first
    (sym c.front.ensures.front ∙ c.in-Some.is) c.if-first-now.true

pub returns : goal.returns
returns c =
    now-first c.args.now c.args.self.now.items c.sound.ensures.sorted c.in-Some.first
    (sym c.front.ensures.front ∙ c.in-Some.is) c.if-first-now.false
