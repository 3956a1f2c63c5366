use Rattle.std.proofs.Common.{ℕ, ap, take, ◌∙◌}
use Rattle.std.proofs.lemmas.List.{take_min}
use Rattle.rpc_laws.specs.NodeLists.{after_all}
use Rattle.poll_steps.proofs.hearing.apply_told.Goals as goal

pub returns-clause-applied : goal.returns-clause-applied
returns-clause-applied c =
    let facts = c.args.facts.now in
    c.in_ok-apply_all.ensures.lists
    ∙ ap (after_all c.args.clock c.args.lists.now)
    (ap (λ (k : ℕ). take k facts) c.min-count.ensures ∙ take_min c.args.told facts)
