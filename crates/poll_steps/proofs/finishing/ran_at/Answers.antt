use Rattle.std.proofs.Common.{◌∙◌}
use Rattle.poll_steps.specs.Steps.{is_ran}
use Rattle.poll_steps.proofs.SendLemmas.{kind-at}
use Rattle.poll_steps.proofs.finishing.ran_at.Goals as goal

pub returns : goal.returns
returns c =
    c.is_ran.ensures ∙ kind-at is_ran c.args.facts.now c.args.place c.fact_at.result.now c.fact_at.ensures
