use Rattle.std.proofs.Common.{◌∙◌}
use Rattle.poll_steps.specs.Steps.{is_sent}
use Rattle.poll_steps.proofs.SendLemmas.{kind-at}
use Rattle.poll_steps.proofs.sending.sent_at.Goals as goal

pub returns : goal.returns
returns c =
    c.is_sent.ensures ∙ kind-at is_sent c.args.facts.now c.args.place c.fact_at.result.now c.fact_at.ensures
