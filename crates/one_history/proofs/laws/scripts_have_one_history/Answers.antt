-- From each stage a command leads to one stage by one group of facts.
use Rattle.one_history.proofs.StagesOnce.{one-history, one-stage}
use Rattle.one_history.proofs.laws.scripts_have_one_history.Goals as goal

pub returns-clause-history : goal.returns-clause-history
returns-clause-history c = one-history

pub returns-clause-stage : goal.returns-clause-stage
returns-clause-stage c = one-stage
