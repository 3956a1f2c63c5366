-- Each node's facts are those of a run.
use Rattle.world_laws.proofs.NodeLaws.{credit-balances}
use Rattle.world_laws.proofs.laws.credit_balances.Goals as goal

pub returns : goal.returns
returns c = credit-balances
