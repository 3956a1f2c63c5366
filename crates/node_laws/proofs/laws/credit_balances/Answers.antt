-- Each fact of a run keeps the credits of each session in balance.
use Rattle.node_laws.proofs.CreditLaws.{credit}
use Rattle.node_laws.proofs.laws.credit_balances.Goals as goal

pub returns : goal.returns
returns c = credit
