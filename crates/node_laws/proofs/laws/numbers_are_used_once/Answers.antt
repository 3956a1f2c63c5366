-- What is used is counted, and isn't there again.
use Rattle.node_laws.proofs.UsedLaws.{used}
use Rattle.node_laws.proofs.laws.numbers_are_used_once.Goals as goal

pub returns : goal.returns
returns c = used
