-- By computing what each fact leaves.
use Rattle.node_laws.proofs.PassedOverLaws.{passed-over}
use Rattle.node_laws.proofs.laws.datagrams_are_passed_over.Goals as goal

pub returns : goal.returns
returns c = passed-over
