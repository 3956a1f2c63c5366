-- What is counted of a node is counted over its run.
use Rattle.world_laws.proofs.NodeLaws.{happens-once}
use Rattle.world_laws.proofs.laws.happens_at_most_once.Goals as goal

pub returns : goal.returns
returns c = happens-once
