-- Queued packets are within the window of an active call, and a request number is given out once.
use Rattle.node_laws.proofs.EndedLaws.{ended}
use Rattle.node_laws.proofs.laws.ended_calls_are_not_queued.Goals as goal

pub returns : goal.returns
returns c = ended
