-- Each node's facts are those of a run.
use Rattle.world_laws.proofs.NodeLaws.{sessions-clean}
use Rattle.world_laws.proofs.laws.ended_sessions_are_not_queued.Goals as goal

pub returns : goal.returns
returns c = sessions-clean
