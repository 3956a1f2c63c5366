-- Each node's facts are those of a run.
use Rattle.world_laws.proofs.NodeLaws.{older-clean}
use Rattle.world_laws.proofs.laws.older_requests_are_not_queued.Goals as goal

pub returns : goal.returns
returns c = older-clean
