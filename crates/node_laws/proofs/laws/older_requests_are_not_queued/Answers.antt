-- Queued replies are of requests that stand in their slots, and a newer request first flushes the older one.
use Rattle.node_laws.proofs.OlderLaws.{older_clean}
use Rattle.node_laws.proofs.laws.older_requests_are_not_queued.Goals as goal

pub returns : goal.returns
returns c = older_clean
