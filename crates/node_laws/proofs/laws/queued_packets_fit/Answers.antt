-- A packet is posted with the number after those that are queued, and each queued packet is an unanswered one.
use Rattle.node_laws.proofs.QueueFitsLaws.{queue-fits}
use Rattle.node_laws.proofs.laws.queued_packets_fit.Goals as goal

pub returns : goal.returns
returns c = queue-fits
