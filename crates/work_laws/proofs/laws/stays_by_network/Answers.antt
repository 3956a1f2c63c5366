-- No job of the node is worked or finished.
use Rattle.work_laws.proofs.StayLaws.{net-knows}
use Rattle.work_laws.proofs.laws.stays_by_network.Goals as goal

pub returns : goal.returns
returns c = net-knows
