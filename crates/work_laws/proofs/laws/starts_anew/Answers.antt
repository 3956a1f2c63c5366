-- No worked job of the node is left, and its new lists have none out.
use Rattle.work_laws.proofs.StayLaws.{restart-knows}
use Rattle.work_laws.proofs.laws.starts_anew.Goals as goal

pub returns : goal.returns
returns c = restart-knows
