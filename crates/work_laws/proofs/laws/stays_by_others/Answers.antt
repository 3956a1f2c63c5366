-- No job of the node is worked or finished.
use Rattle.work_laws.proofs.StayLaws.{others-knows}
use Rattle.work_laws.proofs.laws.stays_by_others.Goals as goal

pub returns : goal.returns
returns c = others-knows
