-- No job is worked or finished.
use Rattle.work_laws.proofs.StayLaws.{idle-knows}
use Rattle.work_laws.proofs.laws.stays_idle.Goals as goal

pub returns : goal.returns
returns c = idle-knows
