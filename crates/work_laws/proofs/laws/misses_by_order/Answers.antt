-- As many jobs wait.
use Rattle.work_laws.proofs.WorkLaws.{misses-one}
use Rattle.work_laws.proofs.laws.misses_by_order.Goals as goal

pub returns : goal.returns
returns c = misses-one
