-- The names of the jobs that wait are in the order of giving.
use Rattle.work_laws.proofs.WorkLaws.{works-one}
use Rattle.work_laws.proofs.laws.works_by_order.Goals as goal

pub returns : goal.returns
returns c = works-one
