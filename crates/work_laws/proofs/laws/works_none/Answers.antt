-- No name is no job.
use Rattle.work_laws.proofs.WorkLaws.{works-none}
use Rattle.work_laws.proofs.laws.works_none.Goals as goal

pub returns : goal.returns
returns c = works-none
