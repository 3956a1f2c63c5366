-- The first name, and then the others.
use Rattle.work_laws.proofs.WorkLaws.{works-next}
use Rattle.work_laws.proofs.laws.works_next.Goals as goal

pub returns : goal.returns
returns c = works-next
