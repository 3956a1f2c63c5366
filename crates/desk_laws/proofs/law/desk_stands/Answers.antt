use Rattle.desk_laws.proofs.StandLemmas.{stands-on}
use Rattle.desk_laws.proofs.law.desk_stands.Goals as goal

pub returns : goal.returns
returns g c = stands-on g.V.Service g.D.Duty.answer
