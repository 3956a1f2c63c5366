use Rattle.front_laws.proofs.RunFronts.{run-front}
use Rattle.front_laws.proofs.laws.runs_are_cut.Goals as goal

pub returns : goal.returns
returns c = run-front
