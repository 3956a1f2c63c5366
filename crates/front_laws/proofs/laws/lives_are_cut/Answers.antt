use Rattle.front_laws.proofs.RunFronts.{life-front}
use Rattle.front_laws.proofs.laws.lives_are_cut.Goals as goal

pub returns : goal.returns
returns c = life-front
